-- What an opened file is, out of any container.
use Rattle.std.specs.Prelude.{ℕ, [], Option, None, Some, unwrap_or}
use Rattle.mac_files.specs.declared.contents.Dates.{Dates}
use Rattle.mac_files.specs.declared.kind.FileKind.{FileKind}
use Rattle.mac_files.specs.declared.kind.FileKind.TheVariants.{Archive, BinHex, Container as In, Unknown}
use Rattle.mac_files.specs.OldFiles.{Said}
use Rattle.mac_write.specs.Parts.{Parts, date_of, no_finder}

-- a date as a file of this kind counts it, in seconds from the beginning of 1904
abbrev pub date_by : FileKind → ℕ → ℕ
date_by (In container) date = date_of container date
date_by BinHex date = date
date_by (Archive archive) date = date
date_by Unknown date = date

-- the first date and the second
abbrev pub created_by : FileKind → Option Dates → ℕ
created_by known None = 0
created_by known (Some dates) = date_by known dates.created

abbrev pub modified_by : FileKind → Option Dates → ℕ
modified_by known None = 0
modified_by known (Some dates) = date_by known dates.modified

-- what the file is
abbrev pub old_parts : FileKind → Said → Parts
old_parts known said = record {
  name = said.name;
  finder = unwrap_or said.finder no_finder;
  created = created_by known said.dates;
  modified = modified_by known said.dates;
  comment = said.comment;
  data_fork = said.data_fork;
  resource_fork = unwrap_or said.resource_fork [];
}
