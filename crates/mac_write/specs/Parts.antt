-- What a file is, out of any container. What a container doesn't say is empty or zero.
use Rattle.std.specs.Prelude.{◌≡◌, ◌<◌, ◌^◌, length, ℕ, ◌+◌, ◌-◌, ◌==◌, nat_lt, if◌then◌else◌, List, [], replicate, Option, None, Some, unwrap_or}
use Rattle.mac_files.specs.declared.part.Part.{Part}
use Rattle.mac_files.specs.declared.contents.Dates.{Dates}
use Rattle.mac_files.specs.declared.contents.FinderInfo.{FinderInfo}
use Rattle.mac_files.specs.declared.container.Container.{Container}
use Rattle.mac_files.specs.declared.container.Container.TheVariants.{Raw, AppleSingle, AppleDouble, MacBinary}
use Rattle.mac_files.specs.BinHex.{File}
use Rattle.mac_files.specs.Containers.{contents_of}
use Rattle.mac_files.specs.Parts.{bytes_of}
use Rattle.mac_write.specs.Bytes.{AreBytes}
use Rattle.mac_write.specs.declared.mac_file.MacFile.{MacFile}

pub record Parts : Type 0 where
  pub name : List ℕ
  pub finder : FinderInfo
  pub created : ℕ
  pub modified : ℕ
  pub comment : List ℕ
  pub data_fork : List ℕ
  pub resource_fork : List ℕ

abbrev pub view : MacFile → Parts
view file = record {
  name = file.name.now;
  finder = file.finder;
  created = file.created;
  modified = file.modified;
  comment = file.comment.now;
  data_fork = file.data_fork.now;
  resource_fork = file.resource_fork.now;
}

-- such a file is one of bytes
pub record IsFile (file : Parts) : Type 0 where
  pub name : AreBytes file.name
  pub comment : AreBytes file.comment
  pub data_fork : AreBytes file.data_fork
  pub resource_fork : AreBytes file.resource_fork
  pub kind : AreBytes file.finder.kind
  pub kind_length : length file.finder.kind ≡ 4
  pub creator : AreBytes file.finder.creator
  pub creator_length : length file.finder.creator ≡ 4
  pub flags : file.finder.flags < 2 ^ 16

-- a date of AppleSingle, which counts from the beginning of 2000 with a sign, in seconds from the beginning of 1904;
-- the least one and 0 are dates that aren't known
abbrev pub mac_date : ℕ → ℕ
mac_date date =
    if date == 0x80000000 then 0 else if nat_lt date 0x80000000 then date + 3029529600 else date - 1265437696

-- a file that the Finder knows nothing of
abbrev pub no_finder : FinderInfo
no_finder = record { kind = replicate 4 0; creator = replicate 4 0; flags = 0 }

-- a date as a container counts it, in seconds from the beginning of 1904
abbrev pub date_of : Container → ℕ → ℕ
date_of Raw date = date
date_of AppleSingle date = mac_date date
date_of AppleDouble date = mac_date date
date_of (MacBinary version) date = date

-- the first date and the second
abbrev pub created_in : Container → Option Dates → ℕ
created_in container None = 0
created_in container (Some dates) = date_of container dates.created

abbrev pub modified_in : Container → Option Dates → ℕ
modified_in container None = 0
modified_in container (Some dates) = date_of container dates.modified

-- the bytes of a part, if there is one
abbrev pub told_bytes : Option Part → List ℕ → List ℕ
told_bytes None file = []
told_bytes (Some part) file = bytes_of part file

-- what the file is
abbrev pub parts_of : Container → List ℕ → Parts
parts_of container file = let contents = contents_of container file in record {
  name = told_bytes contents.name file;
  finder = unwrap_or contents.finder no_finder;
  created = created_in container contents.dates;
  modified = modified_in container contents.dates;
  comment = told_bytes contents.comment file;
  data_fork = told_bytes contents.data_fork file;
  resource_fork = told_bytes contents.resource_fork file;
}

-- the same of a BinHex text
abbrev pub bin_hex_parts : File → Parts
bin_hex_parts file = record {
  name = file.name;
  finder = record { kind = file.kind; creator = file.creator; flags = file.flags };
  created = 0;
  modified = 0;
  comment = [];
  data_fork = file.data_fork;
  resource_fork = file.resource_fork;
}
