-- What a file is, out of any container, or the first fault of its bytes.
use Rattle.std.specs.Prelude.{◌≡◌, ℕ, List, [], ◌∷◌, Option, None, Some, option_map, unwrap_or, Result, Ok, Err}
use Rattle.std.specs.Option.{option_copied}
use Rattle.mac_files.specs.declared.bin_hex.fault.BinHexFault.{BinHexFault}
use Rattle.mac_files.specs.declared.contents.Contents.{Contents}
use Rattle.mac_files.specs.declared.contents.Dates.{Dates}
use Rattle.mac_files.specs.declared.contents.FinderInfo.{FinderInfo}
use Rattle.mac_files.specs.declared.fault.ContainerFault.{ContainerFault}
use Rattle.mac_files.specs.declared.kind.FileKind.{FileKind}
use Rattle.mac_files.specs.declared.kind.FileKind.TheVariants as kind
use Rattle.mac_files.specs.declared.old_file.FileFault.{FileFault}
use Rattle.mac_files.specs.declared.old_file.FileFault.TheVariants as fault
use Rattle.mac_files.specs.declared.old_file.FileView.{FileView}
use Rattle.mac_files.specs.declared.old_file.OldFile.{OldFile}
use Rattle.mac_files.specs.declared.old_file.OldFile.TheVariants.{Own, Text}
use Rattle.mac_files.specs.declared.part.Part.{Part}
use Rattle.mac_files.specs.declared.archive.Archive.{Archive}
use Rattle.mac_files.specs.Archives.{archive_of}
use Rattle.mac_files.specs.BinHex.{File, bin_hex_of}
use Rattle.mac_files.specs.BinHexFiles.{view as bin_hex_view}
use Rattle.mac_files.specs.Containers.{contents_of, fault_of}
use Rattle.mac_files.specs.Kinds.{kind_of}
use Rattle.mac_files.specs.Parts.{bytes_of}

-- what a file is: a part that there isn't is empty, but of a resource fork it is known whether there is one
pub record Said : Type 0 where
  pub name : List ℕ
  pub comment : List ℕ
  pub finder : Option FinderInfo
  pub dates : Option Dates
  pub data_fork : List ℕ
  pub resource_fork : Option (List ℕ)

-- the bytes of a part, or none where there is no part
abbrev pub told_bytes : Option Part → List ℕ → List ℕ
told_bytes None file = []
told_bytes (Some part) file = bytes_of part file

-- what a container says, whose parts are in these bytes
abbrev pub said_in : List ℕ → Contents → Said
said_in bytes contents = record {
  name = told_bytes contents.name bytes;
  comment = told_bytes contents.comment bytes;
  finder = contents.finder;
  dates = contents.dates;
  data_fork = told_bytes contents.data_fork bytes;
  resource_fork = option_map (λ part. bytes_of part bytes) contents.resource_fork;
}

-- a fork of these bytes; one of no bytes is none
abbrev pub fork_with : List ℕ → Option (List ℕ)
fork_with [] = None
fork_with (byte ∷ bytes) = Some (byte ∷ bytes)

-- what a BinHex text says: neither a comment nor dates
abbrev pub said_of_text : File → Said
said_of_text file = record {
  name = file.name;
  comment = [];
  finder = Some (record { kind = file.kind; creator = file.creator; flags = file.flags });
  dates = None;
  data_fork = file.data_fork;
  resource_fork = fork_with file.resource_fork;
}

-- a file that is nothing but a resource fork
abbrev pub whole : List ℕ → Said
whole bytes = record { name = []; comment = []; finder = None; dates = None; data_fork = []; resource_fork = Some bytes }

-- what is said, unless there is a fault
abbrev pub unless_fault : Option ContainerFault → Said → Result Said FileFault
unless_fault None it = Ok it
unless_fault (Some why) it = Err (fault.Container why)

abbrev pub told_by_text : Result File BinHexFault → Result Said FileFault
told_by_text (Ok file) = Ok (said_of_text file)
told_by_text (Err why) = Err (fault.Text why)

-- what bytes say that are read as this
abbrev pub read_as : FileKind → List ℕ → Result Said FileFault
read_as (kind.Container container) bytes = unless_fault (fault_of container bytes) (said_in bytes (contents_of container bytes))
read_as kind.BinHex bytes = told_by_text (bin_hex_of bytes)
read_as (kind.Archive archive) bytes = Ok (whole bytes)
read_as kind.Unknown bytes = Ok (whole bytes)

-- what bytes say as what they are known as, or their first fault
abbrev pub old_file : List ℕ → Result Said FileFault
old_file bytes = read_as (kind_of bytes) bytes

-- the resource fork of what is said
abbrev pub fork_said : Result Said FileFault → Result (Option (List ℕ)) FileFault
fork_said (Ok it) = Ok it.resource_fork
fork_said (Err why) = Err why

-- what an opened file is, and what its bytes are known as
abbrev pub said : FileView → Said
said view = record {
  name = view.name.now;
  comment = view.comment.now;
  finder = view.finder;
  dates = view.dates;
  data_fork = view.data_fork.now;
  resource_fork = option_copied view.resource_fork;
}

abbrev pub said_by : OldFile → Said
said_by (Own known view) = said view
said_by (Text file) = said_of_text (bin_hex_view file)

abbrev pub kind_by : OldFile → FileKind
kind_by (Own known view) = known
kind_by (Text file) = kind.BinHex

-- its resource fork; no bytes where there is none
abbrev pub fork_of : OldFile → List ℕ
fork_of file = unwrap_or (said_by file).resource_fork []

-- the archive or image that its data fork is known as
abbrev pub data_archive : Said → Option Archive
data_archive it = archive_of it.data_fork

-- why bytes of this kind aren't opened: their first fault, or for a text that the host has no memory
abbrev pub IsUnopened : FileKind → List ℕ → FileFault → Type 0
IsUnopened known bytes fault.HostFull = known ≡ kind.BinHex
IsUnopened known bytes why = read_as known bytes ≡ Err why

-- what opening bytes of this kind gives: what they say, or why they aren't opened
abbrev pub Opens : FileKind → List ℕ → Result OldFile FileFault → Type 0
Opens known bytes (Ok file) = (kind_by file ≡ known) × (read_as known bytes ≡ Ok (said_by file))
Opens known bytes (Err why) = IsUnopened known bytes why
