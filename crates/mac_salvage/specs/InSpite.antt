-- The forks of a file in spite of a fault of its container.
use Rattle.std.specs.Prelude.{◌≡◌, ℕ, ◌==◌, if◌then◌else◌, true, List, length, Option, None, Some, option_and_then, option_map, Result, Ok, Err, ⊤}
use Rattle.std.specs.Result.{result_err}
use Rattle.mac_files.specs.declared.kind.FileKind.{FileKind}
use Rattle.mac_files.specs.declared.kind.FileKind.TheVariants as kind
use Rattle.mac_files.specs.declared.old_file.FileFault.{FileFault}
use Rattle.mac_files.specs.declared.old_file.FileFault.TheVariants.{HostFull}
use Rattle.mac_files.specs.declared.part.Part.{Part}
use Rattle.mac_files.specs.Kinds.{kind_of}
use Rattle.mac_files.specs.OldFiles.{IsUnopened, Said, kind_by as kind_opened, old_file, said_by}
use Rattle.mac_files.specs.Parts.{bytes_of}
use Rattle.mac_salvage.specs.declared.file.FileLeft.{FileLeft}
use Rattle.mac_salvage.specs.declared.file.FileLeft.TheVariants.{Parts, Text, Whole}
use Rattle.mac_salvage.specs.declared.place.ForkLeft.{ForkLeft}
use Rattle.mac_salvage.specs.declared.place.Places.{Places}
use Rattle.mac_salvage.specs.Places.{places_of, text_places}
use Rattle.mac_salvage.specs.Texts.{bytes_left, is_shut}

-- how many bytes a fork has as the container says, and those of them that are there
pub record Left : Type 0 where
  pub said : ℕ
  pub bytes : List ℕ

-- the bytes at the place of a part, as far as they reach; None where there are none
abbrev pub left_in : List ℕ → Part → Option Left
left_in bytes part =
    let there = bytes_of part bytes in
    if length there == 0 then None else Some (record { said = part.length; bytes = there })

-- a fork that is whole
abbrev pub whole_fork : List ℕ → Left
whole_fork bytes = record { said = length bytes; bytes = bytes }

-- both forks of a file
pub record Forks : Type 0 where
  pub data_fork : Option Left
  pub resource_fork : Option Left

-- the forks at these places, as far as the bytes reach
abbrev pub forks_at : Places → List ℕ → Forks
forks_at places bytes = record {
  data_fork = option_and_then (left_in bytes) places.data_fork;
  resource_fork = option_and_then (left_in bytes) places.resource_fork;
}

-- the forks of a file without a fault; a data fork without bytes is none
abbrev pub forks_said : Said → Forks
forks_said said = record {
  data_fork = if length said.data_fork == 0 then None else Some (whole_fork said.data_fork);
  resource_fork = option_map whole_fork said.resource_fork;
}

-- the forks of a file with a fault: those of a text are in the bytes that it stands for
abbrev pub forks_left : FileKind → List ℕ → Forks
forks_left kind.BinHex text = forks_at (text_places (bytes_left text)) (bytes_left text)
forks_left other file = forks_at (places_of other file) file

-- the forks of a file: as its container says, or as far as they reach where that has a fault
abbrev pub forks_by_fault : Result Said FileFault → List ℕ → Forks
forks_by_fault (Ok said) file = forks_said said
forks_by_fault (Err fault) file = forks_left (kind_of file) file

abbrev pub forks_in_spite : List ℕ → Forks
forks_in_spite file = forks_by_fault (old_file file) file

-- the first fault of a file's container
abbrev pub container_fault : List ℕ → Option FileFault
container_fault file = result_err (old_file file)

-- what is kept of a file
abbrev pub kind_by : FileLeft → FileKind
kind_by (Whole file) = kind_opened file
kind_by (Parts fault known file places) = known
kind_by (Text fault bytes places) = kind.BinHex

abbrev pub fault_by : FileLeft → Option FileFault
fault_by (Whole file) = None
fault_by (Parts fault known file places) = Some fault
fault_by (Text fault bytes places) = Some fault

abbrev pub forks_by : FileLeft → Forks
forks_by (Whole file) = forks_said (said_by file)
forks_by (Parts fault known file places) = forks_at places file.now
forks_by (Text fault bytes places) = forks_at places bytes.items

-- a fork that is handed out
abbrev pub left_by : ForkLeft → Left
left_by fork = record { said = fork.said; bytes = fork.bytes.now }

-- nothing can be had of a text with this fault
abbrev pub IsShut : List ℕ → FileFault → Type 0
IsShut file HostFull = ⊤
IsShut file fault = is_shut file ≡ true

-- What opening gives: the kind of the file, its fault if it has one, and its forks. Nothing of a text comes where the
-- host has no memory, or nothing begins it, or it is too long; then its first fault does.
abbrev pub OpensInSpite : List ℕ → Result FileLeft FileFault → Type 0
OpensInSpite file (Ok left) = (kind_by left ≡ kind_of file) × (fault_by left ≡ container_fault file) × (forks_by left ≡ forks_in_spite file)
OpensInSpite file (Err fault) = IsUnopened (kind_of file) file fault × IsShut file fault
