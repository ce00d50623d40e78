-- What is salvaged of files.
use Rattle.std.specs.Prelude.{◌≡◌, ◌≢◌, ◌⊎◌, ℕ, ◌<◌, Bool, true, false, List, [], length, Option, None, Some, string_bytes}
use Rattle.mac_files.specs.declared.fault.Fork.{Fork}
use Rattle.mac_files.specs.declared.fault.Fork.TheVariants as which
use Rattle.mac_files.specs.declared.kind.FileKind.{FileKind}
use Rattle.mac_files.specs.declared.old_file.FileFault.{FileFault}
use Rattle.mac_files.specs.Kinds.{kind_of, kind_text}
use Rattle.mac_salvage.specs.declared.file.FileLeft.{FileLeft}
use Rattle.mac_salvage.specs.InSpite.{Left, container_fault, fault_by, forks_by, forks_in_spite, kind_by}
use Rattle.mac_salvage.specs.Texts.{is_shut}
use Rattle.fork_list.specs.declared.letters.Letters.{Letters}
use Rattle.fork_answer.specs.declared.answer.Failure.TheVariants as failure
use Rattle.fork_answer.specs.declared.source.NoFork.{NoFork}
use Rattle.fork_answer.specs.declared.source.NoFork.TheVariants as no_fork
use Rattle.fork_answer.specs.Lines.{salvage_listing}
use Rattle.fork_answer.specs.Mended.{IsMendedFork, IsTooBig}
use Rattle.fork_report.specs.declared.damage.Tally.{Tally}
use Rattle.fork_report.specs.declared.damage.TheConstants.{MOST_FOUND}
use Rattle.fork_report.specs.declared.refusal.Refusal.{Refusal}
use Rattle.fork_report.specs.declared.refusal.Refusal.TheVariants as refusal
use Rattle.fork_report.specs.declared.salvaged.ContainerDamage.{ContainerDamage}
use Rattle.fork_report.specs.declared.salvaged.DataSalvaged.{DataSalvaged}
use Rattle.fork_report.specs.declared.salvaged.ForkSalvaged.{ForkSalvaged}
use Rattle.fork_report.specs.declared.salvaged.SalvageList.{SalvageList}
use Rattle.fork_report.specs.Damage.{IsDamaged, is_readable, tally_of}
use Rattle.fork_report.specs.Refused.{IsRefused, IsRefusedAsOther, IsTaken}

-- what is kept of a file that is taken for one with a fork in it
pub record HasLeft (file : List ℕ) (left : FileLeft) : Type 0 where
  pub kind : kind_by left ≡ kind_of file
  pub fault : fault_by left ≡ container_fault file
  pub forks : forks_by left ≡ forks_in_spite file
  pub taken : IsTaken file

-- why a file is refused: its container, where this is so of it; as another file; or the host has no memory
abbrev pub IsRefusedWhere : Type 0 → List ℕ → Refusal → Type 0
IsRefusedWhere gone file (refusal.Container container told) = IsRefused file (refusal.Container container told) × gone
IsRefusedWhere gone file (refusal.Inside archive) = IsRefused file (refusal.Inside archive) × gone
IsRefusedWhere gone file other = IsRefusedAsOther file other

-- why nothing is kept of a file
abbrev pub IsNotKept : List ℕ → Refusal → Type 0
IsNotKept file = IsRefusedWhere (is_shut file ≡ true) file

-- nothing of a fork is there: a text can't be read, or there is no such fork, or it has none of its bytes
abbrev pub IsGone : List ℕ → Option Left → Type 0
IsGone file fork = (fork ≡ None) ⊎ (is_shut file ≡ true)

-- why nothing is read of a file's resource fork
abbrev pub IsNotLeft : List ℕ → Refusal → Type 0
IsNotLeft file = IsRefusedWhere (IsGone file (forks_in_spite file).resource_fork) file

-- why a file that is kept has no such fork: its container has a fault, or there is none in it
abbrev pub lack_by : Option FileFault → NoFork
lack_by None = no_fork.Absent
lack_by (Some fault) = no_fork.File fault

-- what is said of a fault of a file's container, where this is read of a fork
abbrev pub damage_by : FileKind → Fork → Option FileFault → Left → Option ContainerDamage
damage_by kind fork None left = None
damage_by kind fork (Some fault) left =
    Some (record { kind = kind; fault = fault; fork = fork; said = left.said; there = length left.bytes })

abbrev pub damage_of : List ℕ → Fork → Left → Option ContainerDamage
damage_of file fork left = damage_by (kind_of file) fork (container_fault file) left

-- what is listed of a file: all that can be read of its resource fork, which of a damaged one is something
pub record Lists (letters : Letters) (file : List ℕ) (listed : SalvageList) : Type 0 where
  pub left : Left
  pub fork : (forks_in_spite file).resource_fork ≡ Some left
  pub taken : IsTaken file
  pub text : string_bytes listed.text ≡ salvage_listing letters left.bytes MOST_FOUND
  pub some : IsDamaged left.bytes → string_bytes listed.text ≢ []
  pub damage : listed.damage ≡ damage_of file which.Resource left

-- that nothing can be read of a fork
abbrev pub nothing_left : Option ContainerDamage → Refusal
nothing_left None = refusal.Nothing
nothing_left (Some damage) = refusal.NothingLeft damage

-- the resource fork is damaged, and this is so of it, and said of the container
abbrev pub HasNothing : (List ℕ → Type 0) → List ℕ → Option ContainerDamage → Type 0
HasNothing nothing file damage =
    (left : Left) × ((forks_in_spite file).resource_fork ≡ Some left) × (damage ≡ damage_of file which.Resource left) × IsDamaged left.bytes × nothing left.bytes

-- nothing is listed of a fork, or nothing can be read of it
abbrev pub ListsNothing : Letters → List ℕ → Type 0
ListsNothing letters fork = salvage_listing letters fork MOST_FOUND ≡ []

abbrev pub IsUnreadable : List ℕ → Type 0
IsUnreadable fork = is_readable (tally_of fork) ≡ false

-- why nothing is listed: nothing is found in a damaged fork, or there is none
abbrev pub IsNotListed : Letters → List ℕ → Refusal → Type 0
IsNotListed letters file refusal.Nothing = HasNothing (ListsNothing letters) file None
IsNotListed letters file (refusal.NothingLeft damage) = HasNothing (ListsNothing letters) file (Some damage)
IsNotListed letters file other = IsNotLeft file other

-- how much of a fork is salvaged, unless that is all
abbrev pub TellsLeft : List ℕ → Option Tally → Type 0
TellsLeft fork None = ¬ IsDamaged fork
TellsLeft fork (Some tally) = IsDamaged fork × (tally_of fork ≡ Some tally) × (0 < tally.readable)

-- what is written of a file: the fork of all that can be read of its resource fork
pub record Salvages (file : List ℕ) (salvaged : ForkSalvaged) : Type 0 where
  pub left : Left
  pub fork : (forks_in_spite file).resource_fork ≡ Some left
  pub taken : IsTaken file
  pub mends : IsMendedFork left.bytes salvaged.bytes.items
  pub tells : TellsLeft left.bytes salvaged.tally
  pub damage : salvaged.damage ≡ damage_of file which.Resource left

-- the resource fork of a file is there in spite of faults, and has none itself, or some resource of it can be read
abbrev pub CanBeSalvaged : List ℕ → Type 0
CanBeSalvaged file = (left : Left) × ((forks_in_spite file).resource_fork ≡ Some left) × ((tally : Option Tally) × TellsLeft left.bytes tally)

-- why nothing is salvaged: no resource can be read of a damaged fork, or more than one fork holds; or there is no fork
abbrev pub IsNotSalvaged : List ℕ → Refusal → Type 0
IsNotSalvaged file refusal.Nothing = HasNothing IsUnreadable file None
IsNotSalvaged file (refusal.NothingLeft damage) = HasNothing IsUnreadable file (Some damage)
IsNotSalvaged file refusal.TooMuch = (left : Left) × ((forks_in_spite file).resource_fork ≡ Some left) × IsTooBig left.bytes
IsNotSalvaged file other = IsNotLeft file other

-- the host has no memory to say why a file is refused
abbrev pub is_host_full : Refusal → Bool
is_host_full (refusal.Show failure.HostFull) = true
is_host_full other = false

-- nothing of the resource fork can be salvaged, for a cause that isn't want of memory
abbrev pub CantBeSalvaged : List ℕ → Type 0
CantBeSalvaged file = (why : Refusal) × (is_host_full why ≡ false) × IsNotSalvaged file why

-- the bytes of the data fork that are handed out
abbrev pub bytes_or_none : Option Left → List ℕ
bytes_or_none None = []
bytes_or_none (Some left) = left.bytes

abbrev pub data_by : DataSalvaged → List ℕ
data_by salvaged = bytes_or_none (forks_by salvaged.file).data_fork

-- what is written of a file's data fork: the bytes that are there
pub record SalvagesData (file : List ℕ) (salvaged : DataSalvaged) : Type 0 where
  pub left : Left
  pub fork : (forks_in_spite file).data_fork ≡ Some left
  pub bytes : data_by salvaged ≡ left.bytes
  pub damage : salvaged.damage ≡ damage_of file which.Data left

-- why nothing of it is: the file has no data fork, or nothing of it is there
abbrev pub IsDataNotSalvaged : List ℕ → Refusal → Type 0
IsDataNotSalvaged file (refusal.NoData name) =
    (name.now ≡ kind_text (kind_of file)) × (container_fault file ≡ None) × ((forks_in_spite file).data_fork ≡ None)
IsDataNotSalvaged file other = IsRefusedWhere (IsGone file (forks_in_spite file).data_fork) file other
