-- What is salvaged of a file, and why nothing is.
use Rattle.std.proofs.Common.{◌≡◌, ◌≢◌, inl, inr, ℕ, true, false, List, [], Option, None, Some, Result, Ok, Err, IfNone, IfSome, length, refl, sym, ap, ◌∙◌, subst}
use Rattle.std.specs.Prelude.{◌==◌, option_map, string_bytes}
use Rattle.fork_bytes.specs.Fork.{IsForkWithin, format_limits}
use Rattle.std.specs.Result.{result_err}
use Rattle.fork_bytes.specs.declared.fault.ForkFault.{ForkFault}
use Rattle.fork_bytes.specs.declared.fault.ForkFault.TheVariants as fork_fault
use Rattle.fork_salvage.specs.declared.fault.Fault.{Fault}
use Rattle.fork_salvage.specs.declared.fault.Fault.TheVariants as fault
use Rattle.fork_salvage.specs.Fault.{refusal_of}
use Rattle.mac_files.specs.declared.bin_hex.fault.BinHexFault.{BinHexFault}
use Rattle.mac_files.specs.declared.fault.ContainerFault.{ContainerFault}
use Rattle.mac_files.specs.declared.kind.FileKind.{FileKind}
use Rattle.mac_files.specs.declared.kind.FileKind.TheVariants.{Archive, BinHex, Container as In, Unknown}
use Rattle.mac_files.specs.declared.old_file.FileFault.{FileFault}
use Rattle.mac_files.specs.declared.old_file.FileFault.TheVariants.{Container, HostFull, Text}
use Rattle.mac_files.specs.BinHex.{File, bin_hex_of}
use Rattle.mac_files.specs.Containers.{fault_of}
use Rattle.mac_files.specs.Kinds.{is_known, kind_of}
use Rattle.mac_files.specs.OldFiles.{IsUnopened, Said, fork_said, old_file, read_as, told_by_text, unless_fault}
use Rattle.mac_files.specs.declared.fault.Fork.{Fork}
use Rattle.mac_files.specs.declared.fault.Fork.TheVariants as which
use Rattle.mac_salvage.specs.declared.file.FileLeft.{FileLeft}
use Rattle.mac_salvage.specs.InSpite.{Forks, IsShut, Left, container_fault, fault_by, forks_by, forks_by_fault, forks_in_spite, kind_by, whole_fork}
use Rattle.mac_salvage.specs.Texts.{is_shut}
use Rattle.fork_answer.specs.declared.answer.Failure.TheVariants as failure
use Rattle.fork_answer.specs.declared.source.NoFork.{NoFork}
use Rattle.fork_answer.specs.declared.source.NoFork.TheVariants as no_fork
use Rattle.fork_answer.specs.Source.{IsForkIn, IsNoForkIn}
use Rattle.fork_list.specs.declared.letters.Letters.{Letters}
use Rattle.fork_report.specs.declared.damage.Tally.{Tally}
use Rattle.fork_report.specs.declared.damage.Damage.{Damage}
use Rattle.fork_report.specs.declared.refusal.Refusal.{Refusal}
use Rattle.fork_report.specs.declared.refusal.Refusal.TheVariants as refusal
use Rattle.fork_report.specs.Damage.{IsDamageOf, IsDamaged}
use Rattle.fork_report.specs.Refused.{IsOther, IsRefused, IsRefusedAsOther, IsTaken, IsTakenForFork, IsToldDamaged, IsToldOf, IsToldOfFork, LooksLikeFork}
use Rattle.fork_report.specs.declared.damage.TheConstants.{MOST_FOUND}
use Rattle.fork_report.specs.declared.salvaged.ContainerDamage.{ContainerDamage}
use Rattle.fork_report.specs.declared.salvaged.DataSalvaged.{DataSalvaged}
use Rattle.fork_report.specs.declared.salvaged.ForkSalvaged.{ForkSalvaged}
use Rattle.fork_report.specs.declared.salvaged.SalvageList.{SalvageList}
use Rattle.fork_answer.specs.Lines.{salvage_listing}
use Rattle.fork_answer.specs.Mended.{IsMendedFork}
use Rattle.fork_report.proofs.Refusing.{empty_whole, told_damaged}
use Rattle.fork_report.specs.Salvaged.{CanBeSalvaged, HasLeft, HasNothing, IsDataNotSalvaged, IsGone, IsNotKept, IsNotLeft, IsNotListed, IsNotSalvaged, IsRefusedWhere, IsUnreadable, Lists, ListsNothing, Salvages, SalvagesData, TellsLeft, bytes_or_none, damage_by, damage_of, lack_by, nothing_left}

-- Files that are known as none with a fork.

known_alone : (k : FileKind) (file fork : List ℕ) → is_known k ≡ false → fork_said (read_as k file) ≡ Ok (Some fork) → fork ≡ file
known_alone (In container) file fork unknown has = absurd (cc unknown)
known_alone BinHex file fork unknown has = absurd (cc unknown)
known_alone (Archive archive) file fork unknown has = sym (cc has)
known_alone Unknown file fork unknown has = sym (cc has)

pub fork_alone : (file fork : List ℕ) → is_known (kind_of file) ≡ false → IsForkIn file fork → fork ≡ file
fork_alone file fork unknown has = known_alone (kind_of file) file fork unknown has

known_in : (k : FileKind) (file : List ℕ) → is_known k ≡ false → fork_said (read_as k file) ≡ Ok (Some file)
known_in (In container) file unknown = absurd (cc unknown)
known_in BinHex file unknown = absurd (cc unknown)
known_in (Archive archive) file unknown = refl
known_in Unknown file unknown = refl

alone_in : (file : List ℕ) → is_known (kind_of file) ≡ false → IsForkIn file file
alone_in file unknown = known_in (kind_of file) file unknown

known_text : (k : FileKind) → is_known k ≡ false → k ≢ BinHex
known_text (In container) unknown = absurd (cc unknown)
known_text BinHex unknown = absurd (cc unknown)
known_text (Archive archive) unknown = λ is. absurd (cc is)
known_text Unknown unknown = λ is. absurd (cc is)

no_text : (file : List ℕ) → is_known (kind_of file) ≡ false → kind_of file ≢ BinHex
no_text file unknown = known_text (kind_of file) unknown

-- a fault of a fork isn't want of memory
never_full : (f : Fault) → refusal_of f ≢ fork_fault.HostFull
never_full (fault.Header gap) = λ is. absurd (cc is)
never_full (fault.TooLong count) = λ is. absurd (cc is)
never_full (fault.Data gap) = λ is. absurd (cc is)
never_full (fault.Map gap) = λ is. absurd (cc is)
never_full (fault.MapHeader gap) = λ is. absurd (cc is)
never_full (fault.TypeCount gap) = λ is. absurd (cc is)
never_full (fault.TypeList gap) = λ is. absurd (cc is)
never_full (fault.SameType same) = λ is. absurd (cc is)
never_full (fault.References list) = λ is. absurd (cc is)
never_full (fault.RowCount excess) = λ is. absurd (cc is)
never_full (fault.Name row) = λ is. absurd (cc is)
never_full (fault.Length row) = λ is. absurd (cc is)
never_full (fault.Bytes row) = λ is. absurd (cc is)
never_full (fault.ByteCount row) = λ is. absurd (cc is)

told_of_fork : (file : List ℕ) (f : ForkFault) (told : Refusal) → f ≢ fork_fault.HostFull → IsToldOfFork file f told → IsToldOf file (failure.Fork f) told
told_of_fork file fork_fault.EndOfFile told other is = is
told_of_fork file (fork_fault.BadMap condition) told other is = is
told_of_fork file fork_fault.HostFull told other is = absurd (other refl)

-- an archive, or nothing that looks like a fork
pub told_other : (file : List ℕ) (f : ForkFault) (damage : Damage) (told : Refusal) → (fork : List ℕ) × IsDamageOf file fork damage → IsOther file damage told → IsToldOfFork file f told
told_other file f damage (refusal.Archive archive) (fork, is_damage) is = sym is_damage.kind ∙ is
told_other file f damage (refusal.Unknown text) (fork, is_damage) is = ((sym is_damage.kind ∙ is.0, (fork, damage, is_damage, is.1)), is.2)
told_other file f damage refusal.NoHeader (fork, is_damage) is = ((sym is_damage.kind ∙ is.0, (fork, damage, is_damage, is.1)), is.2)
told_other file f damage (refusal.Show failure.HostFull) has is = tt
told_other file f damage (refusal.Show failure.NotFound) has is = absurd is
told_other file f damage (refusal.Show (failure.NoFork lack)) has is = absurd is
told_other file f damage (refusal.Show (failure.Fork why)) has is = absurd is
told_other file f damage (refusal.Show (failure.Write why)) has is = absurd is
told_other file f damage (refusal.Container container why) has is = absurd is
told_other file f damage (refusal.Inside archive) has is = absurd is
told_other file f damage (refusal.Damaged text readable) has is = absurd is
told_other file f damage (refusal.NoData name) has is = absurd is
told_other file f damage refusal.Nothing has is = absurd is
told_other file f damage (refusal.NothingLeft container) has is = absurd is
told_other file f damage refusal.TooMuch has is = absurd is

cause_of : (file fork : List ℕ) (damage : Damage) (told : Refusal) → fork ≢ [] → IsDamageOf file fork damage → IsOther file damage told → IsRefused file told
cause_of file fork damage told some is_damage is = (
  failure.Fork (refusal_of damage.fault),
  (fork, is_damage.found, (some, is_damage.refuses)),
  told_of_fork file (refusal_of damage.fault) told (never_full damage.fault) (told_other file (refusal_of damage.fault) damage told (fork, is_damage) is),
)

as_other : (file : List ℕ) (damage : Damage) (told : Refusal) → IsOther file damage told → IsRefused file told → IsRefusedAsOther file told
as_other file damage (refusal.Archive archive) is refused = refused
as_other file damage (refusal.Unknown text) is refused = refused
as_other file damage refusal.NoHeader is refused = refused
as_other file damage (refusal.Show failure.HostFull) is refused = refused
as_other file damage (refusal.Show failure.NotFound) is refused = absurd is
as_other file damage (refusal.Show (failure.NoFork lack)) is refused = absurd is
as_other file damage (refusal.Show (failure.Fork why)) is refused = absurd is
as_other file damage (refusal.Show (failure.Write why)) is refused = absurd is
as_other file damage (refusal.Container container why) is refused = absurd is
as_other file damage (refusal.Inside archive) is refused = absurd is
as_other file damage (refusal.Damaged text readable) is refused = absurd is
as_other file damage (refusal.NoData name) is refused = absurd is
as_other file damage refusal.Nothing is refused = absurd is
as_other file damage (refusal.NothingLeft container) is refused = absurd is
as_other file damage refusal.TooMuch is refused = absurd is

refused_other : (file fork : List ℕ) (damage : Damage) (told : Refusal) → file ≢ [] → is_known (kind_of file) ≡ false → IsDamageOf file fork damage
    → IsOther file damage told → IsRefusedAsOther file told
refused_other file fork damage told some unknown is_damage is =
    let same : fork ≡ file = fork_alone file fork unknown is_damage.found in
    as_other file damage told is (cause_of file fork damage told (subst (λ (f : List ℕ). f ≢ []) (sym same) some) is_damage is)

-- such a file is refused
pub refused_as : (file : List ℕ) (told : Refusal) → IsRefusedAsOther file told → IsRefused file told
refused_as file (refusal.Archive archive) is = is
refused_as file (refusal.Unknown text) is = is
refused_as file refusal.NoHeader is = is
refused_as file (refusal.Show failure.HostFull) is = is
refused_as file (refusal.Show failure.NotFound) is = absurd is
refused_as file (refusal.Show (failure.NoFork lack)) is = absurd is
refused_as file (refusal.Show (failure.Fork why)) is = absurd is
refused_as file (refusal.Show (failure.Write why)) is = absurd is
refused_as file (refusal.Container container why) is = absurd is
refused_as file (refusal.Inside archive) is = absurd is
refused_as file (refusal.Damaged text readable) is = absurd is
refused_as file (refusal.NoData name) is = absurd is
refused_as file refusal.Nothing is = absurd is
refused_as file (refusal.NothingLeft container) is = absurd is
refused_as file refusal.TooMuch is = absurd is

taken_other : (file fork : List ℕ) (damage : Damage) → IsDamageOf file fork damage → IsTakenForFork damage.kind damage → LooksLikeFork file
taken_other file fork damage is_damage taken = (fork, damage, is_damage, subst (λ (k : FileKind). IsTakenForFork k damage) is_damage.kind taken)

pub others_refused : (file fork : List ℕ) (damage : Damage) (found : Option Refusal) → file ≢ [] → is_known (kind_of file) ≡ false → IsDamageOf file fork damage
    → IfSome found (IsOther file damage) → IfSome found (IsRefusedAsOther file)
others_refused file fork damage None some unknown is_damage is = tt
others_refused file fork damage (Some told) some unknown is_damage is = refused_other file fork damage told some unknown is_damage is

pub others_taken : (file fork : List ℕ) (damage : Damage) (found : Option Refusal) → IsDamageOf file fork damage
    → IfNone found (IsTakenForFork damage.kind damage) → IfNone found (IsTaken file)
others_taken file fork damage None is_damage is = inr (inr (taken_other file fork damage is_damage is))
others_taken file fork damage (Some told) is_damage is = tt

-- bytes without a fault, and no bytes, are taken for a fork
pub whole_taken : (file : List ℕ) → is_known (kind_of file) ≡ false
    → (kind_of file ≢ BinHex → (fork : List ℕ) → IsForkIn file fork → IsForkWithin format_limits fork) → IsTaken file
whole_taken file unknown whole = inr (inl (λ damaged. damaged.1 (whole (no_text file unknown) file (alone_in file unknown))))

pub empty_taken : (file : List ℕ) → (length file == 0) ≡ true → IsTaken file
empty_taken file is = inr (inl (empty_whole file is))

-- and what is taken for one is damaged
pub told_taken : (file : List ℕ) (f : ForkFault) (damage : Damage) (told : Refusal) → (fork : List ℕ) × IsDamageOf file fork damage
    → IsTakenForFork damage.kind damage → IsToldDamaged damage told → IsToldOfFork file f told
told_taken file f damage told (fork, is_damage) taken is =
    told_damaged file f damage told (fork, is_damage) (subst (λ (k : FileKind). IsTakenForFork k damage) is_damage.kind taken) is

-- Why a file is refused.

told_no_fork : (gone : Type 0) (file : List ℕ) (lack : NoFork) (told : Refusal) → gone → IsNoForkIn file lack → IsToldOf file (failure.NoFork lack) told
    → IsRefusedWhere gone file told
told_no_fork gone file (no_fork.File HostFull) told is_gone lacks is =
    subst (λ (r : Refusal). IsRefusedWhere gone file r) (sym is) (failure.NoFork (no_fork.File HostFull), lacks, refl)
told_no_fork gone file (no_fork.File (Container why)) (refusal.Container container told) is_gone lacks is =
    ((failure.NoFork (no_fork.File (Container why)), lacks, is), is_gone)
told_no_fork gone file (no_fork.File (Container why)) (refusal.Show failed) is_gone lacks is = absurd is
told_no_fork gone file (no_fork.File (Container why)) (refusal.Archive archive) is_gone lacks is = absurd is
told_no_fork gone file (no_fork.File (Container why)) (refusal.Damaged told readable) is_gone lacks is = absurd is
told_no_fork gone file (no_fork.File (Container why)) (refusal.NoData name) is_gone lacks is = absurd is
told_no_fork gone file (no_fork.File (Container why)) refusal.Nothing is_gone lacks is = absurd is
told_no_fork gone file (no_fork.File (Container why)) (refusal.NothingLeft damage) is_gone lacks is = absurd is
told_no_fork gone file (no_fork.File (Container why)) refusal.TooMuch is_gone lacks is = absurd is
told_no_fork gone file (no_fork.File (Container why)) (refusal.Unknown text) is_gone lacks is = absurd is
told_no_fork gone file (no_fork.File (Container why)) refusal.NoHeader is_gone lacks is = absurd is
told_no_fork gone file (no_fork.File (Container why)) (refusal.Inside archive) is_gone lacks is = absurd is
told_no_fork gone file (no_fork.File (Text why)) (refusal.Container container told) is_gone lacks is =
    ((failure.NoFork (no_fork.File (Text why)), lacks, is), is_gone)
told_no_fork gone file (no_fork.File (Text why)) (refusal.Show failed) is_gone lacks is = absurd is
told_no_fork gone file (no_fork.File (Text why)) (refusal.Archive archive) is_gone lacks is = absurd is
told_no_fork gone file (no_fork.File (Text why)) (refusal.Damaged told readable) is_gone lacks is = absurd is
told_no_fork gone file (no_fork.File (Text why)) (refusal.NoData name) is_gone lacks is = absurd is
told_no_fork gone file (no_fork.File (Text why)) refusal.Nothing is_gone lacks is = absurd is
told_no_fork gone file (no_fork.File (Text why)) (refusal.NothingLeft damage) is_gone lacks is = absurd is
told_no_fork gone file (no_fork.File (Text why)) refusal.TooMuch is_gone lacks is = absurd is
told_no_fork gone file (no_fork.File (Text why)) (refusal.Unknown text) is_gone lacks is = absurd is
told_no_fork gone file (no_fork.File (Text why)) refusal.NoHeader is_gone lacks is = absurd is
told_no_fork gone file (no_fork.File (Text why)) (refusal.Inside archive) is_gone lacks is = absurd is
told_no_fork gone file no_fork.Absent (refusal.Container container told) is_gone lacks is = ((failure.NoFork no_fork.Absent, lacks, is), is_gone)
told_no_fork gone file no_fork.Absent (refusal.Show failed) is_gone lacks is = absurd is
told_no_fork gone file no_fork.Absent (refusal.Archive archive) is_gone lacks is = absurd is
told_no_fork gone file no_fork.Absent (refusal.Damaged told readable) is_gone lacks is = absurd is
told_no_fork gone file no_fork.Absent (refusal.NoData name) is_gone lacks is = absurd is
told_no_fork gone file no_fork.Absent refusal.Nothing is_gone lacks is = absurd is
told_no_fork gone file no_fork.Absent (refusal.NothingLeft damage) is_gone lacks is = absurd is
told_no_fork gone file no_fork.Absent refusal.TooMuch is_gone lacks is = absurd is
told_no_fork gone file no_fork.Absent (refusal.Unknown text) is_gone lacks is = absurd is
told_no_fork gone file no_fork.Absent refusal.NoHeader is_gone lacks is = absurd is
told_no_fork gone file no_fork.Absent (refusal.Inside archive) is_gone lacks is = ((failure.NoFork no_fork.Absent, lacks, is), is_gone)

pub refused_where : (a b : Type 0) (file : List ℕ) (told : Refusal) → (a → b) → IsRefusedWhere a file told → IsRefusedWhere b file told
refused_where a b file (refusal.Container container told) follows is = (is.0, follows is.1)
refused_where a b file (refusal.Show failure.HostFull) follows is = is
refused_where a b file (refusal.Show failure.NotFound) follows is = absurd is
refused_where a b file (refusal.Show (failure.NoFork lack)) follows is = absurd is
refused_where a b file (refusal.Show (failure.Fork why)) follows is = absurd is
refused_where a b file (refusal.Show (failure.Write why)) follows is = absurd is
refused_where a b file (refusal.Archive archive) follows is = is
refused_where a b file (refusal.Damaged told readable) follows is = absurd is
refused_where a b file (refusal.NoData name) follows is = absurd is
refused_where a b file refusal.Nothing follows is = absurd is
refused_where a b file (refusal.NothingLeft damage) follows is = absurd is
refused_where a b file refusal.TooMuch follows is = absurd is
refused_where a b file (refusal.Unknown text) follows is = is
refused_where a b file refusal.NoHeader follows is = is
refused_where a b file (refusal.Inside archive) follows is = (is.0, follows is.1)

-- as another file
pub other_where : (a : Type 0) (file : List ℕ) (told : Refusal) → IsRefusedAsOther file told → IsRefusedWhere a file told
other_where a file (refusal.Container container told) is = absurd is
other_where a file (refusal.Show failure.HostFull) is = is
other_where a file (refusal.Show failure.NotFound) is = absurd is
other_where a file (refusal.Show (failure.NoFork lack)) is = absurd is
other_where a file (refusal.Show (failure.Fork why)) is = absurd is
other_where a file (refusal.Show (failure.Write why)) is = absurd is
other_where a file (refusal.Archive archive) is = is
other_where a file (refusal.Damaged told readable) is = absurd is
other_where a file (refusal.NoData name) is = absurd is
other_where a file refusal.Nothing is = absurd is
other_where a file (refusal.NothingLeft damage) is = absurd is
other_where a file refusal.TooMuch is = absurd is
other_where a file (refusal.Unknown text) is = is
other_where a file refusal.NoHeader is = is
other_where a file (refusal.Inside archive) is = absurd is

pub not_listed : (letters : Letters) (file : List ℕ) (told : Refusal) → IsRefusedWhere (IsGone file (forks_in_spite file).resource_fork) file told → IsNotListed letters file told
not_listed letters file (refusal.Container container told) is = is
not_listed letters file (refusal.Show failed) is = is
not_listed letters file (refusal.Archive archive) is = is
not_listed letters file (refusal.Damaged told readable) is = is
not_listed letters file (refusal.NoData name) is = is
not_listed letters file refusal.Nothing is = absurd is
not_listed letters file (refusal.NothingLeft damage) is = absurd is
not_listed letters file refusal.TooMuch is = is
not_listed letters file (refusal.Unknown text) is = is
not_listed letters file refusal.NoHeader is = is
not_listed letters file (refusal.Inside archive) is = is

pub not_salvaged : (file : List ℕ) (told : Refusal) → IsRefusedWhere (IsGone file (forks_in_spite file).resource_fork) file told → IsNotSalvaged file told
not_salvaged file (refusal.Container container told) is = is
not_salvaged file (refusal.Show failed) is = is
not_salvaged file (refusal.Archive archive) is = is
not_salvaged file (refusal.Damaged told readable) is = is
not_salvaged file (refusal.NoData name) is = is
not_salvaged file refusal.Nothing is = absurd is
not_salvaged file (refusal.NothingLeft damage) is = absurd is
not_salvaged file refusal.TooMuch is = absurd is
not_salvaged file (refusal.Unknown text) is = is
not_salvaged file refusal.NoHeader is = is
not_salvaged file (refusal.Inside archive) is = is

data_not_salvaged : (file : List ℕ) (told : Refusal) → IsRefusedWhere (IsGone file (forks_in_spite file).data_fork) file told → IsDataNotSalvaged file told
data_not_salvaged file (refusal.Container container told) is = is
data_not_salvaged file (refusal.Show failed) is = is
data_not_salvaged file (refusal.Archive archive) is = is
data_not_salvaged file (refusal.Damaged told readable) is = is
data_not_salvaged file (refusal.NoData name) is = absurd is
data_not_salvaged file refusal.Nothing is = is
data_not_salvaged file (refusal.NothingLeft damage) is = is
data_not_salvaged file refusal.TooMuch is = is
data_not_salvaged file (refusal.Unknown text) is = is
data_not_salvaged file refusal.NoHeader is = is
data_not_salvaged file (refusal.Inside archive) is = is

-- What a fault of the container says.

parts_never_full : (found : Option ContainerFault) (said : Said) → unless_fault found said ≡ Err HostFull → ⊥
parts_never_full None said is = cc is
parts_never_full (Some why) said is = cc is

text_never_full : (found : Result File BinHexFault) → told_by_text found ≡ Err HostFull → ⊥
text_never_full (Ok file) is = cc is
text_never_full (Err why) is = cc is

read_never_full : (k : FileKind) (file : List ℕ) → read_as k file ≡ Err HostFull → ⊥
read_never_full (In container) file is = parts_never_full (fault_of container file) _ is
read_never_full BinHex file is = text_never_full (bin_hex_of file) is
read_never_full (Archive archive) file is = cc is
read_never_full Unknown file is = cc is

err_of : (read : Result Said FileFault) (why : FileFault) → result_err read ≡ Some why → read ≡ Err why
err_of (Ok said) why is = absurd (cc is)
err_of (Err other) why is = ap Err (cc is)

unopened_as : (file : List ℕ) (why : FileFault) → read_as (kind_of file) file ≡ Err why → IsUnopened (kind_of file) file why
unopened_as file HostFull is = absurd (read_never_full (kind_of file) file is)
unopened_as file (Container why) is = is
unopened_as file (Text why) is = is

-- a file with a fault isn't opened
unopened_by : (file : List ℕ) (why : FileFault) → container_fault file ≡ Some why → IsUnopened (kind_of file) file why
unopened_by file why is = unopened_as file why (err_of (old_file file) why is)

no_fork_of : (fork : Option (List ℕ)) → option_map whole_fork fork ≡ None → fork ≡ None
no_fork_of None none = refl
no_fork_of (Some bytes) none = absurd (cc none)

absent_as : (file : List ℕ) (read : Result Said FileFault) → result_err read ≡ None → (forks_by_fault read file).resource_fork ≡ None → fork_said read ≡ Ok None
absent_as file (Ok said) whole none = ap Ok (no_fork_of said.resource_fork none)
absent_as file (Err why) whole none = absurd (cc whole)

-- a file without a fault and without a fork
absent_by : (file : List ℕ) → container_fault file ≡ None → (forks_in_spite file).resource_fork ≡ None → fork_said (old_file file) ≡ Ok None
absent_by file whole none = absent_as file (old_file file) whole none

-- of a file of which nothing is kept
pub kept_not_listed : (letters : Letters) (file : List ℕ) (told : Refusal) → IsNotKept file told → IsNotListed letters file told
kept_not_listed letters file told is = not_listed letters file told (refused_where _ _ file told (λ shut. inr shut) is)

pub kept_not_salvaged : (file : List ℕ) (told : Refusal) → IsNotKept file told → IsNotSalvaged file told
kept_not_salvaged file told is = not_salvaged file told (refused_where _ _ file told (λ shut. inr shut) is)

pub kept_no_data : (file : List ℕ) (told : Refusal) → IsNotKept file told → IsDataNotSalvaged file told
kept_no_data file told is = data_not_salvaged file told (refused_where _ _ file told (λ shut. inr shut) is)

-- Nothing is read of a fork.

none_listed : (letters : Letters) (file : List ℕ) (damage : Option ContainerDamage) → HasNothing (ListsNothing letters) file damage → IsNotListed letters file (nothing_left damage)
none_listed letters file None has = has
none_listed letters file (Some damage) has = has

none_salvaged : (file : List ℕ) (damage : Option ContainerDamage) → HasNothing IsUnreadable file damage → IsNotSalvaged file (nothing_left damage)
none_salvaged file None has = has
none_salvaged file (Some damage) has = has

-- What is kept of a file, and why nothing is.

pub told_shut : (file : List ℕ) (why : FileFault) (told : Refusal) → IsUnopened (kind_of file) file why → IsShut file why
    → IsToldOf file (failure.NoFork (no_fork.File why)) told → IsNotKept file told
told_shut file HostFull told unopened shut is =
    subst (λ (r : Refusal). IsNotKept file r) (sym is) (failure.NoFork (no_fork.File HostFull), unopened, refl)
told_shut file (Container why) told unopened shut is = told_no_fork (is_shut file ≡ true) file (no_fork.File (Container why)) told shut unopened is
told_shut file (Text why) told unopened shut is = told_no_fork (is_shut file ≡ true) file (no_fork.File (Text why)) told shut unopened is

lacks_by : (file : List ℕ) (fault : Option FileFault) → container_fault file ≡ fault → (forks_in_spite file).resource_fork ≡ None → IsNoForkIn file (lack_by fault)
lacks_by file None whole none = absent_by file whole none
lacks_by file (Some why) is none = unopened_by file why is

pub told_lack : (file : List ℕ) (left : FileLeft) (lack : NoFork) (told : Refusal) → HasLeft file left → None ≡ (forks_by left).resource_fork → lack ≡ lack_by (fault_by left)
    → IsToldOf file (failure.NoFork lack) told → IsNotLeft file told
told_lack file left lack told has none is told_is =
    let gone : (forks_in_spite file).resource_fork ≡ None = sym (none ∙ ap (λ (f : Forks). f.resource_fork) has.forks) in
    told_no_fork (IsGone file (forks_in_spite file).resource_fork) file lack told (inl gone)
    (subst (λ (l : NoFork). IsNoForkIn file l) (sym is) (lacks_by file (fault_by left) (sym has.fault) gone)) told_is

pub told_no_data : (file : List ℕ) (left : FileLeft) (why : FileFault) (told : Refusal) → HasLeft file left → (forks_by left).data_fork ≡ None → Some why ≡ fault_by left
    → IsToldOf file (failure.NoFork (no_fork.File why)) told → IsDataNotSalvaged file told
told_no_data file left why told has none is told_is =
    let gone : (forks_in_spite file).data_fork ≡ None = ap (λ (f : Forks). f.data_fork) (sym has.forks) ∙ none in
    data_not_salvaged file told
    (told_no_fork (IsGone file (forks_in_spite file).data_fork) file (no_fork.File why) told (inl gone) (unopened_by file why (sym has.fault ∙ sym is)) told_is)

-- what is said of a fault of the container
damage_is : (file : List ℕ) (left : FileLeft) (which : Fork) (fork : Left) (damage : Option ContainerDamage) → HasLeft file left
    → damage ≡ damage_by (kind_by left) which (fault_by left) fork → damage ≡ damage_of file which fork
damage_is file left which fork damage has is =
    is ∙ ap (λ (k : FileKind). damage_by k which (fault_by left) fork) has.kind ∙ ap (λ (f : Option FileFault). damage_by (kind_of file) which f fork) has.fault

-- What is read of a fork, and that nothing is.

pub lists_all : (letters : Letters) (file : List ℕ) (left : FileLeft) (fork : Left) (listed : SalvageList) → HasLeft file left
    → (forks_in_spite file).resource_fork ≡ Some fork → string_bytes listed.text ≡ salvage_listing letters fork.bytes MOST_FOUND
    → (IsDamaged fork.bytes → string_bytes listed.text ≢ []) → listed.damage ≡ damage_by (kind_by left) which.Resource (fault_by left) fork
    → Lists letters file listed
lists_all letters file left fork listed has is text some damage =
    record { left = fork; fork = is; taken = has.taken; text = text; some = some; damage = damage_is file left which.Resource fork listed.damage has damage }

pub lists_nothing : (letters : Letters) (file : List ℕ) (left : FileLeft) (fork : Left) (damage : Option ContainerDamage) (text : List ℕ) (told : Refusal) → HasLeft file left
    → (forks_in_spite file).resource_fork ≡ Some fork → damage ≡ damage_by (kind_by left) which.Resource (fault_by left) fork
    → text ≡ salvage_listing letters fork.bytes MOST_FOUND → (text ≡ []) × IsDamaged fork.bytes → told ≡ nothing_left damage → IsNotListed letters file told
lists_nothing letters file left fork damage text told has is said all none told_is =
    subst (λ (r : Refusal). IsNotListed letters file r) (sym told_is)
    (none_listed letters file damage (fork, is, damage_is file left which.Resource fork damage has said, none.1, sym all ∙ none.0))

pub salvages_all : (file : List ℕ) (left : FileLeft) (fork : Left) (salvaged : ForkSalvaged) → HasLeft file left
    → (forks_in_spite file).resource_fork ≡ Some fork → IsMendedFork fork.bytes salvaged.bytes.items → TellsLeft fork.bytes salvaged.tally
    → salvaged.damage ≡ damage_by (kind_by left) which.Resource (fault_by left) fork → Salvages file salvaged
salvages_all file left fork salvaged has is mends tells damage =
    record { left = fork; fork = is; taken = has.taken; mends = mends; tells = tells; damage = damage_is file left which.Resource fork salvaged.damage has damage }

pub salvages_nothing : (file : List ℕ) (left : FileLeft) (fork : Left) (damage : Option ContainerDamage) (told : Refusal) → HasLeft file left
    → (forks_in_spite file).resource_fork ≡ Some fork → damage ≡ damage_by (kind_by left) which.Resource (fault_by left) fork
    → (told ≡ nothing_left damage) × IsDamaged fork.bytes × IsUnreadable fork.bytes → IsNotSalvaged file told
salvages_nothing file left fork damage told has is said none =
    subst (λ (r : Refusal). IsNotSalvaged file r) (sym none.0)
    (none_salvaged file damage (fork, is, damage_is file left which.Resource fork damage has said, none.1, none.2))

pub salvages_data : (file : List ℕ) (fork : Left) (salvaged : DataSalvaged) → HasLeft file salvaged.file → (forks_in_spite file).data_fork ≡ Some fork
    → salvaged.damage ≡ damage_by (kind_by salvaged.file) which.Data (fault_by salvaged.file) fork → SalvagesData file salvaged
salvages_data file fork salvaged has is damage = record {
  left = fork;
  fork = is;
  bytes = ap (λ (f : Forks). bytes_or_none f.data_fork) has.forks ∙ ap bytes_or_none is;
  damage = damage_is file salvaged.file which.Data fork salvaged.damage has damage;
}

-- the fork of a file is there, and what can be read of it
pub can_be : (file : List ℕ) (left : Left) (tally : Option Tally) → (forks_in_spite file).resource_fork ≡ Some left → TellsLeft left.bytes tally → CanBeSalvaged file
can_be file left tally is told = (left, is, (tally, told))
