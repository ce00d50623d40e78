-- What is reported of a failure.
use Rattle.std.proofs.Common.{◌≡◌, ◌≢◌, ℕ, Bool, true, false, List, Option, None, Some, Result, Ok, Err, IfNone, IfOk, IfSome, Vec, refl, sym, ap, ◌∙◌, subst, arith}
use Rattle.std.specs.Prelude.{[], unwrap_or, ◌==◌, ◌↔◌, ◌∷◌, IsTrue, length, not, is_some}
use Rattle.std.specs.declared.alloc.AllocError.{AllocError}
use Rattle.std.specs.declared.alloc.Global.{Global}
use Rattle.std.proofs.lemmas.Bool.{ltb-true, ne_eqb}
use Rattle.fork_bytes.specs.declared.fault.ForkFault.{ForkFault}
use Rattle.fork_bytes.specs.Fork.{IsForkWithin, RefusesWithin, format_limits}
use Rattle.fork_salvage.specs.declared.fault.Fault.{Fault}
use Rattle.fork_salvage.specs.Fault.{refusal_of}
use Rattle.fork_salvage.proofs.Checked.{not_refused}
use Rattle.mac_files.specs.declared.kind.FileKind.TheVariants.{BinHex, Unknown}
use Rattle.mac_files.specs.declared.old_file.FileFault.{FileFault}
use Rattle.mac_files.specs.declared.old_file.FileFault.TheVariants.{Container, HostFull, Text}
use Rattle.mac_files.specs.Kinds.{kind_of}
use Rattle.mac_files.specs.declared.archive.Archive.{Archive}
use Rattle.mac_files.specs.declared.old_file.OldFile.{OldFile}
use Rattle.mac_files.specs.OldFiles.{IsUnopened, fork_of, fork_said, old_file, said_by}
use Rattle.fork_answer.proofs.Opened.{has_fork}
use Rattle.fork_answer.specs.declared.answer.Failure.{Failure}
use Rattle.fork_answer.specs.declared.answer.Failure.TheVariants as failure
use Rattle.fork_answer.specs.declared.source.NoFork.{NoFork}
use Rattle.fork_answer.specs.declared.source.NoFork.TheVariants as no_fork
use Rattle.fork_answer.specs.Source.{IsForkIn, IsNoForkIn}
use Rattle.fork_report.specs.declared.damage.Damage.{Damage}
use Rattle.fork_report.specs.declared.damage.Tally.{Tally}
use Rattle.fork_report.specs.declared.refusal.Refusal.{Refusal}
use Rattle.fork_report.specs.declared.refusal.Refusal.TheVariants as refusal
use Rattle.fork_report.specs.Damage.{IsDamageOf, IsDamaged, is_of_fork, is_readable, tally_of}
use Rattle.fork_report.specs.Inside.{IsInside, archive_inside}
use Rattle.fork_report.specs.Refused.{IsCause, IsForkCause, IsOther, IsTakenForFork, IsToldDamaged, IsToldOfFork, IsToldUnknown, begins_as_fork}
use Rattle.fork_report.specs.Salvaged.{TellsLeft}

refused : (file fork : List ℕ) (why : FileFault) → IsForkIn file fork → old_file file ≡ Err why → ⊥
refused file fork why has lacks = cc (sym has ∙ ap fork_said lacks)

-- a fork that is damaged, in a file that is taken for one with a fork
pub told_damaged : (file : List ℕ) (fault : ForkFault) (damage : Damage) (told : Refusal) → (fork : List ℕ) × IsDamageOf file fork damage
    → IsTakenForFork (kind_of file) damage → IsToldDamaged damage told → IsToldOfFork file fault told
told_damaged file fault damage (refusal.Damaged text readable) (fork, is_damage) taken is = (fork, damage, is_damage, taken, is)
told_damaged file fault damage (refusal.Show failure.HostFull) has taken is = tt
told_damaged file fault damage (refusal.Show (failure.NoFork why)) has taken is = absurd is
told_damaged file fault damage (refusal.Show (failure.Fork why)) has taken is = absurd is
told_damaged file fault damage (refusal.Show failure.NotFound) has taken is = absurd is
told_damaged file fault damage (refusal.Show (failure.Write why)) has taken is = absurd is
told_damaged file fault damage (refusal.Container kept why) has taken is = absurd is
told_damaged file fault damage (refusal.Archive archive) has taken is = absurd is
told_damaged file fault damage (refusal.Inside archive) has taken is = absurd is
told_damaged file fault damage (refusal.NoData name) has taken is = absurd is
told_damaged file fault damage refusal.Nothing has taken is = absurd is
told_damaged file fault damage (refusal.NothingLeft container) has taken is = absurd is
told_damaged file fault damage refusal.TooMuch has taken is = absurd is
told_damaged file fault damage (refusal.Unknown told) has taken is = absurd is
told_damaged file fault damage refusal.NoHeader has taken is = absurd is

-- that nothing is known of a file
pub other_unknown : (file : List ℕ) (damage : Damage) (told : Refusal) → damage.kind ≡ Unknown → is_of_fork damage ≡ false → begins_as_fork file ≡ true → IsToldUnknown told → IsOther file damage told
other_unknown file damage (refusal.Unknown text) known none begins is = (known, none, begins)
other_unknown file damage (refusal.Show failure.HostFull) known none begins is = tt
other_unknown file damage (refusal.Show (failure.NoFork why)) known none begins is = absurd is
other_unknown file damage (refusal.Show (failure.Fork why)) known none begins is = absurd is
other_unknown file damage (refusal.Show failure.NotFound) known none begins is = absurd is
other_unknown file damage (refusal.Show (failure.Write why)) known none begins is = absurd is
other_unknown file damage (refusal.Container kept why) known none begins is = absurd is
other_unknown file damage (refusal.Archive archive) known none begins is = absurd is
other_unknown file damage (refusal.Inside archive) known none begins is = absurd is
other_unknown file damage (refusal.Damaged text readable) known none begins is = absurd is
other_unknown file damage (refusal.NoData name) known none begins is = absurd is
other_unknown file damage refusal.Nothing known none begins is = absurd is
other_unknown file damage (refusal.NothingLeft container) known none begins is = absurd is
other_unknown file damage refusal.TooMuch known none begins is = absurd is
other_unknown file damage refusal.NoHeader known none begins is = absurd is

-- a file has a fork or lacks one, unless the host has no memory for that of a text
pub apart : (file fork : List ℕ) (fault : NoFork) → kind_of file ≢ BinHex → IsForkIn file fork → IsNoForkIn file fault → ⊥
apart file fork (no_fork.File HostFull) other has lacks = other lacks
apart file fork (no_fork.File (Container why)) other has lacks = refused file fork (Container why) has lacks
apart file fork (no_fork.File (Text why)) other has lacks = refused file fork (Text why) has lacks
apart file fork no_fork.Absent other has lacks = cc (sym has ∙ lacks)

-- and it has one
pub same_fork : (file a b : List ℕ) → IsForkIn file a → IsForkIn file b → a ≡ b
same_fork file a b one other = cc (sym one ∙ other)

pub none_if : {A : Type 0} (found : Option A) (P : Type 0) → P → IfNone found P
none_if None P holds = holds
none_if (Some a) P holds = tt

-- a fork with a fault is none
pub faulty : (fork : List ℕ) (found : Option Fault) → IfSome found (λ fault. RefusesWithin format_limits fork (refusal_of fault)) → is_some found ≡ true
    → ¬ IsForkWithin format_limits fork
faulty fork None refuses some = absurd cc
faulty fork (Some fault) refuses some = not_refused fork fault refuses

-- whether a fork has a fault
pub fault_damages : (fork : List ℕ) (found : Option Fault) → fork ≢ [] → IfSome found (λ fault. RefusesWithin format_limits fork (refusal_of fault))
    → is_some found ≡ true → IsDamaged fork
fault_damages fork found some refuses is = (some, faulty fork found refuses is)

pub no_fault_damages : (fork : List ℕ) (found : Option Fault) → IfNone found (IsForkWithin format_limits fork) → is_some found ≡ false → ¬ IsDamaged fork
no_fault_damages fork None whole is = λ damaged. damaged.1 whole
no_fault_damages fork (Some fault) whole is = absurd (cc is)

pub empty_whole : (fork : List ℕ) → (length fork == 0) ≡ true → ¬ IsDamaged fork
empty_whole [] is = λ damaged. damaged.0 refl
empty_whole (byte ∷ bytes) is = absurd (cc (sym is ∙ ne_eqb (length (byte ∷ bytes)) 0 (omega arith)))

pub told_left : (fork : List ℕ) (tally : Option Tally) → IsDamaged fork → tally ≡ tally_of fork → is_readable tally ≡ true → TellsLeft fork tally
told_left fork None damaged is some = absurd cc
told_left fork (Some tally) damaged is some = (damaged, sym is, ltb-true 0 tally.readable some)

-- faults of a fork with some bytes
pub all_damaged : (fork : List ℕ) (found : Result (Vec Fault Global) AllocError) → fork ≢ [] → IfOk found (λ faults. IsForkWithin format_limits fork → faults.items ≡ [])
    → IfOk found (λ faults. faults.items ≢ [] → IsDamaged fork)
all_damaged fork (Ok faults) some none = λ faulty. (some, λ is_fork. faulty (none is_fork))
all_damaged fork (Err full) some none = tt

pub all_whole : (fork : List ℕ) (found : Result (Vec Fault Global) AllocError) → IfOk found (λ faults. faults.items ≡ [] → IsForkWithin format_limits fork)
    → IfOk found (λ faults. faults.items ≡ [] → ¬ IsDamaged fork)
all_whole fork (Ok faults) sound = λ none damaged. damaged.1 (sound none)
all_whole fork (Err full) sound = tt

told_of : (fork : List ℕ) (faults : List Fault) (test : Bool) → test ≡ (length faults == 0) → (faults ≢ [] → IsDamaged fork) → (faults ≡ [] → ¬ IsDamaged fork)
    → IsTrue (not test) ↔ IsDamaged fork
told_of fork [] test is damaged whole = (
  λ told. let none : IsTrue false = subst (λ (b : Bool). IsTrue (not b)) is told in absurd cc,
  λ damage. absurd (whole refl damage),
)
told_of fork (fault ∷ faults) test is damaged whole = (
  λ told. damaged (λ none. absurd cc),
  λ damage. subst (λ (b : Bool). IsTrue (not b)) (sym (is ∙ ne_eqb (length (fault ∷ faults)) 0 (omega arith))) refl,
)

-- a fork is reported as damaged exactly if it is
pub told_damage : (fork : List ℕ) (faults shown : List Fault) (test : Bool) → shown ≡ faults → test ≡ (length shown == 0) → (faults ≢ [] → IsDamaged fork)
    → (faults ≡ [] → ¬ IsDamaged fork) → IsTrue (not test) ↔ IsDamaged fork
told_damage fork faults shown test same is damaged whole =
    told_of fork faults test (is ∙ ap (λ (t : List Fault). length t == 0) same) damaged whole

-- the archive in an opened file
pub inside_of : (file : List ℕ) (found : OldFile) (archive : Option Archive) → old_file file ≡ Ok (said_by found) → archive ≡ archive_inside (said_by found)
    → IsInside file archive
inside_of file found (Some archive) is same = (said_by found, is, sym same)
inside_of file found None is same = λ other it read.
    let one : it ≡ said_by found = cc (sym read ∙ is) in ap archive_inside one ∙ sym same

-- none is in a file that isn't opened
pub not_inside : (file : List ℕ) (why : FileFault) → IsUnopened (kind_of file) file why → IsInside file None
not_inside file HostFull why = λ other it read. absurd (other why)
not_inside file (Container fault) why = λ other it read. let no : ⊥ = cc (sym read ∙ why) in absurd no
not_inside file (Text fault) why = λ other it read. let no : ⊥ = cc (sym read ∙ why) in absurd no

some_if_any : (fork : Option (List ℕ)) → unwrap_or fork [] ≢ [] → is_some fork ≡ true
some_if_any None some = absurd (some refl)
some_if_any (Some bytes) some = refl

-- why the fork in a file isn't read is why nothing is reported of the file
pub fork_cause : (file fork : List ℕ) (why : Failure) → IsForkIn file fork → IsForkCause fork why → IsCause file why
fork_cause file fork (failure.Fork fault) has cause = (fork, has, cause)
fork_cause file fork failure.HostFull has cause = tt
fork_cause file fork (failure.NoFork fault) has cause = absurd cause
fork_cause file fork failure.NotFound has cause = absurd cause
fork_cause file fork (failure.Write fault) has cause = absurd cause

-- the same of an opened file, which may have none
pub opened_cause : (file : List ℕ) (found : OldFile) (why : Failure) → old_file file ≡ Ok (said_by found) → IsForkCause (fork_of found) why → IsCause file why
opened_cause file found (failure.Fork fault) is cause =
    (fork_of found, has_fork file found is (some_if_any (said_by found).resource_fork cause.0), cause)
opened_cause file found failure.HostFull is cause = tt
opened_cause file found (failure.NoFork fault) is cause = absurd cause
opened_cause file found failure.NotFound is cause = absurd cause
opened_cause file found (failure.Write fault) is cause = absurd cause
