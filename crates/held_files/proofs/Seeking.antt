-- Calls on forks in memory that seek a resource: each device is honest.
use Rattle.std.proofs.Common.{◌≡◌, refl, sym, subst, Bool, true, false, IsOkAnd, Result, Ok, Err}
use Rattle.std.specs.Prelude.{MatchBool, map}
use Rattle.fork_disk.specs.Fork.{IsPartly}
use Rattle.held_calls.specs.Answers.{OutOfAnswers, taken}
use Rattle.held_calls.proofs.Steps.{exact-queued}
use Rattle.held_files.specs.Forks.{ForksState, failures_in, fork_in, seen_on}
use Rattle.held_files.specs.declared.elsewhere.OtherZones.{OtherZones}
use Rattle.held_files.specs.Making.{FailsAt, SeeksOnForks}
use Rattle.held_zone.specs.State.{State}
use Rattle.linked_zone.specs.Loans.{KeepsLoans}
use Rattle.mac_base.specs.declared.error.OsErr.{OsErr}
use Rattle.mac_base.specs.Outcomes.{Outcome}
use Rattle.res_update.proofs.Seeking.{honest_found}
use Rattle.res_update.specs.Device.{device_works}
use Rattle.res_update.specs.Sought.{sought}
use Rattle.res_update.specs.Steps.{Memory as MayStep}
use Rattle.res_update.specs.declared.seeking_call.SeekingCall.{SeekingCall}
use Rattle.res_files.specs.FilesOn.{FailedAt, FilesOn, NoneFailed}
use Rattle.res_manager.specs.Steps.{SoughtSteps, state_of}
use Rattle.res_table.specs.declared.chain.RowPlace.{RowPlace}
use Rattle.toolbox.specs.Steps.{StepsFrom}
use Rattle.held_files.proofs.Honest.{Store, all_honest, counts-rose, honest_in, mem_store}

-- such a call
seeks-on : (zones : OtherZones) (old new : State) (on new_on : FilesOn Store) (call : SeekingCall) (outcome : Outcome)
    → SoughtSteps mem_store old.zone on call new.asks outcome new.zone new_on
    → taken new.asks new.left ≡ old.left → OutOfAnswers new.asks new.left → new.loans ≡ old.loans → new.waiting ≡ old.waiting → new.guest ≡ old.guest → new.purges ≡ old.purges → KeepsLoans old.zone new.zone
    → SeeksOnForks old (seen_on zones on) call outcome new (seen_on zones new_on)
seeks-on zones old new on new_on call outcome steps took out loans waiting guest purges keeps = record {
  device = steps.device;
  step = honest_found (honest_in new_on.stores) (NoneFailed mem_store.failures on.stores new_on.stores) (λ k. FailedAt mem_store.failures k on.stores new_on.stores)
      MayStep (StepsFrom old.left new.left) IsPartly (state_of fork_in old.zone on) (sought call on.files) new.asks outcome (state_of fork_in new.zone new_on) (all_honest new_on.stores)
      (λ s heap inner given after may. exact-queued s heap inner given after new.asks new.left old.left may.1 took out) steps;
  cause = by_device (device_works steps.device) (sought call on.files) steps.cause;
  taken = sym took;
  loans = loans;
  waiting = waiting;
  guest = guest;
  purges = purges;
  lent = record { keeps = keeps };
  zones = refl;
}
  where
    by_place : (found : Result RowPlace OsErr) → IsOkAnd found (λ p. FailedAt failures_in p.file on.stores new_on.stores) → IsOkAnd found (λ p. FailsAt p.file (map failures_in on.stores) (map failures_in new_on.stores))
    by_place (Ok p) failed = counts-rose p.file on.stores new_on.stores failed.1
    by_place (Err code) failed = failed

    by_device : (works : Bool) (found : Result RowPlace OsErr) → MatchBool works (NoneFailed failures_in on.stores new_on.stores) (IsOkAnd found (λ p. FailedAt failures_in p.file on.stores new_on.stores))
        → MatchBool works (map failures_in new_on.stores ≡ map failures_in on.stores) (IsOkAnd found (λ p. FailsAt p.file (map failures_in on.stores) (map failures_in new_on.stores)))
    by_device true found cause = cause
    by_device false found cause = by_place found cause

-- so it is with the zone and the files as they were seen
pub seeks-seen : (zones : OtherZones) (zone : State) (on : FilesOn Store) (old : State) (old_files : ForksState) → zone ≡ old → seen_on zones on ≡ old_files → (new : State) (new_on : FilesOn Store) (call : SeekingCall) (outcome : Outcome)
    → SoughtSteps mem_store zone.zone on call new.asks outcome new.zone new_on
    → taken new.asks new.left ≡ zone.left → OutOfAnswers new.asks new.left → new.loans ≡ zone.loans → new.waiting ≡ zone.waiting → new.guest ≡ zone.guest → new.purges ≡ zone.purges → KeepsLoans zone.zone new.zone
    → SeeksOnForks old old_files call outcome new (seen_on zones new_on)
seeks-seen zones zone on old old_files zone_is files_are new new_on call outcome steps took out loans waiting guest purges keeps =
    subst (λ (f : ForksState). SeeksOnForks old f call outcome new (seen_on zones new_on)) files_are
    (subst (λ (s : State). SeeksOnForks s (seen_on zones on) call outcome new (seen_on zones new_on)) zone_is (seeks-on zones zone new on new_on call outcome steps took out loans waiting guest purges keeps))
