-- Calls on forks in memory: each device is honest, so that a call by what the devices answered is one on the forks
-- themselves.
use Rattle.std.proofs.Common.{◌≡◌, ◌∙◌, ◌-◌, refl, sym, ap, subst, ℕ, zero, suc, Bool, true, false, List, [], ◌∷◌, map, Option, Some, None, Result, Ok, Err}
use Rattle.std.specs.Option.{IsSomeAnd}
use Rattle.std.specs.Prelude.{MatchBool, slice_index, ⊤, IfOk, IfSome, IsTrue, OnErr, slice_get}
use Rattle.fork_disk.specs.Fork.{IsPartly}
use Rattle.fork_disk.specs.declared.mem_disk.MemDisk.{MemDisk}
use Rattle.fork_disk.specs.declared.store.ForkStore.{Ghosts}
use Rattle.fork_disk.specs.declared.store.PlainStore.{PlainStore}
use Rattle.held_calls.specs.Answers.{OutOfAnswers, taken}
use Rattle.held_calls.proofs.Steps.{exact-queued}
use Rattle.held_files.specs.Forks.{ForksState, failures_in, fork_in, seen_on}
use Rattle.held_files.specs.declared.elsewhere.OtherZones.{OtherZones}
use Rattle.held_files.specs.Making.{FailsAt, HasNoMemory, StepsOnForks}
use Rattle.held_zone.specs.declared.fields.GuestFields.{GuestFields}
use Rattle.held_zone.specs.Purges.{Purges}
use Rattle.held_zone.specs.State.{State}
use Rattle.linked_zone.specs.Loans.{KeepsLoans}
use Rattle.mac_base.specs.ZoneState.{ZoneState}
use Rattle.mac_base.specs.declared.error.HostFull.{HostFull}
use Rattle.mac_base.specs.declared.error.OsErr.TheVariants.{MemFullErr}
use Rattle.mac_base.specs.GrowZone.{Answer, Ask}
use Rattle.mac_base.specs.LoanStep.{Loans}
use Rattle.mac_base.specs.Outcomes.{Outcome}
use Rattle.mac_base.specs.declared.resource_call.ResourceCall.{ResourceCall}
use Rattle.res_update.proofs.Answering.{all_answered, answered_before, honest_step}
use Rattle.fork_disk.specs.Disk.{Rose}
use Rattle.res_update.specs.Answered.{IsAnswered, file_of_work}
use Rattle.res_update.specs.Device.{device_works, read_truly}
use Rattle.res_update.specs.Files.{ResState}
use Rattle.res_update.specs.Steps.{IsSaved, ReadsBack, update_in, work_of, Memory as MayStep}
use Rattle.res_update.specs.Tests.{resource_refusal}
use Rattle.res_update.specs.Updates.{Update}
use Rattle.res_files.specs.FilesOn.{FailedAt, FilesOn, HonestAt, NoneFailed, failures_at}
use Rattle.res_manager.specs.Steps.{ResourceSteps, state_of, takes_memory}
use Rattle.toolbox.specs.Steps.{StepsFrom}
use Rattle.toolbox.proofs.Resources.{step_by}

-- a fork in memory
abbrev pub Store : Type 0
Store = PlainStore MemDisk

-- its ghosts: it is always honest
abbrev pub mem_store : Ghosts Store
mem_store = record {
  fork = fork_in;
  is_ready = λ store. ⊤;
  is_stable = λ store. ⊤;
  is_honest = λ store. ⊤;
  failures = failures_in;
  may_leave = IsPartly;
  has_journal = ⊥;
  Event = ⊤;
  history = λ store. [];
  may_find = λ history found. ⊤;
  copied = λ store. 0;
  ready_finds = λ store journalled. absurd journalled;
}

-- whether the device of a file is honest, among these stores
abbrev pub honest_in : List Store → ℕ → Type 0
honest_in stores = HonestAt mem_store.is_honest stores

-- each is
pub all_honest : (stores : List Store) (k : ℕ) → honest_in stores k
all_honest stores k = by (slice_get stores _)
  where
    by : (found : Option Store) → IfSome found (λ store. ⊤)
    by None = tt
    by (Some store) = tt

-- what is saved on honest devices is saved
pub saved_there : (honest : ℕ → Type 0) → ((k : ℕ) → honest k) → (update : Option Update) (state : ResState) → IsSaved honest update state → IsSaved (λ k. ⊤) update state
saved_there honest is None state saved = tt
saved_there honest is (Some u) state saved = λ any. saved (is u.file)

reads_there : (honest : ℕ → Type 0) → ((k : ℕ) → honest k) → (old : ResState) (call : ResourceCall) (outcome : Outcome) (new : ResState) → ReadsBack honest old call outcome new → ReadsBack (λ k. ⊤) old call outcome new
reads_there honest is old call (Ok results) new reads = saved_there honest is (update_in (work_of old call)) new reads
reads_there honest is old call (Err code) new reads = tt

-- a count of failures, out of their list
counted : (stores : List Store) (at : ℕ) → failures_at failures_in at stores ≡ slice_index (map failures_in stores) at
counted [] at = refl
counted (store ∷ stores) zero = refl
counted (store ∷ stores) (suc at) = counted stores at

-- it rose there
pub counts-rose : (k : ℕ) (old new : List Store) → Rose (failures_at failures_in (k - 1) old) (failures_at failures_in (k - 1) new) → FailsAt k (map failures_in old) (map failures_in new)
counts-rose k old new rose = subst (λ (n : ℕ). Rose n (slice_index (map failures_in new) (k - 1))) (counted old (k - 1)) (subst (λ (n : ℕ). Rose (failures_at failures_in (k - 1) old) n) (counted new (k - 1)) rose)

-- a call that had its host memory
steps-on : (zones : OtherZones) (old new : State) (on new_on : FilesOn Store) (call : ResourceCall) (outcome : Outcome)
    → ResourceSteps mem_store old.zone on call new.asks outcome new.zone new_on
    → ReadsBack (honest_in new_on.stores) (state_of fork_in old.zone on) call outcome (state_of fork_in new.zone new_on)
    → taken new.asks new.left ≡ old.left → OutOfAnswers new.asks new.left → new.loans ≡ old.loans → new.waiting ≡ old.waiting → new.guest ≡ old.guest → new.purges ≡ old.purges → KeepsLoans old.zone new.zone
    → StepsOnForks old (seen_on zones on) call outcome new (seen_on zones new_on)
steps-on zones old new on new_on call outcome steps reads took out loans waiting guest purges keeps = record {
  device = steps.device;
  step = step_by MayStep (StepsFrom old.left new.left) (read_truly IsPartly) steps.device (state_of fork_in old.zone on) call new.asks (record { outcome = outcome; state = state_of fork_in new.zone new_on })
      (λ s heap inner given after may. exact-queued s heap inner given after new.asks new.left old.left may.1 took out)
      (honest_step (honest_in new_on.stores) (NoneFailed mem_store.failures on.stores new_on.stores) (λ k. FailedAt mem_store.failures k on.stores new_on.stores)
      MayStep IsPartly (state_of fork_in old.zone on) call new.asks outcome (state_of fork_in new.zone new_on) (all_honest new_on.stores) steps);
  cause = by_state steps.cause;
  taken = sym took;
  reads_back = reads_there (honest_in new_on.stores) (all_honest new_on.stores) (state_of fork_in old.zone on) call outcome (state_of fork_in new.zone new_on) reads;
  loans = loans;
  waiting = waiting;
  guest = guest;
  purges = purges;
  lent = record { keeps = keeps };
  zones = refl;
}
  where
    was : ResState
    was = state_of fork_in old.zone on

    before_is : steps.before ≡ was
    before_is = all_answered (honest_in new_on.stores) (all_honest new_on.stores) was steps.before (answered_before (honest_in new_on.stores) call was steps.before steps.was)

    Caused : ResState → Type 0
    Caused state = MatchBool (device_works steps.device) (map failures_in new_on.stores ≡ map failures_in on.stores)
        (IsSomeAnd (file_of_work (work_of state call)) (λ k. FailsAt k (map failures_in on.stores) (map failures_in new_on.stores)))

    by_file : (file : Option ℕ) → IsSomeAnd file (λ k. FailedAt failures_in k on.stores new_on.stores) → IsSomeAnd file (λ k. FailsAt k (map failures_in on.stores) (map failures_in new_on.stores))
    by_file None failed = failed
    by_file (Some k) failed = counts-rose k on.stores new_on.stores failed.1

    by_device : (works : Bool) (file : Option ℕ) → MatchBool works (NoneFailed failures_in on.stores new_on.stores) (IsSomeAnd file (λ k. FailedAt failures_in k on.stores new_on.stores))
        → MatchBool works (map failures_in new_on.stores ≡ map failures_in on.stores) (IsSomeAnd file (λ k. FailsAt k (map failures_in on.stores) (map failures_in new_on.stores)))
    by_device true file cause = cause
    by_device false file cause = by_file file cause

    by_state : MatchBool (device_works steps.device) (NoneFailed failures_in on.stores new_on.stores) (IsSomeAnd (file_of_work (work_of steps.before call)) (λ k. FailedAt failures_in k on.stores new_on.stores)) → Caused was
    by_state cause = subst Caused before_is (by_device (device_works steps.device) (file_of_work (work_of steps.before call)) cause)

-- one that had none
no-memory : (zones : OtherZones) (old new : State) (on new_on : FilesOn Store) (call : ResourceCall)
    → IsTrue (takes_memory (state_of fork_in old.zone on) call) → resource_refusal (state_of fork_in old.zone on) call ≡ None
    → new.zone ≡ old.zone → new.asks ≡ [] → taken new.asks new.left ≡ old.left → new.loans ≡ old.loans → new.waiting ≡ old.waiting → new.guest ≡ old.guest → new.purges ≡ old.purges
    → IsAnswered (honest_in new_on.stores) (state_of fork_in new.zone new_on) (state_of fork_in old.zone on)
    → HasNoMemory old (seen_on zones on) call (Err MemFullErr) new (seen_on zones new_on)
no-memory zones old new on new_on call takes passes zone asks took loans waiting guest purges same = record {
  takes = takes;
  passes = passes;
  full = refl;
  zone = ap (λ (z : ZoneState). let s : State = record { zone = z; loans = new.loans; left = new.left; asks = new.asks; waiting = new.waiting; guest = new.guest; purges = new.purges } in s) zone
      ∙ ap (λ (l : Loans). let s : State = record { zone = old.zone; loans = l; left = new.left; asks = new.asks; waiting = new.waiting; guest = new.guest; purges = new.purges } in s) loans
      ∙ ap (λ (made : List Ask). let s : State = record { zone = old.zone; loans = old.loans; left = new.left; asks = made; waiting = new.waiting; guest = new.guest; purges = new.purges } in s) asks
      ∙ ap (λ (left : List Answer). let s : State = record { zone = old.zone; loans = old.loans; left = left; asks = []; waiting = new.waiting; guest = new.guest; purges = new.purges } in s) (ap (λ (made : List Ask). taken made new.left) (sym asks) ∙ took)
      ∙ ap (λ (xs : List ℕ). let s : State = record { zone = old.zone; loans = old.loans; left = old.left; asks = []; waiting = xs; guest = new.guest; purges = new.purges } in s) waiting
      ∙ ap (λ (fields : GuestFields). let s : State = record { zone = old.zone; loans = old.loans; left = old.left; asks = []; waiting = old.waiting; guest = fields; purges = new.purges } in s) guest
      ∙ ap (λ (p : Purges). let s : State = record { zone = old.zone; loans = old.loans; left = old.left; asks = []; waiting = old.waiting; guest = old.guest; purges = p } in s) purges;
  files = (ap (λ (s : ResState). s.files) stays, ap (λ (s : ResState). s.loads) stays, ap (λ (s : ResState). s.disks) stays);
  zones = refl;
}
  where
    stays : state_of fork_in new.zone new_on ≡ state_of fork_in old.zone on
    stays = sym (all_answered (honest_in new_on.stores) (all_honest new_on.stores) (state_of fork_in new.zone new_on) (state_of fork_in old.zone on) same)

module _ (zones : OtherZones) (zone : State) (on : FilesOn Store) (old : State) (old_files : ForksState) (zone_is : zone ≡ old) (files_are : seen_on zones on ≡ old_files) (new : State) (new_on : FilesOn Store) (call : ResourceCall) where
  -- so it is with the zone and the files as they were seen
  seen_then : (R : State → ForksState → Type 0) → R zone (seen_on zones on) → R old old_files
  seen_then R is = subst (R old) files_are (subst (λ (s : State). R s (seen_on zones on)) zone_is is)

  pub steps-seen : (made : Result Outcome HostFull)
      → IfOk made (λ outcome. ResourceSteps mem_store zone.zone on call new.asks outcome new.zone new_on)
      → IfOk made (λ outcome. ReadsBack (honest_in new_on.stores) (state_of fork_in zone.zone on) call outcome (state_of fork_in new.zone new_on))
      → taken new.asks new.left ≡ zone.left → OutOfAnswers new.asks new.left → new.loans ≡ zone.loans → new.waiting ≡ zone.waiting → new.guest ≡ zone.guest → new.purges ≡ zone.purges → KeepsLoans zone.zone new.zone
      → IfOk made (λ outcome. StepsOnForks old old_files call outcome new (seen_on zones new_on))
  steps-seen (Ok outcome) steps reads took out loans waiting guest purges keeps =
      seen_then (λ s f. StepsOnForks s f call outcome new (seen_on zones new_on)) (steps-on zones zone new on new_on call outcome steps reads took out loans waiting guest purges keeps)
  steps-seen (Err full) steps reads took out loans waiting guest purges keeps = tt

  pub none-seen : (made : Result Outcome HostFull)
      → OnErr made (IsTrue (takes_memory (state_of fork_in zone.zone on) call)) → OnErr made (resource_refusal (state_of fork_in zone.zone on) call ≡ None)
      → OnErr made (new.zone ≡ zone.zone) → OnErr made (new.asks ≡ []) → taken new.asks new.left ≡ zone.left → new.loans ≡ zone.loans → new.waiting ≡ zone.waiting → new.guest ≡ zone.guest → new.purges ≡ zone.purges
      → OnErr made (IsAnswered (honest_in new_on.stores) (state_of fork_in new.zone new_on) (state_of fork_in zone.zone on))
      → OnErr made (HasNoMemory old old_files call (Err MemFullErr) new (seen_on zones new_on))
  none-seen (Ok outcome) takes passes same asks took loans waiting guest purges answered = tt
  none-seen (Err full) takes passes same asks took loans waiting guest purges answered =
      seen_then (λ s f. HasNoMemory s f call (Err MemFullErr) new (seen_on zones new_on)) (no-memory zones zone new on new_on call takes passes same asks took loans waiting guest purges answered)
