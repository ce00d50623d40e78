-- What a call leaves of what is lent, and of the answers that wait.
use Rattle.std.proofs.Common.{◌≡◌, ◌∙◌, ℕ, List, [], Option, Some, None, refl, sym, ap, subst}
use Rattle.std.specs.Prelude.{IfNone, IfSome, IsTrue, is_some}
use Rattle.mac_base.specs.ZoneState.{Memory, ZoneState}
use Rattle.linked_zone.specs.Loans.{KeepsLoans}
use Rattle.mac_base.specs.declared.memory_call.MemoryCall.{MemoryCall}
use Rattle.mac_base.specs.GrowZone.{Answer, Ask}
use Rattle.mac_base.specs.LoanStep.{Loans}
use Rattle.mac_base.specs.Outcomes.{Outcome}
use Rattle.zone_laws.proofs.LentSteps.{step_keeps_lent}
use Rattle.held_calls.specs.Answers.{OutOfAnswers, taken}
use Rattle.held_calls.specs.Making.{MemorySteps}
use Rattle.held_calls.proofs.Steps.{exact-queued}
use Rattle.held_calls.specs.declared.loans.Held.{Held}
use Rattle.held_calls.specs.Holding.{Holds}
use Rattle.held_calls.proofs.Holding.{Holds-kept}
use Rattle.held_zone.specs.declared.fields.GuestFields.{GuestFields}
use Rattle.held_zone.specs.Purges.{Purges}
use Rattle.held_zone.specs.State.{State, WaitAsleep, with_no_asks}
use Rattle.held_zone.specs.Told.{Makes, StaysLent}

-- by what the Memory Manager keeps
pub stays_lent : {old new : ZoneState} → KeepsLoans old new → StaysLent old new
stays_lent keeps = record { keeps = keeps }

-- where the zone is the same
pub same_lent : {old new : ZoneState} → new ≡ old → StaysLent old new
same_lent {old = old} is = subst (λ (z : ZoneState). StaysLent old z) (sym is) (record { keeps = (refl, λ x loan held. held) })

-- what is held is what is lent, after a call that was made or not
pub holds-made : (old new : ZoneState) (held : List Held) (call : MemoryCall) (asks : List Ask) (made : Option Outcome) → IfSome made (λ outcome. MemorySteps old call asks outcome new) → IfNone made (new ≡ old) → KeepsLoans old new → Holds old held → Holds new held
holds-made old new held call asks (Some outcome) steps same keeps holds = Holds-kept old new held keeps (step_keeps_lent old.shape old.heap call asks outcome new.heap steps.0) holds
holds-made old new held call asks None steps same keeps holds = Holds-kept old new held keeps (ap (λ (z : ZoneState). z.heap.table.lent) same) holds

-- a call that was made took its answers from the front of those that were left
pub made-queued : (old new : State) (call : MemoryCall) (made : Option Outcome) → IfSome made (λ outcome. MemorySteps old.zone call new.asks outcome new.zone) → taken new.asks new.left ≡ old.left → OutOfAnswers new.asks new.left → new.loans ≡ old.loans → new.waiting ≡ old.waiting → new.guest ≡ old.guest → new.purges ≡ old.purges → KeepsLoans old.zone new.zone
    → IfSome made (λ outcome. Makes old call outcome new)
made-queued old new call (Some outcome) steps took out loans waiting guest purges keeps = (exact-queued old.zone.shape old.zone.heap call outcome new.zone.heap new.asks new.left old.left steps.1 took out, steps.2, loans, waiting, guest, stays_lent keeps, purges)
made-queued old new call None steps took out loans waiting guest purges keeps = tt

-- the state of these parts
abbrev pub state : ZoneState → Loans → List Answer → List Ask → List ℕ → GuestFields → Purges → State
state zone loans left asks waiting guest purges = record { zone = zone; loans = loans; left = left; asks = asks; waiting = waiting; guest = guest; purges = purges }

-- blocks wait only while the zone sleeps, whatever becomes of it where it is
pub waits-on : (old new : ZoneState) (waiting : List ℕ) → new.memory ≡ old.memory → WaitAsleep old waiting → WaitAsleep new waiting
waits-on old new waiting same waits awake = waits (subst (λ (m : Memory). IsTrue (is_some m.kept)) same awake)

-- a call that wasn't made changed nothing but what was asked
pub not-made : (zone new : ZoneState) (loans : Loans) (source left : List Answer) (before asks : List Ask) (waiting : List ℕ) (guest : GuestFields) (purges : Purges) (made : Option Outcome) → IfNone made (new ≡ zone) → IfNone made (asks ≡ []) → taken asks left ≡ source
    → IfNone made (state new loans left asks waiting guest purges ≡ with_no_asks (state zone loans source before waiting guest purges))
not-made zone new loans source left before asks waiting guest purges (Some outcome) same unasked took = tt
not-made zone new loans source left before asks waiting guest purges None same unasked took =
    ap (λ (z : ZoneState). state z loans left asks waiting guest purges) same
    ∙ ap (λ (made_asks : List Ask). state zone loans left made_asks waiting guest purges) unasked
    ∙ ap (λ (front : List Answer). state zone loans front [] waiting guest purges) (ap (λ (made_asks : List Ask). taken made_asks left) (sym unasked) ∙ took)
