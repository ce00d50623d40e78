-- How a call of C ends that is made after the handles that it purges are emptied in turn.
use Rattle.std.proofs.Common.{◌≡◌, ◌∙◌, ℕ, true, List, Option, Some, None, ap, sym}
use Rattle.std.specs.Prelude.{IfSome, is_some}
use Rattle.held_calls.specs.declared.loans.Held.{Held}
use Rattle.held_calls.specs.Holding.{Holds}
use Rattle.held_calls.proofs.Holding.{Holds-kept}
use Rattle.linked_zone.specs.Loans.{KeepsLoans}
use Rattle.mac_base.specs.ExactStep.{exact_step}
use Rattle.mac_base.specs.HeadKind.{Shape}
use Rattle.mac_base.specs.Outcomes.{Outcome}
use Rattle.mac_base.specs.ZoneState.{ZoneState}
use Rattle.mac_base.specs.declared.memory_call.MemoryCall.{MemoryCall}
use Rattle.held_zone.specs.declared.session.CallEnd.TheVariants.{Ended}
use Rattle.held_zone.specs.InTurn.{IsEmptied}
use Rattle.held_zone.specs.Purges.{Purges}
use Rattle.held_zone.specs.State.{State, WaitAsleep}
use Rattle.held_zone.specs.Told.{EndsIn, Makes}
use Rattle.held_zone.proofs.InTurns.{loans-then}
use Rattle.held_zone.proofs.Made.{stays_lent, waits-on}

-- what a session keeps where what is lent stays lent, where it is
pub session-kept : (old new : ZoneState) (held : List Held) (waiting : List ℕ) → KeepsLoans old new → new.heap.table.lent ≡ old.heap.table.lent
    → Holds old held × WaitAsleep old waiting → Holds new held × WaitAsleep new waiting
session-kept old new held waiting keeps lent kept = (Holds-kept old new held keeps lent kept.0, waits-on old new waiting keeps.0 kept.1)

-- a call that was made from there
pub ends-made : (old : State) (call : MemoryCall) (zone : ZoneState) (purges : Purges) (made : Option Outcome) (new : State) → is_some made ≡ true
    → IsEmptied old.zone old.purges call zone purges → IfSome made (λ outcome. Makes (record old { zone = zone; purges = purges }) call outcome new)
    → EndsIn old call (Ended made) new
ends-made old call zone purges None new some emptied makes = absurd (cc some)
ends-made old call zone purges (Some outcome) new some emptied makes = record {
  purged = emptied.purged;
  last = zone.heap;
  turns = emptied.turns;
  none_held = emptied.none_held;
  makes = (
    sym (emptied.exact old.left) ∙ ap (λ (s : Shape). exact_step s old.left zone.heap call) (sym emptied.shape) ∙ makes.0,
    makes.1 ∙ emptied.shape,
    makes.2,
    makes.3,
    makes.4,
    stays_lent (loans-then old.zone zone new.zone emptied.loans makes.5.keeps),
    makes.6 ∙ emptied.noted,
  );
}
