use Rattle.std.proofs.Common.{ℕ, List, inl, inr, refl, sym, subst}
use Rattle.std.specs.Prelude.{IfOk}
use Rattle.raw_region.specs.State.{State as Region}
use Rattle.held_zone.specs.declared.waking.WhyAsleep.{WhyAsleep}
use Rattle.held_zone.specs.Asleep.{AwakeTaking, RefusesTaken, SleepsOn}
use Rattle.held_zone.specs.NilFlags.{Takes}
use Rattle.held_zone.specs.State.{State}
use Rattle.held_zone.proofs.Guests.{awake-plain}
use Rattle.held_zone.proofs.session.Session.wake_taking.Goals as goal

pub returns-in-Ok-clause-awake : goal.returns-in-Ok-clause-awake
returns-in-Ok-clause-awake c = let awake = c.in-Ok.ensures.awake in awake-plain c.args.self.now c.wake_managed.new.self c.args.region awake.0 awake.1 awake.2

pub returns-in-Damaged-clause-awake : goal.returns-in-Damaged-clause-awake
returns-in-Damaged-clause-awake c =
    let old = c.args.self.now in let now = c.in-Err.field-0.region in let new = c.wake_cleared.new.self in let end = c.wake_cleared.result in let slept = c.in-Err.ensures.asleep in
    subst (λ (r : Region). IfOk end (λ u. (x : List ℕ) × Takes old.zone r.bytes x × AwakeTaking x r old new)) slept.1
    (subst (λ (s : State). IfOk end (λ u. (x : List ℕ) × Takes s.zone now.bytes x × AwakeTaking x now s new)) slept.2 c.wake_cleared.ensures.awake)

pub returns-in-Unlocked : goal.returns-in-Unlocked
returns-in-Unlocked c =
    let old = c.args.self.now in let bytes = c.args.region.bytes in let slept = c.in-Err.ensures.asleep in
    let Means : WhyAsleep → Type 0 = (λ why. RefusesTaken why old bytes → SleepsOn why old bytes) in
    let on : Means c.in-Err.field-0.why = elim c.in-Unlocked.is [
      | inl unlocked ↦ subst Means (sym unlocked) (λ refused. (bytes, inl (refused.0, refl), refused))
      | inr full ↦ subst Means (sym full) (λ refused. absurd refused)
    ] in
    record { awake = tt; asleep = (on slept.0, slept.1, slept.2) }
