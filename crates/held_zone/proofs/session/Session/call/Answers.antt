use Rattle.std.proofs.Common.{◌∙◌, ap, not, subst}
use Rattle.held_calls.specs.Holding.{loans_of}
use Rattle.held_zone.specs.State.{State}
use Rattle.held_zone.specs.Told.{EndsIn}
use Rattle.held_zone.specs.declared.session.CallEnd.TheVariants.{Ended}
use Rattle.held_zone.proofs.Ends.{ends-made, session-kept}
use Rattle.held_zone.proofs.Made.{state}
use Rattle.held_zone.proofs.session.Session.call.Goals as goal

pub invariant_of-self : goal.invariant_of-self
invariant_of-self c =
    let inside = c.self.inside in let held = c.if-not-purge_in_turn.ensures in
    session-kept inside.memory c.purge_in_turn.new.memory inside.loans inside.waiting.items held.loans held.lent c.self.invariant

pub invariant_of-self-else-not-purge_in_turn : goal.invariant_of-self-else-not-purge_in_turn
invariant_of-self-else-not-purge_in_turn c =
    let inside = c.self.inside in let emptied = c.if-not-purge_in_turn.ensures in
    session-kept inside.memory c.purge_in_turn.new.memory inside.loans inside.waiting.items emptied.loans emptied.lent c.self.invariant

pub returns : goal.returns
returns c =
    let inside = c.self.inside in let through = c.purge_in_turn.new in
    let old : State = state inside.memory (loans_of inside.loans) inside.answers.left inside.answers.asks inside.waiting.items inside.guest inside.purges in
    subst (λ (s : State). EndsIn s c.args.call.now (Ended c.make.result) c.make.new.self) c.self.view_is
    (ends-made old c.args.call.now through.memory through.purges c.make.result c.make.new.self (c.make.ensures.plain ∙ ap not c.requires) c.if-not-purge_in_turn.ensures c.make.ensures.makes)
