use Rattle.std.proofs.Common.{◌≡◌, ◌∙◌, ap, refl, subst}
use Rattle.std.specs.Prelude.{IfNone, IfSome}
use Rattle.held_calls.specs.Holding.{loans_of}
use Rattle.held_calls.specs.Answers.{Queue, taken}
use Rattle.held_zone.specs.State.{State, with_no_asks}
use Rattle.held_zone.specs.Told.{Makes}
use Rattle.held_zone.proofs.Made.{holds-made, made-queued, not-made, state, waits-on}
use Rattle.held_zone.proofs.session.Session.make.Goals as goal

pub invariant_of-self : goal.invariant_of-self
invariant_of-self c =
    let made = c.make_plain-outcome in (
      holds-made c.self.inside.memory made.new.memory c.self.inside.loans c.args.call.now made.new.procedure.asks made.result made.ensures.step made.ensures.unchanged made.ensures.loans c.self.invariant.0,
      waits-on c.self.inside.memory made.new.memory c.self.inside.waiting.items made.ensures.loans.0 c.self.invariant.1,
    )

pub returns-clause-makes : goal.returns-clause-makes
returns-clause-makes c =
    let made = c.make_plain-outcome in let loans = loans_of c.self.inside.loans in
    let new : State = state made.new.memory loans made.new.procedure.left made.new.procedure.asks c.self.inside.waiting.items c.self.inside.guest c.self.inside.purges in
    let took = made.ensures.source ∙ ap (λ (q : Queue). taken q.asks q.left) c.begin.ensures in
    let old : State = state c.self.inside.memory loans c.self.inside.answers.left c.self.inside.answers.asks c.self.inside.waiting.items c.self.inside.guest c.self.inside.purges in
    subst (λ (s : State). IfSome made.result (λ outcome. Makes s c.args.call.now outcome new)) c.self.view_is
    (made-queued old new c.args.call.now made.result made.ensures.step took c.asks.ensures.out refl refl refl refl made.ensures.loans)

pub returns-clause-unmade : goal.returns-clause-unmade
returns-clause-unmade c =
    let made = c.make_plain-outcome in let loans = loans_of c.self.inside.loans in
    let new : State = state made.new.memory loans made.new.procedure.left made.new.procedure.asks c.self.inside.waiting.items c.self.inside.guest c.self.inside.purges in
    let took = made.ensures.source ∙ ap (λ (q : Queue). taken q.asks q.left) c.begin.ensures in
    subst (λ (s : State). IfNone made.result (new ≡ with_no_asks s)) c.self.view_is
    (not-made c.self.inside.memory made.new.memory loans c.self.inside.answers.left made.new.procedure.left c.self.inside.answers.asks made.new.procedure.asks c.self.inside.waiting.items c.self.inside.guest c.self.inside.purges made.result made.ensures.unchanged made.ensures.unasked took)
