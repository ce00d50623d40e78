use Rattle.std.proofs.Common.{◌∙◌, ap, refl}
use Rattle.held_calls.specs.Answers.{Queue, taken}
use Rattle.held_calls.specs.Holding.{loans_of}
use Rattle.held_calls.proofs.Holding.{Holds-kept}
use Rattle.held_files.proofs.Honest.{none-seen, steps-seen}
use Rattle.held_zone.proofs.Made.{state, waits-on}
use Rattle.held_zone.specs.State.{State}
use Rattle.held_files.proofs.files.ForkFiles.step.Goals as goal

pub invariant_of-session : goal.invariant_of-session
invariant_of-session c = (
  Holds-kept c.session.inside.memory c.make-made.new.memory c.session.inside.loans c.make-made.ensures.loans c.make-made.ensures.lent c.session.invariant.0,
  waits-on c.session.inside.memory c.make-made.new.memory c.session.inside.waiting.items c.make-made.ensures.loans.0 c.session.invariant.1,
)

pub returns-clause-steps : goal.returns-clause-steps
returns-clause-steps c =
    let loans = loans_of c.session.inside.loans in
    let old : State = state c.session.inside.memory loans c.session.inside.answers.left c.session.inside.answers.asks c.session.inside.waiting.items c.session.inside.guest c.session.inside.purges in
    let new : State = state c.make-made.new.memory loans c.make-made.new.procedure.left c.make-made.new.procedure.asks c.session.inside.waiting.items c.session.inside.guest c.session.inside.purges in
    let took = c.make-made.ensures.source ∙ ap (λ (q : Queue). taken q.asks q.left) c.begin.ensures in
    steps-seen c.self.inside.zones old c.self.inside.files c.args.session.now c.args.self.now c.session.view_is c.self.view_is new c.make-made.new.files c.args.call.now c.make-made.result
    c.make-made.ensures.step c.make-made.ensures.leaves.reads_back took c.asks.ensures.out refl refl refl refl c.make-made.ensures.loans

pub returns-clause-full : goal.returns-clause-full
returns-clause-full c =
    let loans = loans_of c.session.inside.loans in
    let old : State = state c.session.inside.memory loans c.session.inside.answers.left c.session.inside.answers.asks c.session.inside.waiting.items c.session.inside.guest c.session.inside.purges in
    let new : State = state c.make-made.new.memory loans c.make-made.new.procedure.left c.make-made.new.procedure.asks c.session.inside.waiting.items c.session.inside.guest c.session.inside.purges in
    let took = c.make-made.ensures.source ∙ ap (λ (q : Queue). taken q.asks q.left) c.begin.ensures in
    none-seen c.self.inside.zones old c.self.inside.files c.args.session.now c.args.self.now c.session.view_is c.self.view_is new c.make-made.new.files c.args.call.now c.make-made.result
    c.make-made.ensures.full c.make-made.ensures.late c.make-made.ensures.unchanged c.make-made.ensures.unasked took refl refl refl refl c.make-made.ensures.same
