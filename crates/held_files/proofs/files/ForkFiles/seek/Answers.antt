use Rattle.std.proofs.Common.{◌∙◌, ap, refl}
use Rattle.held_calls.specs.Answers.{Queue, taken}
use Rattle.held_calls.specs.Holding.{loans_of}
use Rattle.held_calls.proofs.Holding.{Holds-kept}
use Rattle.held_files.proofs.Seeking.{seeks-seen}
use Rattle.held_zone.proofs.Made.{state, waits-on}
use Rattle.held_zone.specs.State.{State}
use Rattle.held_files.proofs.files.ForkFiles.seek.Goals as goal

pub invariant_of-session : goal.invariant_of-session
invariant_of-session c = (
  Holds-kept c.session.inside.memory c.seek-outcome.new.memory c.session.inside.loans c.seek-outcome.ensures.loans c.seek-outcome.ensures.lent c.session.invariant.0,
  waits-on c.session.inside.memory c.seek-outcome.new.memory c.session.inside.waiting.items c.seek-outcome.ensures.loans.0 c.session.invariant.1,
)

pub returns : goal.returns
returns c =
    let loans = loans_of c.session.inside.loans in
    let old : State = state c.session.inside.memory loans c.session.inside.answers.left c.session.inside.answers.asks c.session.inside.waiting.items c.session.inside.guest c.session.inside.purges in
    let new : State = state c.seek-outcome.new.memory loans c.seek-outcome.new.procedure.left c.seek-outcome.new.procedure.asks c.session.inside.waiting.items c.session.inside.guest c.session.inside.purges in
    let took = c.seek-outcome.ensures.source ∙ ap (λ (q : Queue). taken q.asks q.left) c.begin.ensures in
    seeks-seen c.self.inside.zones old c.self.inside.files c.args.session.now c.args.self.now c.session.view_is c.self.view_is new c.seek-outcome.new.files c.args.call.now c.seek-outcome.result
    c.seek-outcome.ensures.step took c.asks.ensures.out refl refl refl refl c.seek-outcome.ensures.loans
