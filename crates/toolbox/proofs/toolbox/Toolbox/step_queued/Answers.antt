use Rattle.std.proofs.Common.{ap, ◌∙◌}
use Rattle.held_calls.specs.Answers.{Queue, taken}
use Rattle.toolbox.proofs.Queued.{leaves_answers}
use Rattle.toolbox.proofs.toolbox.Toolbox.step_queued.Goals as goal

pub returns-clause-answers : goal.returns-clause-answers
returns-clause-answers g c = leaves_answers g.S.ForkStore _ _ c.args.call.now _ _ _ c.step-reply.result c.step-reply.ensures.step (c.step-reply.ensures.source ∙ ap (λ (q : Queue). taken q.asks q.left) c.begin.ensures) c.asks.ensures.out
