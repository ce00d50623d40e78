use Rattle.std.proofs.Common.{◌∙◌, ◌∷◌, ◌++◌, [], List, ap}
use Rattle.mac_base.specs.GrowZone.{Ask}
use Rattle.held_calls.specs.Answers.{Queue, taken}
use Rattle.held_calls.proofs.Queued.{taken-asked}
use Rattle.held_calls.proofs.answers.AnswerQueueGrowZone.ask.Goals as goal

pub returns-clause-source : goal.returns-clause-source
returns-clause-source g c =
    ap (λ (asks : List Ask). taken asks c.take_front-answer.new.left.items) (c.push.ensures.items ∙ ap (λ (ask : Ask). c.self.inside.asks.items ++ ask ∷ []) c.new.ensures)
    ∙ taken-asked c.take_front-answer.result c.self.inside.asks.items c.args.needed c.self.inside.left.items c.take_front-answer.new.left.items c.take_front-answer.ensures.some c.take_front-answer.ensures.none c.take_front-answer.ensures.stays
    ∙ ap (λ (q : Queue). taken q.asks q.left) c.self.view_is
