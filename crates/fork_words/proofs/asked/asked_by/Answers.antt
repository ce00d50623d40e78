use Rattle.std.proofs.Common.{inr}
use Rattle.std.proofs.lemmas.Result.{IfOk-weaker}
use Rattle.fork_words.proofs.asked.asked_by.Goals as goal

pub returns-in-Ok-clause-asked : goal.returns-in-Ok-clause-asked
returns-in-Ok-clause-asked g c = IfOk-weaker c.asked_of.result _ _ (λ command is. inr (c.in-Ok.matches, is)) c.asked_of.ensures.asked
