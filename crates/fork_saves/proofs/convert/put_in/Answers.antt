use Rattle.std.proofs.lemmas.Result.{IfOk-weaker}
use Rattle.file_acts.specs.Saved.{SomeSaved}
use Rattle.fork_saves.specs.Saving.{SavesReady}
use Rattle.fork_saves.proofs.convert.put_in.Goals as goal

pub returns-in-OutputFirst-clause-saved : goal.returns-in-OutputFirst-clause-saved
returns-in-OutputFirst-clause-saved c = λ one other whole also. IfOk-weaker c.put_two.result (λ done. SavesReady c.args.data c.put_two.new.acts.events) (λ done. SomeSaved c.put_two.new.acts.events)
    (λ done saves. (also.0, saves also.0 also.1)) (c.put_two.ensures.saves one other whole)

pub returns-in-DataFirst-clause-saved : goal.returns-in-DataFirst-clause-saved
returns-in-DataFirst-clause-saved c = λ one other whole also. IfOk-weaker c.put_two-in-DataFirst.result (λ done. SavesReady c.args.output c.put_two-in-DataFirst.new.acts.events)
    (λ done. SomeSaved c.put_two-in-DataFirst.new.acts.events) (λ done saves. (whole.0, saves whole.0 whole.1)) (c.put_two-in-DataFirst.ensures.saves other one also)
