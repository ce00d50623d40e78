use Rattle.resfork.proofs.Ended.{ends_as, made_saved}
use Rattle.resfork.proofs.texts.put_rows.Goals as goal

pub returns-clause-saved : goal.returns-clause-saved
returns-clause-saved c = λ for read. let new = c.change_source.new.acts.events in
    made_saved c.change_source.result new (c.change_source.ensures.saved for read) (λ ends. ends_as _ ends.0 new ends.2)
