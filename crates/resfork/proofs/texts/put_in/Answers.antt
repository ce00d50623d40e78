use Rattle.fork_saves.specs.Saving.{EndsSaved}
use Rattle.resfork.proofs.Ended.{filed}
use Rattle.resfork.proofs.texts.put_in.Goals as goal

pub returns-clause-saved : goal.returns-clause-saved
returns-clause-saved c = λ for read. let new = c.put_rows.new.acts.events in
    filed (EndsSaved new) c.put_rows.result c.of_file.result c.of_file.ensures.value (c.put_rows.ensures.saved for read)
