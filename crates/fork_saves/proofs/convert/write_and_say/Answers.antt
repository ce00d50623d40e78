use Rattle.std.proofs.Common.{None, inl}
use Rattle.std.proofs.lemmas.Result.{IfOk-weaker}
use Rattle.file_acts.specs.Saved.{SavedAndSaid}
use Rattle.fork_saves.specs.Saving.{EndsSaved}
use Rattle.file_acts.specs.Acts.{Then}
use Rattle.fork_saves.proofs.Steps.{then_done, then_not}
use Rattle.fork_saves.proofs.convert.write_and_say.Goals as goal

pub returns-clause-does : goal.returns-clause-does
returns-clause-does c = then_done _ _ c.in_ok-write_converted.field-0 c.write_converted.new.acts.events _ _ _ (rw c.deref.ensures.value at c.in_ok-write_converted.ensures.does) (c.say_converted.ensures.does)

pub returns-in_err-write_converted-clause-does : goal.returns-in_err-write_converted-clause-does
returns-in_err-write_converted-clause-does c = then_not _ _ c.from_residual.result c.in_err-write_converted.field-0.0 _ _ c.from_residual.ensures.1 (rw c.deref.ensures.value at c.in_err-write_converted.ensures.does)

pub returns-clause-dry : goal.returns-clause-dry
returns-clause-dry c = λ dry before. c.say_converted.ensures.quiet None (c.in_ok-write_converted.ensures.dry dry before)

pub returns-clause-saved : goal.returns-clause-saved
returns-clause-saved c = λ for. let it = c.in_ok-write_converted.ensures.saved for in
    IfOk-weaker c.say_converted.result (λ done. SavedAndSaid it.0 c.say_converted.new.acts.events) (λ done. EndsSaved c.say_converted.new.acts.events) (λ done said. (it.0, inl said)) (c.say_converted.ensures.saved it.0 it.1)

pub returns-clause-seen : goal.returns-clause-seen
returns-clause-seen c = λ for seen. let it = c.in_ok-write_converted.ensures.saved for in c.say_converted.ensures.seen it.0 it.1 (c.in_ok-write_converted.ensures.seen for seen)
