use Rattle.std.proofs.Common.{refl, inl, inr}
use Rattle.script_run.proofs.running.tell_no_memory.Goals as goal

pub returns-then-write_whole-clause-ends : goal.returns-then-write_whole-clause-ends
returns-then-write_whole-clause-ends g c = let w = c.if-write_whole.ensures.written in (w.0, w.1, inl (refl, w.2))

pub returns-else-write_whole-clause-ends : goal.returns-else-write_whole-clause-ends
returns-else-write_whole-clause-ends g c = let w = c.if-write_whole.ensures.written in (w.0, w.1, inr (refl, w.2))
