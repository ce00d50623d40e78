use Rattle.fork_view.proofs.Stopping.{only_failed}
use Rattle.fork_view.proofs.unpack.Outer.begin.Goals as goal

pub returns-in-Err : goal.returns-in-Err
returns-in-Err c = rw c.in-Err.ensures (only_failed _ _ _)
