use Rattle.std.proofs.Common.{arith}
use Rattle.fork_edit.proofs.PathNames.{last_whole}
use Rattle.fork_edit.proofs.path_name.last_part.Goals as goal

pub loop-at-init : goal.loop-at-init
loop-at-init c = (last_whole c.args.path.now, omega arith)
