use Rattle.std.proofs.Common.{◌≡◌}
use Rattle.row_image.proofs.Restored.{restored}
use Rattle.row_image.proofs.image.restore.Given as goal

-- the rows so far are restored
abbrev pub invariant-loop-index : goal.invariant-loop-index
invariant-loop-index l = l.opened ≡ restored l.index l.rows
