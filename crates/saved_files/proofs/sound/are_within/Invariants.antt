use Rattle.std.proofs.Common.{◌+◌, ◌≤◌, take}
use Rattle.std.specs.Prelude.{All}
use Rattle.res_update.specs.Placed.{AreNear}
use Rattle.saved_files.proofs.sound.are_within.Given as goal

-- so it is of the rows so far
abbrev pub invariant-loop-index : goal.invariant-loop-index
invariant-loop-index l = All (λ r. r.resource.datum.offset + r.resource.datum.length ≤ l.length) (take l.index l.rows) × AreNear (take l.index l.rows)
