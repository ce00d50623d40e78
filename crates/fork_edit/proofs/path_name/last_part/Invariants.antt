use Rattle.std.proofs.Common.{◌≡◌, ◌≤◌, drop, length}
use Rattle.fork_edit.specs.PathNames.{last_part}
use Rattle.fork_edit.proofs.PathNames.{last_from}
use Rattle.fork_edit.proofs.path_name.last_part.Given as goal

-- the last part is that of what is left, or else what is after the last slash so far
abbrev pub invariant-loop-at : goal.invariant-loop-at
invariant-loop-at l = (last_from (drop l.at l.path) (drop l.start l.path) ≡ last_part l.path) × (l.start ≤ length l.path)
