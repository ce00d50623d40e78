use Rattle.std.proofs.Common.{◌≡◌, ◌≤◌, ◌-◌, All, None, take, drop, length}
use Rattle.res_files.proofs.handles.next_handle.Given as goal

-- no row so far has a handle
abbrev pub invariant-loop-at : goal.invariant-loop-at
invariant-loop-at l = (l.from ≤ l.at) × All (λ r. r.handle ≡ None) (take (l.at - l.from) (drop l.from l.rows))

abbrev pub decreases-loop-at : goal.decreases-loop-at
decreases-loop-at l = length l.rows - l.at
