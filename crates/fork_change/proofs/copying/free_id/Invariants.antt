use Rattle.std.proofs.Common.{◌≡◌, ◌+◌, ◌-◌, length}
use Rattle.fork_change.specs.Copies.{least_free}
use Rattle.fork_change.proofs.copying.free_id.Given as goal

-- the ids so far are taken
abbrev pub invariant-loop-n : goal.invariant-loop-n
invariant-loop-n l = least_free l.kind l.rows (length l.rows + 1) 128 ≡ least_free l.kind l.rows (length l.rows + 1 - l.n) (128 + l.n)
