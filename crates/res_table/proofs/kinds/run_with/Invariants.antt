use Rattle.std.proofs.Common.{◌≡◌, ◌+◌, ◌-◌, length, take}
use Rattle.res_table.specs.Kinds.{expanded}
use Rattle.res_table.proofs.kinds.run_with.Given as goal

-- so many are left to pass over, after the runs so far
abbrev pub invariant-loop-index : goal.invariant-loop-index
invariant-loop-index l = l.fn.place ≡ length (expanded (take l.index l.runs)) + l.left

abbrev pub decreases-loop-index : goal.decreases-loop-index
decreases-loop-index l = length l.runs - l.index
