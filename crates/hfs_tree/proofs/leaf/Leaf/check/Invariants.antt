use Rattle.std.proofs.Common.{◌≡◌, ◌+◌, ◌-◌}
use Rattle.hfs_tree.specs.Leaves.{count_of, first_bad}
use Rattle.hfs_tree.proofs.leaf.Leaf.check.Given as goal

-- the first bad record is not before this one
abbrev pub invariant-loop-row : goal.invariant-loop-row
invariant-loop-row l = first_bad l.self.bytes l.row (count_of l.self.bytes + 1 - l.row) ≡ first_bad l.self.bytes 0 (count_of l.self.bytes + 1)
