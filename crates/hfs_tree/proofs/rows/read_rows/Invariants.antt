use Rattle.std.proofs.Common.{◌≡◌, drop}
use Rattle.hfs_tree.specs.Rows.{rows_before, rows_in}
use Rattle.hfs_tree.proofs.rows.read_rows.Given as goal

-- what was read, and the leaves from here on, are those of all leaves
abbrev pub invariant-loop-leaf : goal.invariant-loop-leaf
invariant-loop-leaf g l =
    rows_in g.T.TreeRow.row_of l.chain.leaves.items l.chain.fault ≡ rows_before l.rows.items (rows_in g.T.TreeRow.row_of (drop l.leaf-index l.chain.leaves.items) l.chain.fault)
