use Rattle.std.proofs.Common.{◌≡◌, ◌+◌, ◌-◌, suc, ℕ, ap, ◌∙◌, arith}
use Rattle.hfs_tree.specs.Leaves.{count_of}
use Rattle.hfs_tree.specs.Rows.{rows_before, rows_from}
use Rattle.hfs_tree.proofs.RowsRead.{row_read, row_faults, no_row}
use Rattle.hfs_tree.proofs.rows.push_rows.Goals as goal

pub loop-row-init : goal.loop-row-init
loop-row-init g c = λ rest.
    let all : count_of c.args.leaf.now.bytes ≡ count_of c.args.leaf.now.bytes - 0 = omega arith in
    ap (λ (k : ℕ). rows_before c.args.rows.now.items (rows_from g.T.TreeRow.row_of c.args.leaf.now 0 k rest)) all

pub returns-in-Err : goal.returns-in-Err
returns-in-Err g c = λ rest.
    let row = c.loop-row.row in
    let left : count_of c.args.leaf.now.bytes - row ≡ suc (count_of c.args.leaf.now.bytes - (row + 1)) = omega (arith, c.loop-row-test.true, c.row_count-row-end.ensures.value) in
    c.loop-row.invariant rest ∙ row_faults g.T.TreeRow.row_of c.loop-row.rows.items c.args.leaf.now row _ _ c.in-Err.fault rest left c.in-Err.ensures

pub loop-row-preserved : goal.loop-row-preserved
loop-row-preserved g c = λ rest.
    let row = c.loop-row.row in
    let left : count_of c.args.leaf.now.bytes - row ≡ suc (count_of c.args.leaf.now.bytes - (row + 1)) = omega (arith, c.loop-row-test.true, c.row_count-row-end.ensures.value) in
    rw c.in_ok-push-in-Ok.ensures.items (c.loop-row.invariant rest ∙ row_read g.T.TreeRow.row_of c.loop-row.rows.items c.args.leaf.now row _ _ c.in-Ok.found rest left c.in-Ok.ensures)

pub returns : goal.returns
returns g c = λ rest. c.loop-row.invariant rest ∙ no_row g.T.TreeRow.row_of c.loop-row.rows.items c.args.leaf.now c.loop-row.row _ rest (omega (arith, c.loop-row-test.false, c.row_count-row-end.ensures.value))
