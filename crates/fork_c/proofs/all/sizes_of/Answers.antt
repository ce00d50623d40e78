use Rattle.std.proofs.Common.{ap, ◌∙◌, arith}
use Rattle.fork_bytes.specs.Fork.{max_fork}
use Rattle.fork_bytes.specs.Rows.{Row}
use Rattle.fork_c.proofs.Pieces.{piece_fits}
use Rattle.fork_c.proofs.all.sizes_of.Goals as goal

pub overflow_add-sizes-in-loop-row : goal.overflow_add-sizes-in-loop-row
overflow_add-sizes-in-loop-row c =
    let few = piece_fits (λ (row : Row). row.datum) c.args.rows.now c.loop-row.row-index _ c.loop-row.sizes.contents max_fork c.as_slice.result.now c.loop-row-test.true (c.as_slice.ensures ∙ ap (λ (row : Row). row.datum) c.row-item.is) c.loop-row.invariant.2 c.requires.small in
    omega arith
