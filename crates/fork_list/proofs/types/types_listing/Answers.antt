use Rattle.std.proofs.Common.{◌∙◌, string_bytes, sym}
use Rattle.fork_list.proofs.TypeLines.{one_more}
use Rattle.fork_list.proofs.types.types_listing.Goals as goal

pub loop-row-preserved : goal.loop-row-preserved
loop-row-preserved g c =
    let row = c.row-item.result in
    let count = c.count_of.ensures ∙ c.in_ok-counts.ensures row.kind in
    rw (c.in_ok-write.ensures.bytes, count)
    (one_more c.args.letters c.args.kinds.now c.args.rows.now c.loop-row.before (string_bytes c.loop-row.text) _ c.args.rows.now c.loop-row.row-index row
    c.loop-row-test.true (sym c.row-item.is) c.loop-row.invariant)
