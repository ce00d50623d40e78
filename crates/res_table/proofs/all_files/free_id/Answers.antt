use Rattle.std.proofs.Common.{◌+◌, sym, ◌∙◌}
use Rattle.res_table.specs.AllFiles.{all_rows}
use Rattle.res_table.specs.Rows.{largest_id}
use Rattle.res_table.proofs.AllFiles.{taken_through, one_free, none_free}
use Rattle.res_table.proofs.all_files.free_id.Goals as goal

pub returns-in_err-next : goal.returns-in_err-next
returns-in_err-next g c =
    c.from_residual.ensures ∙ sym (none_free c.args.kind c.args.files.now (taken_through c.args.kind 128 c.loop-next.id (largest_id + 1) (all_rows c.args.files.now) c.loop-next.invariant.taken c.in_err-next.ensures.none))

pub returns-then-next-id : goal.returns-then-next-id
returns-then-next-id g c =
    let next = c.loop-next.invariant in
    sym (one_free c.args.kind c.loop-next.id c.args.files.now next.from next.small next.taken (c.in_ok-next.ensures.free c.if-next-id.true))
