use Rattle.std.proofs.Common.{◌≡◌, rules}
use Rattle.std.specs.List.{find}
use Rattle.fork_change.specs.Rows.{is_at, row_to_put}
use Rattle.fork_edit.proofs.Becoming.{put_becomes}
use Rattle.fork_edit.proofs.edit.put_in.Goals as goal

pub returns-then-is_new : goal.returns-then-is_new
returns-then-is_new c =
    let made : c.in_ok-row.row ≡ row_to_put c.args.change c.args.bytes.now (find (is_at c.args.change.to) c.args.table.rows) = search rules in
    put_becomes c.args.table c.args.change c.args.bytes.now c.args.is_new c.in_ok-row.row c.put_new.result c.if-is_new.true made c.put_new.ensures.put c.put_new.ensures.new c.put_new.ensures.taken
    c.put_new.ensures.fault
