use Rattle.std.proofs.Common.{◌≡◌, sym}
use Rattle.fork_change.specs.Differences.{IsEmpty}
use Rattle.fork_edit.proofs.Comes.{comes_new, not_so}
use Rattle.fork_edit.proofs.change.changed_from.Goals as goal

pub returns-in-Ok-with_table : goal.returns-in-Ok-with_table
returns-in-Ok-with_table c = λ is_in.
    let other : c.in-Ok.table ≡ c.args.before.now → ⊥ = λ same.
    not_so c.is_empty.result (IsEmpty c.in_ok-differences.differences) c.is_empty.ensures c.if-is_empty.false (c.in_ok-differences.ensures.none.1 (sym same)) in
    comes_new c.args.file.now c.args.from.now c.args.edit c.args.before.now c.in_ok-same_table.field-0 c.in-Ok.table c.in-Ok-with_table.file.items
    c.in_ok-same_table.ensures c.in-Ok.ensures other c.in-Ok-with_table.ensures.holds c.in-Ok-with_table.ensures.refused is_in
