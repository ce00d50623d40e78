use Rattle.std.proofs.Common.{sym, subst}
use Rattle.fork_bytes.specs.declared.table.Table.{Table}
use Rattle.fork_bytes.specs.Laws.{IsGrouped}
use Rattle.fork_answer.proofs.Grouping.{is_grouped}
use Rattle.fork_answer.proofs.table.salvaged_table.Goals as goal

pub returns-in-Ok-clause-grouped : goal.returns-in-Ok-clause-grouped
returns-in-Ok-clause-grouped c =
    let P : Table → Type 0 = λ t. IsGrouped t.rows in subst P (sym c.in-Ok.ensures) (is_grouped c.args.fork.now c.as_slice-2.result.now)
