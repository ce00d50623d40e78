use Rattle.std.proofs.Common.{rules, ◌∙◌}
use Rattle.res_update.specs.Changes.{FileRow, rows_of}
use Rattle.res_table.specs.Rows.{is_changed}
use Rattle.res_manager.proofs.Handles.{lent_among}
use Rattle.res_manager.proofs.tests.test_changed.Goals as goal

pub returns-in_err-require-clause-passed : goal.returns-in_err-require-clause-passed
returns-in_err-require-clause-passed g c =
    let lent = c.has_changed_row_among.ensures ∙ lent_among c.args.memory.now.heap.table c.args.lent.now (λ (r : FileRow). is_changed r) c.requires (rows_of c.in_ok-number.number c.args.files.now.files) in search (rules, lent)

pub returns-clause-passed : goal.returns-clause-passed
returns-clause-passed g c =
    let lent = c.has_changed_row_among.ensures ∙ lent_among c.args.memory.now.heap.table c.args.lent.now (λ (r : FileRow). is_changed r) c.requires (rows_of c.in_ok-number.number c.args.files.now.files) in search (rules, lent)
