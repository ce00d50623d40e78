use Rattle.std.proofs.Common.{sym, ap, ◌∙◌, ◌+◌, List, [], get_or, take}
use Rattle.fork_bytes.specs.declared.place.Place.{Place}
use Rattle.res_table.specs.declared.row.Row.{Row}
use Rattle.res_table.specs.OpenFiles.{rows_changed}
use Rattle.res_table.specs.Rows.{changed_at}
use Rattle.res_update.specs.Drafts.{is_selected}
use Rattle.res_files.specs.Updating.{row_placed, rows_placed}
use Rattle.res_files.proofs.PlacedRows.{left_changed, none_placed, next_placed, same_changed, twice_changed}
use Rattle.res_files.proofs.placing.place_rows.Goals as goal

pub loop-index-init : goal.loop-index-init
loop-index-init c = sym (left_changed c.args.file (λ rows. rows_placed c.args.selection 0 rows []) c.args.chain.now (λ table is. none_placed c.args.selection 0 table.rows))

pub loop-index-preserved : goal.loop-index-preserved
loop-index-preserved c =
    let place : Place = get_or c.args.places.now c.loop-index.index (record { offset = 0; length = 0 }) in
    let placing : List (Row Place) → List (Row Place) = changed_at c.loop-index.index (λ row. row_placed (is_selected c.args.selection c.loop-index.index row) place row) in
    let before : List (Row Place) → List (Row Place) = λ rows. rows_placed c.args.selection 0 rows (take c.loop-index.index c.args.places.now) in
    c.place_row.ensures
    ∙ ap (rows_changed c.args.file placing) c.loop-index.invariant
    ∙ twice_changed c.args.file before placing c.args.chain.now
    ∙ same_changed c.args.file (λ rows. placing (before rows)) (λ rows. rows_placed c.args.selection 0 rows (take (c.loop-index.index + 1) c.args.places.now)) c.args.chain.now
    (λ table is. next_placed c.args.selection c.loop-index.index table.rows c.args.places.now (record { offset = 0; length = 0 }) c.loop-index-test.true)
