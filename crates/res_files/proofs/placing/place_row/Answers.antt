use Rattle.std.proofs.Common.{refl, sym, ap, ◌∙◌, subst, Option, IsSome}
use Rattle.fork_bytes.specs.declared.place.Place.{Place}
use Rattle.res_table.specs.declared.row.Row.{Row}
use Rattle.res_table.specs.OpenFiles.{row_at, rows_changed}
use Rattle.res_table.specs.Rows.{changed_at, with_attributes, with_datum}
use Rattle.res_update.specs.Drafts.{is_selected}
use Rattle.res_files.specs.Updating.{row_placed}
use Rattle.res_files.proofs.PlacedRows.{no_row_changed, row_changed_twice, row_changed_there, placed_so}
use Rattle.res_files.proofs.placing.place_row.Goals as goal

pub returns-in_default : goal.returns-in_default
returns-in_default c = sym (no_row_changed c.args.at (λ (row : Row Place). row_placed (is_selected c.args.selection c.args.at.index row) c.args.place row) c.args.chain.now c.in_default.ensures.none)

pub set_datum-requires : goal.set_datum-requires
set_datum-requires c =
    let there = row_changed_there c.args.at (with_attributes c.saved_attributes-attributes.result) c.args.chain.now c.in-Some.row.now c.in-Some.ensures.some in
    subst (λ (found : Option (Row Place)). IsSome found) (sym (ap (row_at c.args.at) c.set_attributes.ensures ∙ there)) refl

pub returns : goal.returns
returns c =
    let r = c.in-Some.row.now in
    let attributes = c.saved_attributes-attributes.result in
    c.set_datum.ensures
    ∙ ap (rows_changed c.args.at.file (changed_at c.args.at.index (with_datum c.args.place))) c.set_attributes.ensures
    ∙ row_changed_twice c.args.at (with_attributes attributes) (with_datum c.args.place) (λ (row : Row Place). row_placed (is_selected c.args.selection c.args.at.index row) c.args.place row) c.args.chain.now r c.in-Some.ensures.some
    (placed_so (is_selected c.args.selection c.args.at.index r) c.args.place r attributes c.saved_attributes-attributes.ensures)
