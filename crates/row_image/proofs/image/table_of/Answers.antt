use Rattle.std.proofs.Common.{◌≡◌, List, Some, length, map, sym, ap, ◌∙◌, arith, refl}
use Rattle.fork_bytes.specs.declared.place.Place.{Place}
use Rattle.fork_bytes.specs.Fork.{macheap_limits}
use Rattle.fork_bytes.specs.Rows as fork
use Rattle.fork_bytes.specs.Written.{types_of}
use Rattle.fork_bytes.proofs.Grouped.{read_grouped}
use Rattle.res_table.specs.declared.row.Row.{Row}
use Rattle.res_table.specs.Saved.{bare}
use Rattle.row_image.specs.Reading.{row_in}
use Rattle.row_image.proofs.Faults.{passed_full}
use Rattle.row_image.proofs.Images.{few_rows, grouped_by, image_again, image_rows, long_said, types_said}
use Rattle.row_image.proofs.image.table_of.Goals as goal

pub returns-in_err-rows-clause-again : goal.returns-in_err-rows-clause-again
returns-in_err-rows-clause-again c = λ t has is.
    let said : map row_in c.as_slice.result.now ≡ map Some t.rows =
    ap (λ (rows : List fork.Row). map row_in rows) c.as_slice.ensures ∙ image_rows c.args.image.now c.in-Ok.fork t c.in-Ok.ensures.table has is in
    passed_full c.from_residual.result c.in_err-rows.field-0.0 t c.from_residual.ensures.1 (λ bad. c.in_err-rows.ensures.refused (cc bad) t.rows said)

pub rows_with-requires : goal.rows_with-requires
rows_with-requires c =
    let count = long_said c.as_slice.result.now c.in_ok-rows.rows.items c.in_ok-rows.ensures.rows in
    let rows = ap (λ (rows : List (Row Place)). length rows) c.deref.ensures.value in
    let resources = ap (λ (rows : List fork.Row). length rows) c.as_slice.ensures in
    let few = few_rows c.args.image.now c.in-Ok.fork c.in-Ok.ensures.table in
    omega (arith, count, rows, resources, few)

pub returns-clause-again : goal.returns-clause-again
returns-clause-again c = λ t has is.
    let said = ap (λ (rows : List fork.Row). map row_in rows) (sym c.as_slice.ensures) ∙ c.in_ok-rows.ensures.rows in
    image_again c.args.image.now c.in-Ok.fork t c.in_ok-rows.rows.items _ c.in-Ok.ensures.table has is said (c.in_ok-rows_with.ensures ∙ c.deref.ensures.value) refl refl

pub returns-clause-few : goal.returns-clause-few
returns-clause-few c =
    let count = long_said c.as_slice.result.now c.in_ok-rows.rows.items c.in_ok-rows.ensures.rows in
    let rows = ap (λ (rows : List (Row Place)). length rows) (c.in_ok-rows_with.ensures ∙ c.deref.ensures.value) in
    let resources = ap (λ (rows : List fork.Row). length rows) c.as_slice.ensures in
    let few = few_rows c.args.image.now c.in-Ok.fork c.in-Ok.ensures.table in
    omega (arith, count, rows, resources, few)

pub returns-clause-grouped : goal.returns-clause-grouped
returns-clause-grouped c =
    let rows = c.in_ok-rows.rows.items in
    let said = ap (λ (rows : List fork.Row). map row_in rows) (sym c.as_slice.ensures) ∙ c.in_ok-rows.ensures.rows in
    let grouped = read_grouped macheap_limits c.args.image.now c.in-Ok.fork c.in-Ok.ensures.table in
    let types = types_said c.in-Ok.fork.rows rows said ∙ sym (ap (λ (xs : List (Row Place)). types_of (bare xs)) (c.in_ok-rows_with.ensures ∙ c.deref.ensures.value)) in
    grouped_by c.in-Ok.fork.rows (bare c.in_ok-rows_with.field-0) types grouped
