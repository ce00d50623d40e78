use Rattle.std.proofs.Common.{List, length, ap, ◌∙◌, arith}
use Rattle.fork_bytes.specs.declared.place.Place.{Place}
use Rattle.res_table.specs.declared.row.Row.{Row}
use Rattle.res_table.specs.Rows.{changed_at, with_attributes, with_handle}
use Rattle.row_image.proofs.Restored.{all_restored, length-restored, long_changed, next_restored}
use Rattle.row_image.proofs.image.restore.Goals as goal

pub set_attributes-requires : goal.set_attributes-requires
set_attributes-requires c =
    let same = ap (λ (rows : List (Row Place)). length rows) c.loop-index.invariant in
    let long = length-restored c.loop-index.index c.args.rows.now in
    let within = c.loop-index-test.true in omega (arith, same, long, within)

pub set_handle-requires : goal.set_handle-requires
set_handle-requires c =
    let row = c.index-rows-index.result in
    let changed = ap (λ (rows : List (Row Place)). length rows) c.set_attributes.ensures ∙ long_changed c.loop-index.index (with_attributes row.resource.attributes) c.loop-index.opened in
    let same = ap (λ (rows : List (Row Place)). length rows) c.loop-index.invariant in
    let long = length-restored c.loop-index.index c.args.rows.now in
    let within = c.loop-index-test.true in omega (arith, changed, same, long, within)

pub loop-index-preserved : goal.loop-index-preserved
loop-index-preserved c =
    let row = c.index-rows-index.result in let i = c.loop-index.index in
    c.set_handle.ensures
    ∙ ap (changed_at i (with_handle row.handle)) (c.set_attributes.ensures ∙ ap (changed_at i (with_attributes row.resource.attributes)) c.loop-index.invariant)
    ∙ next_restored i row c.args.rows.now c.loop-index-test.true c.index-rows-index.is

pub returns : goal.returns
returns c = c.loop-index.invariant ∙ all_restored c.loop-index.index c.args.rows.now c.loop-index-test.false
