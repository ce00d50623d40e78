use Rattle.std.proofs.Common.{sym, ◌∙◌, arith}
use Rattle.std.proofs.lemmas.List.{take_rest}
use Rattle.hfs_tree.proofs.Good.{row_within}
use Rattle.hfs_volume.proofs.Entered.{is_entry}
use Rattle.hfs_volume.proofs.entry.EntryTreeRow.read.Goals as goal

pub overflow_add-result : goal.overflow_add-result
overflow_add-result c =
    let within = row_within c.args.leaf.now c.args.row c.requires.sound c.requires.there in
    let low = c.requires.sound.low in
    omega (arith, within.0, within.1, low, c.row_place.ensures, c.body_place-place.ensures.small)

pub returns : goal.returns
returns c =
    let rest = take_rest c.row-bytes.result.now c.body_place-place.result in
    let good = sym c.has_body.ensures ∙ c.if-not-has_body.false in
    is_entry c.args.leaf.now c.args.row c.row-bytes.result.now c.first_bytes.result.now c.body_array.result c.body_place-place.result c.row_place.result c.read_four.result c.from_bytes.result
    c.row-bytes.ensures.value c.body_place-place.ensures.value (sym c.has_key.ensures ∙ c.if-not-has_key.false) (rw rest at good)
    c.row_place.ensures c.read_four.ensures c.from_bytes.ensures (rw rest at c.first_bytes.ensures.value) c.body_array.ensures
