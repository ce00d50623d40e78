use Rattle.std.proofs.Common.{◌≡◌, ◌∙◌, Bool, true, false, length, sym, arith}
use Rattle.res_table.proofs.Bare.{few_fit}
use Rattle.res_table.specs.Saved.{RowsFit}
use Rattle.res_update.specs.Drafts.{draft_bytes}
use Rattle.res_update.proofs.Measuring.{no_rows, by_length}
use Rattle.res_update.proofs.sizes.fits.Goals as goal

contradicted : {P : Type 0} {b : Bool} → b ≡ true → b ≡ false → P
contradicted is isnt = absurd (cc (sym is ∙ isnt))

pub returns-then-not-fits : goal.returns-then-not-fits
returns-then-not-fits g c =
    let table = c.args.table.now in
    sym (no_rows (draft_bytes (g.C.Contents.table c.args.contents.now) c.args.selection) table.rows table.extra table.map_attributes
    (λ (fit : RowsFit table.rows). contradicted (c.fits.ensures.1 fit) c.if-not-fits.true))

pub text_length-requires : goal.text_length-requires
text_length-requires g c = let few = few_fit c.args.table.now.rows (c.fits.ensures.0 c.if-not-fits.false) in omega (arith, few)

pub overflow_mul-lists : goal.overflow_mul-lists
overflow_mul-lists g c =
    let few = few_fit c.args.table.now.rows (c.fits.ensures.0 c.if-not-fits.false) in let types = c.count_types.ensures.few in omega (arith, few, types)

pub overflow_add-lists : goal.overflow_add-lists
overflow_add-lists g c =
    let few = few_fit c.args.table.now.rows (c.fits.ensures.0 c.if-not-fits.false) in let types = c.count_types.ensures.few in omega (arith, few, types)

pub overflow_mul-lists-2 : goal.overflow_mul-lists-2
overflow_mul-lists-2 g c =
    let few = few_fit c.args.table.now.rows (c.fits.ensures.0 c.if-not-fits.false) in let count = c.len.ensures in omega (arith, few, count)

pub overflow_add-lists-2 : goal.overflow_add-lists-2
overflow_add-lists-2 g c =
    let few = few_fit c.args.table.now.rows (c.fits.ensures.0 c.if-not-fits.false) in
    let types = c.count_types.ensures.few in let count = c.len.ensures in omega (arith, few, types, count)

pub overflow_add-result-in-Some : goal.overflow_add-result-in-Some
overflow_add-result-in-Some g c =
    let few = few_fit c.args.table.now.rows (c.fits.ensures.0 c.if-not-fits.false) in
    let types = c.count_types.ensures.few in let count = c.len.ensures in omega (arith, few, types, count)

pub overflow_add-result-in-Some-2 : goal.overflow_add-result-in-Some-2
overflow_add-result-in-Some-2 g c =
    let few = few_fit c.args.table.now.rows (c.fits.ensures.0 c.if-not-fits.false) in
    let types = c.count_types.ensures.few in let count = c.len.ensures in let small = c.in-Some.ensures.small in omega (arith, few, types, count, small)

pub returns-in-Some : goal.returns-in-Some
returns-in-Some g c =
    let table = c.args.table.now in
    let extra : length table.extra ≡ 240 = c.known.ensures in
    let types = c.count_types.ensures.types in let count = c.len.ensures in let text = c.in-Some.ensures.some in
    by_length (draft_bytes (g.C.Contents.table c.args.contents.now) c.args.selection) table.rows table.extra table.map_attributes _
    (c.fits.ensures.0 c.if-not-fits.false) c.in-Some.ensures.four (omega (arith, extra, types, count, text))
