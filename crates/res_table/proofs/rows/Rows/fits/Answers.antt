use Rattle.std.proofs.Common.{List, length, sym, ap, ◌∙◌, subst, arith}
use Rattle.std.proofs.lemmas.Bool.{le-leb}
use Rattle.fork_bytes.specs.Written.{NamesFit}
use Rattle.res_table.specs.declared.row.Row.{Row}
use Rattle.res_table.specs.Rows.{names_size}
use Rattle.res_table.specs.Saved.{bare, RowsFit}
use Rattle.res_table.proofs.Bare.{rows_fit, few_fit, low_fit, names_fit, names_fit_few, never}
use Rattle.res_table.proofs.rows.Rows.fits.Goals.{Else-names-gt-MAX_OFFSET}
use Rattle.res_table.proofs.rows.Rows.fits.Goals as goal

pub returns-then-len-gt-MAX_ROWS : goal.returns-then-len-gt-MAX_ROWS
returns-then-len-gt-MAX_ROWS g c =
    let long = ap (λ (rs : List (Row _)). length rs) c.self.view_is in
    (λ t. never t, λ fit. absurd (let few = few_fit c.args.self.now fit in let over = c.if-len-gt-MAX_ROWS.true in let n = c.len.ensures in omega (arith, long, few, over, n)))

pub returns-then-names-gt-MAX_OFFSET : goal.returns-then-names-gt-MAX_OFFSET
returns-then-names-gt-MAX_OFFSET g c =
    let rows = c.args.self.now in
    let long = ap (λ (rs : List (Row _)). length rs) c.self.view_is in
    let n = c.len.ensures in let m = c.len-2.ensures in
    let types = c.count_types.ensures.types in let over = c.if-names-gt-MAX_OFFSET.true in
    (λ t. never t, λ fit. absurd (let low = low_fit rows fit in omega (arith, long, n, m, types, over, low)))

-- the rows fit where their names do
fit_with : (g : _) (c : Else-names-gt-MAX_OFFSET g) → NamesFit 0 (bare c.args.self.now) → RowsFit c.args.self.now
fit_with g c names =
    let long = ap (λ (rs : List (Row _)). length rs) c.self.view_is in
    let few = c.if-len-gt-MAX_ROWS.false in let n = c.len.ensures in let m = c.len-2.ensures in
    let types = c.count_types.ensures.types in let low = c.if-names-gt-MAX_OFFSET.false in
    rows_fit c.args.self.now (omega (arith, long, few, n)) (omega (arith, long, m, types, low)) names

pub returns-then-self-le-MAX_NAME_OFFSET : goal.returns-then-self-le-MAX_NAME_OFFSET
returns-then-self-le-MAX_NAME_OFFSET g c =
    let few = c.if-self-le-MAX_NAME_OFFSET.true in let names = c.self.invariant.4 ∙ ap names_size c.self.view_is in (
      λ t. fit_with g (goal.at.returns-then-self-le-MAX_NAME_OFFSET g c).Else-names-gt-MAX_OFFSET (names_fit_few c.args.self.now (omega (arith, few, names))),
      λ fit. le-leb c.self.inside.names 65534 few,
    )

pub returns-else-self-le-MAX_NAME_OFFSET : goal.returns-else-self-le-MAX_NAME_OFFSET
returns-else-self-le-MAX_NAME_OFFSET g c =
    let same = c.deref.ensures.value ∙ c.self.view_is in
    let P : List (Row _) → Type 0 = λ rs. NamesFit 0 (bare rs) in (
      λ t. fit_with g (goal.at.returns-else-self-le-MAX_NAME_OFFSET g c).Else-names-gt-MAX_OFFSET (subst P same (c.names_fit.ensures.0 t)),
      λ fit. c.names_fit.ensures.1 (subst P (sym same) (names_fit c.args.self.now fit)),
    )
