use Rattle.std.proofs.Common.{List, subst, sym, arith}
use Rattle.std.proofs.lemmas.List.{drop_all}
use Rattle.mac_base.specs.declared.resource.Resource.{Resource}
use Rattle.fork_bytes.specs.Sizes.{text_length}
use Rattle.fork_bytes.specs.Written.{PlacesFit}
use Rattle.fork_bytes.proofs.Steps.{size_step, size_end, place_step, place_not}
use Rattle.fork_bytes.proofs.sizes.data_length.Goals as goal

pub loop-row-init : goal.loop-row-init
loop-row-init g c = (omega arith, omega arith, (λ fit. fit, λ fit. fit))

pub returns-then-total-gt-MAX_PLACE-clause-none : goal.returns-then-total-gt-MAX_PLACE-clause-none
returns-then-total-gt-MAX_PLACE-clause-none g c few fit =
    place_not (text_length g.D.Datum.text) c.args.rows.now c.loop-row.row-index c.loop-row.total c.row-item.result c.loop-row-test.true c.row-item.is (omega (arith, c.if-total-gt-MAX_PLACE.true))
    (c.loop-row.invariant.2.0 fit)

pub returns-then-count-most-clause-none : goal.returns-then-count-most-clause-none
returns-then-count-most-clause-none g c few =
    let step = size_step (text_length g.D.Datum.text) c.args.rows.now c.loop-row.row-index c.row-item.result c.loop-row-test.true c.row-item.is in
    let long = c.count-count.ensures in let over = c.if-count-most.true in let all = c.loop-row.invariant.0 in absurd (omega arith)

pub returns-then-total-most-clause-none : goal.returns-then-total-most-clause-none
returns-then-total-most-clause-none g c few =
    let step = size_step (text_length g.D.Datum.text) c.args.rows.now c.loop-row.row-index c.row-item.result c.loop-row-test.true c.row-item.is in
    let long = c.count-count.ensures in let over = c.if-total-most.true in let all = c.loop-row.invariant.0 in absurd (omega arith)

pub loop-row-preserved : goal.loop-row-preserved
loop-row-preserved g c =
    let step = size_step (text_length g.D.Datum.text) c.args.rows.now c.loop-row.row-index c.row-item.result c.loop-row-test.true c.row-item.is in
    let long = c.count-count.ensures in let under = c.if-total-most.false in let low = c.if-total-gt-MAX_PLACE.false in let all = c.loop-row.invariant.0 in
    let told = c.loop-row.invariant.2 in
    let fits = place_step (text_length g.D.Datum.text) c.args.rows.now c.loop-row.row-index c.loop-row.total _ c.row-item.result c.loop-row-test.true c.row-item.is (omega arith) (omega arith) in
    (omega arith, omega arith, (λ fit. fits.0 (told.0 fit), λ fit. told.1 (fits.1 fit)))

pub returns-clause-some : goal.returns-clause-some
returns-clause-some g c =
    let none = size_end (text_length g.D.Datum.text) c.args.rows.now c.loop-row.row-index (omega (arith, c.loop-row-test.false)) in let all = c.loop-row.invariant.0 in omega arith

pub returns-clause-fit : goal.returns-clause-fit
returns-clause-fit g c =
    let Q : List (Resource _) → Type 0 = PlacesFit (text_length g.D.Datum.text) c.loop-row.total in
    c.loop-row.invariant.2.1 (subst Q (sym (drop_all c.loop-row.row-index c.args.rows.now (omega (arith, c.loop-row-test.false)))) tt)
