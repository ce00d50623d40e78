use Rattle.std.proofs.Common.{◌≡◌, suc, ◌+◌, [], ◌∷◌, drop, get_or, sym, ap, ◌∙◌, subst, arith}
use Rattle.std.specs.List.{AllByRecursion}
use Rattle.std.proofs.Math.ListN.{drop_of_length-le}
use Rattle.std.proofs.Math.Seq.{drop-cons}
use Rattle.zone_records.specs.declared.structure.Agreement.TheVariants.{Same}
use Rattle.zone_records.specs.declared.structure.Written.{Written}
use Rattle.zone_records.specs.Structure.{Means, worse}
use Rattle.zone_records.specs.Written.{RangeAgrees, RangeSame}
use Rattle.zone_records.proofs.Meaning.{means-both, worse-same, worse-worse}
use Rattle.zone_records.proofs.ranges.compare_ranges.Goals as goal

pub loop-range-init : goal.loop-range-init
loop-range-init c = λ r h. h

pub loop-range-preserved : goal.loop-range-preserved
loop-range-preserved c = λ r rest.
    let l = c.args.blocks.now in
    let bytes = c.args.bytes.now in
    let ws = c.args.ranges.now in
    let k = c.loop-range.range-index in
    let w : Written = get_or ws k (record { from = 0; count = 0 }) in
    let few = c.loop-range-test.true in
    let next : drop k ws ≡ w ∷ drop (k + 1) ws = drop-cons ws k (record { from = 0; count = 0 }) few ∙ ap (λ n. w ∷ drop n ws) (let e : suc k ≡ k + 1 = omega arith in e) in
    let both : Means (worse c.compare_range.result r) (AllByRecursion (RangeAgrees l bytes) (drop k ws)) (AllByRecursion (RangeSame l bytes) (drop k ws)) =
    subst (λ vs. Means (worse c.compare_range.result r) (AllByRecursion (RangeAgrees l bytes) vs) (AllByRecursion (RangeSame l bytes) vs)) (sym next) (means-both _ _ _ _ c.compare_range.result r c.compare_range.ensures rest) in
    subst (λ a. Means a (AllByRecursion (RangeAgrees l bytes) ws) (AllByRecursion (RangeSame l bytes) ws))
    (worse-worse c.loop-range.agreement c.compare_range.result r ∙ ap (λ a. worse a r) (sym c.with-agreement.ensures))
    (c.loop-range.invariant (worse c.compare_range.result r) both)

pub returns : goal.returns
returns c =
    let l = c.args.blocks.now in
    let bytes = c.args.bytes.now in
    let ws = c.args.ranges.now in
    let none : drop c.loop-range.range-index ws ≡ [] = drop_of_length-le ws c.loop-range-test.false in
    subst (λ a. Means a (AllByRecursion (RangeAgrees l bytes) ws) (AllByRecursion (RangeSame l bytes) ws)) (worse-same c.loop-range.agreement)
    (c.loop-range.invariant Same (subst (λ vs. AllByRecursion (RangeAgrees l bytes) vs × AllByRecursion (RangeSame l bytes) vs) (sym none) (tt, tt)))
