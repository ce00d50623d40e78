use Rattle.std.proofs.Common.{◌+◌, ◌*◌, ◌∙◌, List, ap, sym, subst, arith}
use Rattle.std.proofs.lemmas.Bool.{false_from_ne_true, leb-true}
use Rattle.std.specs.Prelude.{IsFalse, nat_le}
use Rattle.mac_base.specs.ZoneSizes.{ZoneSizes}
use Rattle.sum_tree.specs.declared.span.Span.{Span}
use Rattle.sum_tree.specs.Span.{SpanFits, joined, most_in, no_span}
use Rattle.sum_tree.specs.Monoids.{total}
use Rattle.sum_tree.specs.Rows.{IsFirst}
use Rattle.zone_index.proofs.Freshened.{fresh-fits}
use Rattle.zone_index.proofs.Known.{limit-known, within-known}
use Rattle.zone_index.proofs.Reached.{all_below, leaf_below}
use Rattle.zone_index.proofs.rooms.reached.Goals as goal

pub first-requires-clause-fits : goal.first-requires-clause-fits
first-requires-clause-fits c =
    subst (λ (xs : List Span). SpanFits (total no_span joined xs)) (sym c.sums.ensures)
    (fresh-fits c.args.zone.now c.args.rooms.now c.requires.fresh (limit-known c.args.zone.now c.spec-spec.result c.spec-spec.ensures.sizes c.base-base.ensures.possible))

pub first-requires-clause-begins : goal.first-requires-clause-begins
first-requires-clause-begins c = false_from_ne_true (nat_le c.args.needed 0) (λ h. let le = leb-true c.args.needed 0 h in let some = c.requires.some in omega arith)

pub returns-in_err-stop : goal.returns-in_err-stop
returns-in_err-stop c =
    rw c.from_residual.ensures
    (all_below c.args.zone.now c.args.rooms.now c.requires.fresh c.args.needed (within-known c.args.zone.now c.spec-spec.result c.spec-spec.ensures.sizes c.base-base.ensures.possible)
    (subst (λ (xs : List Span). IsFalse (nat_le c.args.needed (most_in (total no_span joined xs)))) c.sums.ensures c.in_err-stop.ensures))

pub reach-requires : goal.reach-requires
reach-requires c =
    let base = c.base-base.ensures.value ∙ ap (λ (s : ZoneSizes). s.base) c.spec-spec.ensures.sizes in
    leaf_below c.args.zone.now c.args.rooms.now c.requires.fresh c.args.needed c.in_ok-stop.stop.at (c.base-base.result + c.in_ok-stop.stop.at * 256) c.in_ok-stop.stop.sum (omega arith)
    (subst (λ (xs : List Span). IsFirst no_span joined (λ (s : Span). nat_le c.args.needed (most_in s)) xs c.in_ok-stop.stop.at c.in_ok-stop.stop.sum) c.sums.ensures c.in_ok-stop.ensures)
