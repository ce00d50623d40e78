use Rattle.std.proofs.Common.{◌+◌, ◌*◌, ◌∙◌, List, ap, subst, arith}
use Rattle.std.proofs.lemmas.Bool.{false_from_ne_true, leb-true}
use Rattle.std.specs.Prelude.{IsFalse, nat_le}
use Rattle.mac_base.specs.ZoneSizes.{ZoneSizes}
use Rattle.sum_tree.specs.declared.largest.Largest.{Largest}
use Rattle.sum_tree.specs.Largest.{larger, no_block}
use Rattle.sum_tree.specs.Monoids.{total}
use Rattle.sum_tree.specs.Rows.{IsFirst}
use Rattle.zone_index.proofs.FreeWalk.{all_small, leaf_small}
use Rattle.zone_index.proofs.Known.{within-known}
use Rattle.zone_index.proofs.free.lowest_by_sums.Goals as goal

pub first-requires-clause-begins : goal.first-requires-clause-begins
first-requires-clause-begins c = false_from_ne_true (nat_le c.args.needed 0) (λ h. let le = leb-true c.args.needed 0 h in let some = c.requires.some in omega arith)

pub returns-in_err-stop-clause-none : goal.returns-in_err-stop-clause-none
returns-in_err-stop-clause-none c =
    rw c.from_residual.ensures
    (all_small c.args.zone.now c.args.largest.now c.requires.fresh c.args.needed (within-known c.args.zone.now c.spec-spec.result c.spec-spec.ensures.sizes c.base-base.ensures.possible)
    (subst (λ (xs : List Largest). IsFalse (nat_le c.args.needed (total no_block larger xs).bytes)) c.sums.ensures c.in_err-stop.ensures))

pub lowest_from-requires : goal.lowest_from-requires
lowest_from-requires c =
    let base = c.base-base.ensures.value ∙ ap (λ (s : ZoneSizes). s.base) c.spec-spec.ensures.sizes in
    leaf_small c.args.zone.now c.args.largest.now c.requires.fresh c.args.needed c.in_ok-stop.stop.at (c.base-base.result + c.in_ok-stop.stop.at * 256) c.in_ok-stop.stop.sum (omega arith)
    (subst (λ (xs : List Largest). IsFirst no_block larger (λ (x : Largest). nat_le c.args.needed x.bytes) xs c.in_ok-stop.stop.at c.in_ok-stop.stop.sum) c.sums.ensures c.in_ok-stop.ensures)
