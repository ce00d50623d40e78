use Rattle.std.proofs.Common.{◌∙◌, List, ap}
use Rattle.sum_tree.specs.declared.largest.Largest.{Largest}
use Rattle.sum_tree.specs.Largest.{larger, no_block}
use Rattle.sum_tree.specs.Monoids.{total}
use Rattle.zone_index.proofs.FreeWalk.{all_largest}
use Rattle.zone_index.proofs.Known.{within-known}
use Rattle.zone_index.proofs.free.largest_of_all.Goals as goal

pub returns : goal.returns
returns c =
    ap (λ (x : Largest). x.bytes) (c.total.ensures ∙ ap (λ (xs : List Largest). total no_block larger xs) c.sums.ensures)
    ∙ all_largest c.args.zone.now c.args.largest.now c.requires (within-known c.args.zone.now c.spec-spec.result c.spec-spec.ensures.sizes c.limit-limit.ensures.possible)
