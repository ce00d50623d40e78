use Rattle.std.proofs.Common.{◌+◌, ◌/◌, ◌∙◌, replicate, ap, subst}
use Rattle.zone_index.specs.Pages.{page_size}
use Rattle.zone_index.specs.Leaves.{leaf_size}
use Rattle.zone_index.specs.LeafSums.{IsNew}
use Rattle.zone_index.proofs.index.Index.create.Goals as goal

pub returns : goal.returns
returns c =
    let count = ap (λ n. n / 4 + 1) c.limit.ensures.value in
    record {
      marks = c.in_ok-marks.ensures ∙ ap (λ n. replicate n 0) count;
      purgeable = c.in_ok-purgeable.ensures ∙ ap (λ n. replicate n 0) count;
      leaves = subst (λ n. IsNew c.in_ok-leaves.leaves (n / leaf_size + 1)) c.limit-2.ensures.value c.in_ok-leaves.ensures;
      places = c.in_ok-pages.ensures.places ∙ ap (λ n. n / page_size + 1) c.limit-3.ensures.value;
      unknown = c.in_ok-pages.ensures.unknown;
      lengths = c.in_ok-lengths.ensures;
    }
