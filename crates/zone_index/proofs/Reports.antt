-- The sums of all blocks of a zone say what room it would have if blocks were purged.
use Rattle.std.proofs.Common.{◌≡◌, sym, ◌∙◌}
use Rattle.mac_base.specs.HandleTable.{HandleTable}
use Rattle.mac_base.specs.HeadKind.{Shape}
use Rattle.mac_base.specs.Reports.{largest_purge_space, purge_space}
use Rattle.mac_base.specs.Suits.{Coherent}
use Rattle.mac_base.specs.ZoneMap.{ZoneMap}
use Rattle.zone_index.specs.declared.sums.Sums.{Sums}
use Rattle.zone_index.specs.declared.weight.Weight.{Weight}
use Rattle.sum_tree.specs.Span.{most_in}
use Rattle.zone_index.specs.Spans.{IsSum}
use Rattle.zone_index.specs.Weights.{weights}
use Rattle.zone_index.proofs.Space.{purge_space-is, largest_purge_space-is}
use Rattle.zone_index.proofs.Spans.{span-all}

module _ (t : HandleTable) (m : ZoneMap) (s : Sums) (sum : IsSum (weights t m) s) (shape : Shape) (coherent : Coherent shape t m) where
  -- the bytes that are free or may be purged
  pub reports-space : s.space ≡ purge_space t m
  reports-space = sum.space ∙ sym (purge_space-is shape t m coherent)

  -- the most of them that one gap has
  pub reports-contiguous : most_in s.spaces ≡ largest_purge_space t m
  reports-contiguous = span-all (λ (w : Weight). w.space) (weights t m) s.spaces sum.spaces ∙ largest_purge_space-is shape t m coherent
