-- What is known of a zone once its sizes are read.
use Rattle.std.proofs.Common.{◌≡◌, ◌+◌, ◌≤◌, ap, arith}
use Rattle.mac_base.specs.HeadKind.{zone_header}
use Rattle.mac_base.specs.ZoneMap.{total_size, address_after}
use Rattle.mac_base.specs.ZoneSizes.{ZoneSizes, ArePossible}
use Rattle.mac_base.specs.ZoneState.{ZoneState}
use Rattle.linked_zone.specs.Sizes.{sizes_of}

module _ (z : ZoneState) (sp : ZoneSizes) (is : sp ≡ sizes_of z) where
  pub size-known : sp.base + sp.size ≡ address_after z.shape z.heap.map
  size-known = let size = ap (λ (s : ZoneSizes). s.size) is in let base = ap (λ (s : ZoneSizes). s.base) is in omega arith

  pub within-known : ArePossible sp → zone_header + total_size z.heap.map ≤ z.shape.limit
  within-known possible = let size = ap (λ (s : ZoneSizes). s.size) is in let limit = ap (λ (s : ZoneSizes). s.limit) is in let p = possible.within in omega arith

  pub limit-known : ArePossible sp → z.shape.limit ≤ 0x4000_0000
  limit-known possible = let limit = ap (λ (s : ZoneSizes). s.limit) is in let p = possible.small_enough in omega arith
