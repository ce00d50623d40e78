-- A zone grown to its limit: its new free block joined to the last one.
use Rattle.std.proofs.Common.{◌≡◌, ℕ, ◌+◌, ◌-◌, ◌<◌, false, eqb, [], ◌++◌, refl, ap, sym, ◌∙◌, arith, append-nil}
use Rattle.std.proofs.lemmas.Bool.Decides.{nat_tests}
use Rattle.mac_base.specs.declared.block.Entry.{Entry}
use Rattle.mac_base.specs.HeadKind.{Shape, zone_header}
use Rattle.mac_base.specs.Heap.{Heap, grown}
use Rattle.mac_base.specs.Sound.{Sound}
use Rattle.mac_base.specs.Suits.{is_block_size, free_apart}
use Rattle.mac_base.specs.ZoneMap.{free_block, is_named, total_size}
use Rattle.mac_base.specs.ZoneState.{ZoneState, with_heap}
use Rattle.zone_laws.proofs.Fitting.{free_block-some}
use Rattle.zone_laws.proofs.Joined.{joined-apart}
use Rattle.zone_laws.proofs.Lent.{KeepsLent, contents_of-same}
use Rattle.zone_laws.proofs.SoundGrown.{addresses-at_limit, or_rest}
use Rattle.linked_zone.specs.Changes.{extended, with_map}
use Rattle.linked_zone.proofs.ChangeExtended.{passes-after}
use Rattle.zone_heap.specs.Joins.{NewlyFree}

-- what is lent is kept
pub keeps-grown : (s : Shape) (heap : Heap) → KeepsLent s heap (grown s heap)
keeps-grown s heap = record {
  lent = refl;
  contents = λ x _. contents_of-same s x heap.map (grown s heap).map (addresses-at_limit s (is_named x) heap.map refl);
  long = λ x _. refl;
  fixed = λ x _ fixed. fixed;
}

not_zero : (n : ℕ) → 0 < n → eqb n 0 ≡ false
not_zero n some = grind (arith, nat_tests)

module _ (z : ZoneState) (sound : Sound z.shape z.heap) where
  abbrev left : ℕ
  left = z.shape.limit - (zone_header + total_size z.heap.map)

  -- the new block is free, and nothing is after it
  pub extended-newly : (at : ℕ) → at ≡ z.shape.base + (zone_header + total_size z.heap.map) → zone_header + total_size z.heap.map < z.shape.limit → NewlyFree (extended z) at
  extended-newly at place more = record {
    free = record { before = z.heap.map; size = left; after = []; map = ap (λ m. z.heap.map ++ m) (free_block-some left (omega arith)); place = omega arith };
    before = sound.suits.apart;
    after = refl;
    sizes = passes-after (λ (e : Entry). is_block_size z.shape e.size) z.heap.map left sound.suits.sizes (λ some. or_rest (eqb left 0) (is_block_size z.shape left) sound.growth (not_zero left some));
  }

  -- where nothing is left up to the limit, the zone is the grown one
  pub grown-full : (zone_header + total_size z.heap.map < z.shape.limit → ⊥) → z ≡ with_heap (grown z.shape z.heap) z
  grown-full full =
      let none : left ≡ 0 = omega arith in
      let same : z.heap.map ++ free_block left ≡ z.heap.map = ap (λ n. z.heap.map ++ free_block n) none ∙ append-nil z.heap.map in
      ap (λ m. with_map m z) (sym same) ∙ ap (λ m. with_map m z) (sym (joined-apart (z.heap.map ++ free_block left) (ap free_apart same ∙ sound.suits.apart)))
