-- Zones whose blocks are moved on a program's own demand.
use Rattle.std.proofs.Common.{◌≡◌, ℕ, ◌<◌, false, cond, Some, ap, sym, subst, arith}
use Rattle.std.specs.Prelude.{nat_le}
use Rattle.std.specs.Option.{option_map_or}
use Rattle.std.proofs.lemmas.Bool.Decides.{nat_tests}
use Rattle.mac_base.specs.Arrangement.{down}
use Rattle.mac_base.specs.Compaction.{all_down, compacted, moved_high}
use Rattle.mac_base.specs.Gap.{Gap, gaps, filled, room}
use Rattle.mac_base.specs.HandleTable.{HandleTable}
use Rattle.mac_base.specs.Sound.{Sound}
use Rattle.mac_base.specs.ZoneMap.{ZoneMap, largest_free}
use Rattle.mac_base.specs.ZoneState.{ZoneState}
use Rattle.zone_laws.proofs.RearrangingAll.{Sound-compacted, Sound-all_down, Sound-moved_high}
use Rattle.linked_zone.specs.Changes.{with_map}
use Rattle.zone_heap.specs.Gaps.{Settled}
use Rattle.zone_heap.specs.Attempts.{SoundZone}
use Rattle.zone_heap.specs.Squeezed.{squeezed}

-- the lowest gap with room arranged down is what the blocks are moved to
pub squeezed-found : (t : HandleTable) (m : ZoneMap) (k : ℕ) (g : Gap) → Rattle.mac_base.specs.Gap.lowest_gap k (gaps t m) ≡ Some g → filled g (down g.blocks) ≡ squeezed t k m
squeezed-found t m k g is = ap (λ o. option_map_or (λ (g : Gap). filled g (down g.blocks)) o (all_down t m)) (sym is)

-- where no free block is large enough blocks are moved down
pub compacted-squeezed : (t : HandleTable) (k : ℕ) (m : ZoneMap) → largest_free m < k → squeezed t k m ≡ compacted t k m
compacted-squeezed t k m small = ap (λ b. cond b m (squeezed t k m)) (sym (too_small k (largest_free m) small))
  where
    too_small : (k n : ℕ) → n < k → nat_le k n ≡ false
    too_small k n small = grind (arith, nat_tests)

-- a zone that is settled is sound where its heap is
module _ (z new : ZoneState) (sound : SoundZone z) (settled : Settled new) where
  pub zone-compacted : (k : ℕ) → new ≡ with_map (compacted z.heap.table k z.heap.map) z → SoundZone new
  zone-compacted k is = record { sound = subst (λ (w : ZoneState). Sound w.shape w.heap) (sym is) (Sound-compacted z.shape z.heap.table k z.heap sound.sound); fixed = settled.loans }

  pub zone-all_down : new ≡ with_map (all_down z.heap.table z.heap.map) z → SoundZone new
  zone-all_down is = record { sound = subst (λ (w : ZoneState). Sound w.shape w.heap) (sym is) (Sound-all_down z.shape z.heap.table z.heap sound.sound); fixed = settled.loans }

  pub zone-moved_high : (h : ℕ) → new ≡ with_map (moved_high z.heap.table h z.heap.map) z → SoundZone new
  zone-moved_high h is = record { sound = subst (λ (w : ZoneState). Sound w.shape w.heap) (sym is) (Sound-moved_high z.shape z.heap.table h z.heap sound.sound); fixed = settled.loans }
