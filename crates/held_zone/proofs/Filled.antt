-- Bytes with zeros after them, as a zone's memory has them.
use Rattle.std.proofs.Common.{◌≡◌, ℕ, ◌+◌, ◌-◌, ◌≤◌, List, [], ◌∷◌, ◌++◌, length, take, drop, replicate, refl, ap, sym, ◌∙◌, subst, arith, length-append, take_at}
use Rattle.std.proofs.lemmas.List.{drop-replicate, length-replicate}
use Rattle.mac_base.specs.HeadKind.{zone_header}
use Rattle.mac_base.specs.ZoneMap.{total_size}
use Rattle.mac_base.specs.ZoneSizes.{ZoneSizes}
use Rattle.mac_base.specs.ZoneState.{ZoneState}
use Rattle.raw_region.specs.Bytes.{written}
use Rattle.raw_region.proofs.Fronts.{written-all}
use Rattle.linked_zone.specs.Adopting.{IsZoneIn}
use Rattle.linked_zone.specs.Image.{IsImage}
use Rattle.held_zone.specs.Attaching.{IsZoneOf}

-- bytes that are written from the first on come before the others
written-front : (xs ws : List ℕ) → length ws ≤ length xs → written xs 0 ws ≡ ws ++ drop (length ws) xs
written-front [] [] few = refl
written-front [] (w ∷ ws) few = absurd (omega arith)
written-front (x ∷ xs) [] few = refl
written-front (x ∷ xs) (w ∷ ws) few = ap (λ ys. w ∷ ys) (written-front xs ws (omega arith))

-- written over zeros
pub filled : (len n : ℕ) (zeros bytes ws : List ℕ) → zeros ≡ replicate len 0 → n ≡ length bytes → n ≤ len → ws ≡ bytes
    → written zeros 0 (take n ws) ≡ bytes ++ replicate (len - length bytes) 0
filled len n zeros bytes ws is long few same =
    let room = length-replicate {A = ℕ} len 0 in
    written-all zeros 0 n ws (ap length same ∙ sym long)
    ∙ (λ i. written (is i) 0 (same i))
    ∙ written-front (replicate len 0) bytes (omega arith)
    ∙ ap (λ ys. bytes ++ ys) (drop-replicate (length bytes) len 0)

-- a zone of which these are the bytes is in them with zeros after them
pub zone-in : (sizes : ZoneSizes) (image : List ℕ) (z : ZoneState) → length image ≡ sizes.size → sizes.size ≤ sizes.limit
    → IsZoneOf sizes image z → IsZoneIn sizes (image ++ replicate (sizes.limit - length image) 0) z
zone-in sizes image z long within zone =
    let zeros = length-replicate {A = ℕ} (sizes.limit - length image) 0 in
    let sum = length-append image (replicate (sizes.limit - length image) 0) in
    let limit = ap (λ (s : ZoneSizes). s.limit) zone.sizes_are in
    let size = ap (λ (s : ZoneSizes). s.size) zone.sizes_are in
    let front = take_at image (replicate (sizes.limit - length image) 0) (zone_header + total_size z.heap.map) (long ∙ sym size) in
    record {
      sizes = zone.sizes_are;
      sound = zone.sound;
      nothing_lent = zone.nothing_lent;
      inside = record { all = omega arith; image = subst (IsImage z) (sym front) zone.bytes };
    }
