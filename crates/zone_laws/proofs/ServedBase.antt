-- What is served comes from a map that was rearranged and suits the same table: a block is taken there, or resized in
-- its place.
use Rattle.std.proofs.Common.{◌≡◌, ℕ, true, false, cond, refl, subst, inl, inr, Some, None}
use Rattle.std.specs.Prelude.{◌⊎◌, option_map, option_and_then}
use Rattle.std.specs.Option.{option_or}
use Rattle.mac_base.specs.declared.block.Kind.{Kind}
use Rattle.mac_base.specs.declared.block.Kind.TheVariants.{Rel}
use Rattle.mac_base.specs.HeadKind.{Shape}
use Rattle.mac_base.specs.ZoneMap.{ZoneMap, Rearranged, released}
use Rattle.mac_base.specs.HandleTable.{HandleTable}
use Rattle.mac_base.specs.Suits.{Suits}
use Rattle.mac_base.specs.Gap.{Gap, gaps, filled, is_fixed, lowest_gap, own_gap, gap_after}
use Rattle.mac_base.specs.Arrangement.{down, up, open_at}
use Rattle.mac_base.specs.Request.{stays, gap_to_grow}
use Rattle.mac_base.specs.Serve.{take_lowest, placed_relocatable, reserved, cleared, resized_in_place, opened_for, resized_in_gap, resized_elsewhere, resized_block, renamed}
use Rattle.mac_base.specs.Heap.{Heap, with_map}
use Rattle.mac_base.specs.Sound.{Sound}
use Rattle.zone_laws.proofs.GapParts.{IsGap, lowest_gap-is, own_gap-is, gap_after-is}
use Rattle.zone_laws.proofs.Arranging.{IsArrangement, down-IsArrangement, up-IsArrangement}
use Rattle.zone_laws.proofs.ArrangingNamed.{open_at-IsArrangement}
use Rattle.zone_laws.proofs.Rearranging.{Rearranged-refl, gap-Rearranged}
use Rattle.zone_laws.proofs.RearrangedSuits.{Suits-arranged, Sound-arranged}
use Rattle.zone_laws.proofs.Placing.{TakenAt}
use Rattle.zone_laws.proofs.PlacedParts.{option_map-Some, option_and_then-Some, option_or-Some, taken-parts, taken_in_gap, cleared-is}

-- a map that was rearranged, and suits the table
pub record Base (s : Shape) (t u : HandleTable) (m base : ZoneMap) : Type 0 where
  pub rearranged : Rearranged s (is_fixed t) m base
  pub suits : Suits s u base

base-same : (s : Shape) (t u : HandleTable) (m : ZoneMap) → Suits s u m → Base s t u m m
base-same s t u m suits = record { rearranged = Rearranged-refl s (is_fixed t) m; suits = suits }

base-gap : (s : Shape) (t u : HandleTable) (m : ZoneMap) (g : Gap) (b : ZoneMap) → Suits s u m → IsGap t m g → IsArrangement g.blocks b → Base s t u m (filled g b)
base-gap s t u m g b suits i a = record { rearranged = gap-Rearranged s t m g b i a; suits = Suits-arranged s t u m g b i a suits }

-- a block taken from a free one of such a map
pub record TakenFrom (s : Shape) (t u : HandleTable) (k : ℕ) (kind : Kind) (m new : ZoneMap) : Type 0 where
  pub base : ZoneMap
  pub is_base : Base s t u m base
  pub taken : TakenAt s k kind base new

taken_at-gap : (s : Shape) (k : ℕ) (kind : Kind) (g : Gap) (old new : ZoneMap) → TakenAt s k kind old new → TakenAt s k kind (filled g old) (filled g new)
taken_at-gap s k kind g old new taken = let p = taken_in_gap s k kind g old new taken in record { before = p.front; size = p.size; after = p.back; was = p.was; is = p.is; fits = p.fits }

-- a relocatable block is taken from a free block, where the map may have been rearranged
pub placed_relocatable-TakenFrom : (s : Shape) (t u : HandleTable) (k : ℕ) (kind : Kind) (m new : ZoneMap) → Suits s u m → placed_relocatable s t k kind m ≡ Some new → TakenFrom s t u k kind m new
placed_relocatable-TakenFrom s t u k kind m new suits h = by_place (option_or-Some (take_lowest s k kind m) _ new h)
  where
    by_place : (take_lowest s k kind m ≡ Some new) ⊎ ((take_lowest s k kind m ≡ None) × (option_and_then (λ (g : Gap). option_map (filled g) (take_lowest s k kind (down g.blocks))) (lowest_gap k (gaps t m)) ≡ Some new)) → TakenFrom s t u k kind m new
    by_place (inl free) = record { base = m; is_base = base-same s t u m suits; taken = taken-parts s k kind m new free }
    by_place (inr gap) =
        let found = option_and_then-Some (λ (g : Gap). option_map (filled g) (take_lowest s k kind (down g.blocks))) (lowest_gap k (gaps t m)) new gap.1 in
        let g : Gap = found.0 in
        let made = option_map-Some (filled g) (take_lowest s k kind (down g.blocks)) new found.2 in
        record {
          base = filled g (down g.blocks);
          is_base = base-gap s t u m g (down g.blocks) suits (lowest_gap-is t m k g found.1).0 (down-IsArrangement g.blocks);
          taken = subst (TakenAt s k kind (filled g (down g.blocks))) made.2 (taken_at-gap s k kind g (down g.blocks) made.0 (taken-parts s k kind (down g.blocks) made.0 made.1));
        }

-- a gap that is cleared for a block or a reservation
pub Suits-cleared : (s : Shape) (t u : HandleTable) (k : ℕ) (m : ZoneMap) (g : Gap) → Suits s u m → IsGap t m g → Suits s u (filled g (cleared k g.blocks))
Suits-cleared s t u k m g suits i = cleared-is (λ b. Suits s u (filled g b)) k g.blocks (subst (Suits s u) i.parts suits) (Suits-arranged s t u m g (up g.blocks) i (up-IsArrangement g.blocks) suits)

-- and leaves a sound heap
pub Sound-reserved : (s : Shape) (t : HandleTable) (k : ℕ) (heap : Heap) (new : ZoneMap) → Sound s heap → reserved t k heap.map ≡ Some new → Sound s (with_map new heap)
Sound-reserved s t k heap new sound h =
    let found = option_map-Some (λ (g : Gap). filled g (cleared k g.blocks)) (lowest_gap k (gaps t heap.map)) new h in
    let g : Gap = found.0 in
    let i = (lowest_gap-is t heap.map k g found.1).0 in
    subst (λ new. Sound s (with_map new heap)) found.2
    (cleared-is (λ b. Sound s (with_map (filled g b) heap)) k g.blocks (subst (λ m. Sound s (with_map m heap)) i.parts sound) (Sound-arranged s t heap g (up g.blocks) i (up-IsArrangement g.blocks) sound))

-- a block resized in its place, in such a map
pub record ResizedFrom (s : Shape) (t u : HandleTable) (k x : ℕ) (m new : ZoneMap) : Type 0 where
  pub base : ZoneMap
  pub is_base : Base s t u m base
  pub resized : resized_in_place s k x base ≡ Some new

-- a block resized in a new place: taken there under the number nil, the old one released, and the new one named
pub record ResizedElsewhere (s : Shape) (t u : HandleTable) (k x : ℕ) (m new : ZoneMap) : Type 0 where
  pub found : ZoneMap
  pub moves : stays t x ≡ false
  pub taken : TakenFrom s t u k (Rel 0) m found
  pub is : renamed 0 x (released x found) ≡ new

in_gap-from : (s : Shape) (t u : HandleTable) (k x : ℕ) (m new : ZoneMap) → Suits s u m → resized_in_gap s t k x m ≡ Some new → ResizedFrom s t u k x m new
in_gap-from s t u k x m new suits h =
    let found = option_and_then-Some (λ g. resized_in_place s k x (opened_for t x g)) (gap_to_grow t x m) new h in
    let g : Gap = found.0 in
    elim (stays t x) as (λ c. cond c (gap_after x (gaps t m)) (own_gap x (gaps t m)) ≡ Some g → resized_in_place s k x (filled g (cond c (up g.blocks) (open_at x g.blocks))) ≡ Some new → ResizedFrom s t u k x m new) [
      | true ↦ λ gap made. record { base = filled g (up g.blocks); is_base = base-gap s t u m g (up g.blocks) suits (gap_after-is t m x g gap).0 (up-IsArrangement g.blocks); resized = made }
      | false ↦ λ gap made. let own = own_gap-is t m x g gap in
          record { base = filled g (open_at x g.blocks); is_base = base-gap s t u m g (open_at x g.blocks) suits own.0 (open_at-IsArrangement x g.blocks own.1); resized = made }
    ] found.1 found.2

elsewhere-from : (s : Shape) (t u : HandleTable) (k x : ℕ) (m new : ZoneMap) → Suits s u m → resized_elsewhere s t k x m ≡ Some new → ResizedElsewhere s t u k x m new
elsewhere-from s t u k x m new suits h =
    elim (stays t x) as (λ c. stays t x ≡ c → cond c None (option_map (λ found. renamed 0 x (released x found)) (placed_relocatable s t k (Rel 0) m)) ≡ Some new → ResizedElsewhere s t u k x m new) [
      | true ↦ λ fixed none. absurd (cc none)
      | false ↦ λ moves is. let placed = option_map-Some (λ found. renamed 0 x (released x found)) (placed_relocatable s t k (Rel 0) m) new is in
          record { found = placed.0; moves = moves; taken = placed_relocatable-TakenFrom s t u k (Rel 0) m placed.0 suits placed.1; is = placed.2 }
    ] refl h

-- a resized block was resized in its place, where the map may have been rearranged, or in a new place
pub resized_block-from : (s : Shape) (t u : HandleTable) (k x : ℕ) (m new : ZoneMap) → Suits s u m → resized_block s t k x m ≡ Some new → ResizedFrom s t u k x m new ⊎ ResizedElsewhere s t u k x m new
resized_block-from s t u k x m new suits h = by_place (option_or-Some (resized_in_place s k x m) _ new h)
  where
    later : (resized_in_gap s t k x m ≡ Some new) ⊎ ((resized_in_gap s t k x m ≡ None) × (resized_elsewhere s t k x m ≡ Some new)) → ResizedFrom s t u k x m new ⊎ ResizedElsewhere s t u k x m new
    later (inl gap) = inl (in_gap-from s t u k x m new suits gap)
    later (inr elsewhere) = inr (elsewhere-from s t u k x m new suits elsewhere.1)

    by_place : (resized_in_place s k x m ≡ Some new) ⊎ ((resized_in_place s k x m ≡ None) × (option_or (resized_in_gap s t k x m) (resized_elsewhere s t k x m) ≡ Some new)) → ResizedFrom s t u k x m new ⊎ ResizedElsewhere s t u k x m new
    by_place (inl place) = inl (record { base = m; is_base = base-same s t u m suits; resized = place })
    by_place (inr rest) = later (option_or-Some (resized_in_gap s t k x m) (resized_elsewhere s t k x m) new rest.1)
