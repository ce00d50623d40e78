-- A request for another size, as it is attempted: in place, in the gap, and in a new place.
use Rattle.std.proofs.Common.{◌≡◌, ℕ, true, false, cond, refl, ap, sym, ◌∙◌, subst, Option, Some, None, MatchResult}
use Rattle.std.specs.Prelude.{is_some, option_map, Result, Ok, Err}
use Rattle.std.specs.Option.{option_or}
use Rattle.std.proofs.lemmas.Bool.{and_parts}
use Rattle.mac_base.specs.declared.block.Kind.TheVariants.{Rel}
use Rattle.mac_base.specs.declared.request.Request.TheVariants.{Resize}
use Rattle.mac_base.specs.Attempt.{attempted}
use Rattle.mac_base.specs.HandleTable.{has_block}
use Rattle.mac_base.specs.HeadKind.{Shape, need}
use Rattle.mac_base.specs.Heap.{Heap, front_slot, granted}
use Rattle.mac_base.specs.Request.{fits, stays}
use Rattle.mac_base.specs.Serve.{gives, placed_relocatable, renamed, resized_block, resized_elsewhere, resized_in_gap, resized_in_place}
use Rattle.mac_base.specs.ZoneMap.{ZoneMap, released}
use Rattle.mac_base.specs.ZoneState.{ZoneState}
use Rattle.zone_laws.proofs.PlacedParts.{option_map-Some}
use Rattle.zone_laws.proofs.ServedRequests.{serve-no_room}
use Rattle.linked_zone.specs.Changes.{with_map}
use Rattle.zone_heap.specs.Attempts.{CanAsk, IsRefused, IsServed, SoundZone}
use Rattle.zone_heap.specs.declared.shortage.Shortage.{Shortage}
use Rattle.zone_heap.specs.declared.shortage.Shortage.TheVariants.{NoRoom}
use Rattle.zone_heap.specs.Placed.{resized_there}
use Rattle.zone_heap.specs.Resized.{resized_away, way_made}
use Rattle.zone_heap.proofs.Attempting.{none_of}
use Rattle.zone_heap.proofs.Resizing.{way-fits}

-- what is asked for has a block
pub asked-block : (z : ZoneState) (x n : ℕ) → CanAsk z (Resize x n) → has_block z.heap.table x ≡ true
asked-block z x n asks = (and_parts (has_block z.heap.table x) _ asks.operand).0

-- the request is served where the block can have the size
served-block : (s : Shape) (x n : ℕ) (heap : Heap) (m : ZoneMap) → resized_block s heap.table (need s.heads n) x heap.map ≡ Some m → attempted s (Resize x n) heap ≡ Some (x, granted (Resize x n) x m heap)
served-block s x n heap m is = ap (λ o. option_map (λ (found : ℕ × ZoneMap). (found.0, granted (Resize x n) found.0 found.1 heap)) (option_map (gives x) o)) is

-- in its place
pub served-there : (z new : ZoneState) (x n : ℕ) → resized_there z.shape x n z.heap ≡ Some new.heap → new.shape ≡ z.shape → IsServed (Resize x n) z x new
served-there z new x n is shape =
    let s = z.shape in
    let k = need s.heads n in
    let found = option_map-Some (λ m. granted (Resize x n) x m z.heap) (resized_in_place s k x z.heap.map) new.heap is in (
      refl,
      served-block s x n z.heap found.0 (ap (λ o. option_or o (option_or (resized_in_gap s z.heap.table k x z.heap.map) (resized_elsewhere s z.heap.table k x z.heap.map))) found.1) ∙ ap (λ heap. Some (x, heap)) found.2,
      shape,
    )

-- in its gap, once the other blocks have made way
pub served-gap : (z way new : ZoneState) (x n : ℕ) → is_some (resized_in_place z.shape (need z.shape.heads n) x z.heap.map) ≡ false → is_some (resized_in_gap z.shape z.heap.table (need z.shape.heads n) x z.heap.map) ≡ true
    → way ≡ with_map (way_made z.heap.table x z.heap.map) z → resized_there way.shape x n way.heap ≡ Some new.heap → new.shape ≡ way.shape → IsServed (Resize x n) z x new
served-gap z way new x n tight fits made is shape =
    let s = z.shape in
    let t = z.heap.table in
    let m = z.heap.map in
    let k = need s.heads n in
    let there = ap (λ (v : ZoneState). resized_there v.shape x n v.heap) (sym made) ∙ is in
    let found = option_map-Some (λ m. granted (Resize x n) x m z.heap) (resized_in_place s k x (way_made t x m)) new.heap there in (
      refl,
      served-block s x n z.heap found.0
          (ap (λ o. option_or o (option_or (resized_in_gap s t k x m) (resized_elsewhere s t k x m))) (none_of _ tight)
          ∙ ap (λ o. option_or o (resized_elsewhere s t k x m)) (way-fits s t k x m fits ∙ found.1)) ∙ ap (λ heap. Some (x, heap)) found.2,
      shape ∙ ap (λ (v : ZoneState). v.shape) made,
    )

-- in a new place
pub served-away : (z new : ZoneState) (x n : ℕ) → is_some (resized_in_place z.shape (need z.shape.heads n) x z.heap.map) ≡ false → is_some (resized_in_gap z.shape z.heap.table (need z.shape.heads n) x z.heap.map) ≡ false
    → resized_away z.shape x n z.heap ≡ Some new.heap → new.shape ≡ z.shape → IsServed (Resize x n) z x new
served-away z new x n tight full is shape =
    let s = z.shape in
    let t = z.heap.table in
    let m = z.heap.map in
    let k = need s.heads n in
    let found = option_map-Some (λ m. granted (Resize x n) x m z.heap) (resized_elsewhere s t k x m) new.heap is in (
      refl,
      served-block s x n z.heap found.0
          (ap (λ o. option_or o (option_or (resized_in_gap s t k x m) (resized_elsewhere s t k x m))) (none_of _ tight)
          ∙ ap (λ o. option_or o (resized_elsewhere s t k x m)) (none_of _ full) ∙ found.1) ∙ ap (λ heap. Some (x, heap)) found.2,
      shape,
    )

-- or refused where it can't have the size in any
refused-all : (z new : ZoneState) (x n : ℕ) → SoundZone z → CanAsk z (Resize x n) → is_some (resized_in_place z.shape (need z.shape.heads n) x z.heap.map) ≡ false → is_some (resized_in_gap z.shape z.heap.table (need z.shape.heads n) x z.heap.map) ≡ false
    → resized_elsewhere z.shape z.heap.table (need z.shape.heads n) x z.heap.map ≡ None → new ≡ z → IsRefused (Resize x n) z NoRoom new
refused-all z new x n sound asks tight full none same =
    let s = z.shape in
    let t = z.heap.table in
    let m = z.heap.map in
    let k = need s.heads n in
    let block : resized_block s t k x m ≡ None =
    ap (λ o. option_or o (option_or (resized_in_gap s t k x m) (resized_elsewhere s t k x m))) (none_of _ tight) ∙ ap (λ o. option_or o (resized_elsewhere s t k x m)) (none_of _ full) ∙ none in (
      refl,
      serve-no_room s t (front_slot z.heap) m (Resize x n) sound.sound.suits (asked-block z x n asks) (ap (option_map (gives x)) block),
      ap (λ o. option_map (λ (found : ℕ × ZoneMap). (found.0, granted (Resize x n) found.0 found.1 z.heap)) (option_map (gives x) o)) block,
      same,
    )

-- one that stays has only its place and the gap after it
pub refused-stays : (z new : ZoneState) (x n : ℕ) → SoundZone z → CanAsk z (Resize x n) → is_some (resized_in_place z.shape (need z.shape.heads n) x z.heap.map) ≡ false → is_some (resized_in_gap z.shape z.heap.table (need z.shape.heads n) x z.heap.map) ≡ false
    → stays z.heap.table x ≡ true → new ≡ z → IsRefused (Resize x n) z NoRoom new
refused-stays z new x n sound asks tight full fixed same =
    let there : Option ZoneMap = option_map (λ found. renamed 0 x (released x found)) (placed_relocatable z.shape z.heap.table (need z.shape.heads n) (Rel 0) z.heap.map) in
    refused-all z new x n sound asks tight full (ap (λ c. cond c None there) fixed) same

-- any other may have no new place
pub refused-away : (z new : ZoneState) (x n : ℕ) → SoundZone z → CanAsk z (Resize x n) → is_some (resized_in_place z.shape (need z.shape.heads n) x z.heap.map) ≡ false → is_some (resized_in_gap z.shape z.heap.table (need z.shape.heads n) x z.heap.map) ≡ false
    → resized_away z.shape x n z.heap ≡ None → new ≡ z → IsRefused (Resize x n) z NoRoom new
refused-away z new x n sound asks tight full none same = refused-all z new x n sound asks tight full (elsewhere (resized_elsewhere z.shape z.heap.table (need z.shape.heads n) x z.heap.map) none) same
  where
    elsewhere : (o : Option ZoneMap) → option_map (λ m. granted (Resize x n) x m z.heap) o ≡ None → o ≡ None
    elsewhere None h = refl
    elsewhere (Some m) h = absurd (cc h)

-- how an attempt to find x a new place ends
abbrev pub Leaves : {T : Type 0} → ZoneState → ℕ → ℕ → Result T Shortage → ZoneState → Type 0
Leaves z x n r new = MatchResult r
    (λ _. (resized_away z.shape x n z.heap ≡ Some new.heap) × (new.shape ≡ z.shape))
    (λ why. (why ≡ NoRoom) × (resized_away z.shape x n z.heap ≡ None) × (new ≡ z))

-- so ends the request, where x has the size neither in its place nor in its gap
pub attempt-away : {T : Type 0} (z new : ZoneState) (x n : ℕ) (r : Result T Shortage) → SoundZone z → CanAsk z (Resize x n) → is_some (resized_in_place z.shape (need z.shape.heads n) x z.heap.map) ≡ false
    → is_some (resized_in_gap z.shape z.heap.table (need z.shape.heads n) x z.heap.map) ≡ false → Leaves z x n r new → MatchResult r (λ _. IsServed (Resize x n) z x new) (λ why. IsRefused (Resize x n) z why new)
attempt-away z new x n (Ok done) sound asks tight full is = served-away z new x n tight full is.0 is.1
attempt-away z new x n (Err why) sound asks tight full is = subst (λ why. IsRefused (Resize x n) z why new) (sym is.0) (refused-away z new x n sound asks tight full is.1 is.2)
