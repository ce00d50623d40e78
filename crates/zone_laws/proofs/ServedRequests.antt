-- Requests as a whole: each is served exactly where it fits, and served as a request may be.
use Rattle.std.proofs.Common.{◌≡◌, ℕ, ◌<◌, true, length, refl, ap, sym, ◌∙◌, arith, Some, None}
use Rattle.std.specs.Prelude.{IsFalse, ◌||◌, is_some, ⊤}
use Rattle.std.proofs.lemmas.List.Elements.{Contains-get_or}
use Rattle.mac_base.specs.declared.block.Kind.TheVariants.{Ptr, Rel}
use Rattle.mac_base.specs.HeadKind.{Shape}
use Rattle.mac_base.specs.ZoneMap.{ZoneMap}
use Rattle.mac_base.specs.HandleTable.{HandleTable, live_at, is_full, is_pointer}
use Rattle.mac_base.specs.Suits.{Suits}
use Rattle.mac_base.specs.declared.request.Request.{Request}
use Rattle.mac_base.specs.declared.request.Request.TheVariants.{NewBlock, NewEmpty, NewPointer, NewMaster, Reserve, Resize, Replace}
use Rattle.mac_base.specs.Request.{size_needed, fits}
use Rattle.mac_base.specs.Serve.{serve, gives, placed_relocatable}
use Rattle.mac_base.specs.Heap.{Heap, front_slot, table_granted, granted}
use Rattle.mac_base.specs.Sound.{Sound}
use Rattle.mac_base.specs.Trial.{MapServed, NumberGiven, Served}
use Rattle.zone_laws.proofs.Fitting.{serve-NewBlock, serve-NewEmpty, serve-NewPointer, serve-NewMaster, serve-Reserve, serve-Replace, size_needed-positive}
use Rattle.zone_laws.proofs.FittingResize.{serve-Resize}
use Rattle.zone_laws.proofs.SuitsNamed.{named_once}
use Rattle.zone_laws.proofs.SuitsNil.{named_none-not_live}
use Rattle.zone_laws.proofs.FreshNumbers.{gap_start-not_live, slot-no_pointer}
use Rattle.zone_laws.proofs.PlacedParts.{option_map-Some}
use Rattle.zone_laws.proofs.Tables.{not_live}
use Rattle.zone_laws.proofs.ServedPlaces.{served-NewBlock, served-NewEmpty, served-NewPointer, served-Reserve, served-Replace, placed_fixed-parts}
use Rattle.zone_laws.proofs.ServedMaster.{served-NewMaster}
use Rattle.zone_laws.proofs.ServedResize.{served-Resize}

-- What a call that makes the request knows: a slot for a new handle is not live, and what gets another size has a
-- block.
abbrev pub MayAsk : HandleTable → ℕ → Request → Type 0
MayAsk t slot (NewBlock n) = live_at t slot ≡ None
MayAsk t slot NewEmpty = live_at t slot ≡ None
MayAsk t slot (NewPointer n) = ⊤
MayAsk t slot NewMaster = ⊤
MayAsk t slot (Reserve n) = ⊤
MayAsk t slot (Resize x n) = (is_full t x || is_pointer t x) ≡ true
MayAsk t slot (Replace h n) = ⊤

-- a request is served exactly where it fits
pub serve-fits : (s : Shape) (t : HandleTable) (slot : ℕ) (m : ZoneMap) (r : Request) → Suits s t m → MayAsk t slot r → is_some (serve s t slot m r) ≡ fits s t r m
serve-fits s t slot m (NewBlock n) suits asks = serve-NewBlock s t slot m n
serve-fits s t slot m NewEmpty suits asks = serve-NewEmpty s t slot m
serve-fits s t slot m (NewPointer n) suits asks = serve-NewPointer s t slot m n
serve-fits s t slot m NewMaster suits asks = serve-NewMaster s t slot m
serve-fits s t slot m (Reserve n) suits asks = serve-Reserve s t slot m n
serve-fits s t slot m (Resize x n) suits asks = serve-Resize s t slot m x n suits (named_once s t m x suits asks)
serve-fits s t slot m (Replace h n) suits asks = serve-Replace s t slot m h n

-- the number of a new pointer is not live
pub pointer-not_live : (s : Shape) (t : HandleTable) (slot : ℕ) (m : ZoneMap) (n x : ℕ) (new : ZoneMap) → Suits s t m → serve s t slot m (NewPointer n) ≡ Some (x, new) → live_at t x ≡ None
pointer-not_live s t slot m n x new suits h =
    let k : ℕ = size_needed s (NewPointer n) in
    let p = placed_fixed-parts s t k (λ p. Ptr p) m x new h in
    let some = size_needed-positive s (NewPointer n) in
    let room = p.has_room in
    ap (live_at t) (sym p.number) ∙ gap_start-not_live s t m p.gap suits p.is_gap (omega arith)

-- where a request is served exactly, the map is served as it may be
pub serve-MapServed : (s : Shape) (t : HandleTable) (slot : ℕ) (m : ZoneMap) (r : Request) (x : ℕ) (new : ZoneMap) → Suits s t m → MayAsk t slot r → serve s t slot m r ≡ Some (x, new) → MapServed s t (size_needed s r) r x m new
serve-MapServed s t slot m (NewBlock n) x new suits asks h = served-NewBlock s t slot m n x new suits.apart (named_none-not_live s t m slot suits asks) h
serve-MapServed s t slot m NewEmpty x new suits asks h = served-NewEmpty s t slot m x new h
serve-MapServed s t slot m (NewPointer n) x new suits asks h = served-NewPointer s t slot m n x new suits.apart (named_none-not_live s t m x suits (pointer-not_live s t slot m n x new suits h)) h
serve-MapServed s t slot m NewMaster x new suits asks h = served-NewMaster s t slot m x new suits.apart suits.sizes h
serve-MapServed s t slot m (Reserve n) x new suits asks h = served-Reserve s t slot m n x new h
serve-MapServed s t slot m (Resize y n) x new suits asks h = served-Resize s t slot m y n x new suits (named_once s t m y suits asks) h
serve-MapServed s t slot m (Replace y n) x new suits asks h = served-Replace s t slot m y n x new h

-- and the number that it gives is one that it may give
pub serve-NumberGiven : (s : Shape) (t : HandleTable) (slot : ℕ) (m : ZoneMap) (r : Request) (x : ℕ) (new : ZoneMap) → Suits s t m → MayAsk t slot r → serve s t slot m r ≡ Some (x, new) → NumberGiven r x t
serve-NumberGiven s t slot m (NewBlock n) x new suits asks h =
    let found = option_map-Some (gives slot) (placed_relocatable s t (size_needed s (NewBlock n)) (Rel slot) m) (x, new) h in
    let number : slot ≡ x = ap (λ p. p.0) found.2 in
    ap (live_at t) (sym number) ∙ asks
serve-NumberGiven s t slot m NewEmpty x new suits asks h = let same : ◌≡◌ {A = ℕ × ZoneMap} (slot, m) (x, new) = cc in let number : slot ≡ x = ap (λ p. p.0) same in ap (live_at t) (sym number) ∙ asks
serve-NumberGiven s t slot m (NewPointer n) x new suits asks h = pointer-not_live s t slot m n x new suits h
serve-NumberGiven s t slot m NewMaster x new suits asks h = tt
serve-NumberGiven s t slot m (Reserve n) x new suits asks h = tt
serve-NumberGiven s t slot m (Resize y n) x new suits asks h = tt
serve-NumberGiven s t slot m (Replace y n) x new suits asks h = tt

-- the slot that the next new handle takes, where one is free, is not live
pub front_slot-not_live : (s : Shape) (heap : Heap) → Sound s heap → 0 < length heap.free_slots → live_at heap.table (front_slot heap) ≡ None
front_slot-not_live s heap sound some = grind (arith, Contains-get_or, not_live, slot-no_pointer)

-- A request that is served exactly is served, where the new map suits the new table.
pub serve-Served : (s : Shape) (heap : Heap) (slot : ℕ) (r : Request) (x : ℕ) (new : ZoneMap) → Suits s heap.table heap.map → MayAsk heap.table slot r → serve s heap.table slot heap.map r ≡ Some (x, new)
    → Suits s (table_granted r x heap.table) new → Served s r x heap (granted r x new heap)
serve-Served s heap slot r x new suits asks h after =
    record {
      fitted = sym (serve-fits s heap.table slot heap.map r suits asks) ∙ ap is_some h;
      number = serve-NumberGiven s heap.table slot heap.map r x new suits asks h;
      table = refl;
      map = serve-MapServed s heap.table slot heap.map r x new suits asks h;
      suits = after;
    }

-- a request that is not served does not fit
pub serve-no_room : (s : Shape) (t : HandleTable) (slot : ℕ) (m : ZoneMap) (r : Request) → Suits s t m → MayAsk t slot r → serve s t slot m r ≡ None → IsFalse (fits s t r m)
serve-no_room s t slot m r suits asks h = sym (serve-fits s t slot m r suits asks) ∙ ap is_some h
