-- Whatever an attempt serves is a sound heap again, and what is lent stays fixed in it.
use Rattle.std.proofs.Common.{◌≡◌, ℕ, ◌+◌, ◌<◌, true, false, List, [], ◌∷◌, length, Some, None, Option, refl, ap, sym, ◌∙◌, subst, arith, inl, inr}
use Rattle.std.specs.Prelude.{◌||◌, ⊤, slice_index}
use Rattle.std.proofs.lemmas.Bool.{true≢false}
use Rattle.mac_base.specs.declared.block.Kind.{Kind}
use Rattle.mac_base.specs.declared.block.Kind.TheVariants.{Master, Ptr, Rel}
use Rattle.mac_base.specs.HeadKind.{Shape, need, head_size}
use Rattle.mac_base.specs.ZoneMap.{ZoneMap, address_after, released}
use Rattle.mac_base.specs.HandleTable.{HandleTable, Live, EmptyHandle, FullHandle, Pointer, live_at, live_flags, live_full, live_pointer, is_full, is_handle, is_lent, is_locked, is_pointer, no_flags, zeros, with_live, refilled, resized, bytes_of}
use Rattle.mac_base.specs.Gap.{Gap}
use Rattle.mac_base.specs.declared.request.Request.{Request}
use Rattle.mac_base.specs.declared.request.Request.TheVariants.{NewBlock, NewEmpty, NewPointer, NewMaster, Reserve, Resize, Replace}
use Rattle.mac_base.specs.Request.{size_needed, stays}
use Rattle.mac_base.specs.Serve.{serve, gives, placed_relocatable, placed_fixed, reserved, resized_block}
use Rattle.mac_base.specs.Heap.{Heap, front_slot, granted, with_map}
use Rattle.mac_base.specs.Attempt.{attempted}
use Rattle.mac_base.specs.Sound.{Sound}
use Rattle.mac_base.specs.Loans.{LoansAreFixed}
use Rattle.zone_laws.proofs.Placing.{TakenAt}
use Rattle.zone_laws.proofs.PlacedParts.{option_map-Some}
use Rattle.zone_laws.proofs.Fitting.{size_needed-positive}
use Rattle.zone_laws.proofs.Lent.{fixed-block}
use Rattle.zone_laws.proofs.SoundResized.{sound-resized}
use Rattle.zone_laws.proofs.SoundWritten.{sound-new_empty}
use Rattle.zone_laws.proofs.Tables.{by_number, live_at-with_live_same, with_live_agrees}
use Rattle.zone_laws.proofs.ServedBase.{Base, placed_relocatable-TakenFrom, resized_block-from, Suits-cleared, Sound-reserved}
use Rattle.zone_laws.proofs.ServedMaster.{placed_first}
use Rattle.zone_laws.proofs.PlacedParts.{cleared-Rearranged}
use Rattle.mac_base.specs.Gap.{filled}
use Rattle.mac_base.specs.Serve.{cleared}
use Rattle.zone_laws.proofs.ServedRequests.{front_slot-not_live}
use Rattle.zone_laws.proofs.SoundMaster.{sound-master_taken}
use Rattle.zone_laws.proofs.SoundMoved.{sound-resized_elsewhere}
use Rattle.zone_laws.proofs.SoundTaken.{sound-base, sound-handle_taken, sound-pointer_taken, sound-replaced, no_block, Suits-no_block}

-- What a call knows that has its request served: a slot is free for a new handle, what gets another size has a block,
-- and what gets a new block is a handle.
abbrev pub MayServe : Heap → Request → Type 0
MayServe heap (NewBlock n) = 0 < length heap.free_slots
MayServe heap NewEmpty = 0 < length heap.free_slots
MayServe heap (NewPointer n) = ⊤
MayServe heap NewMaster = ⊤
MayServe heap (Reserve n) = ⊤
MayServe heap (Resize y n) = (is_full heap.table y || is_pointer heap.table y) ≡ true
MayServe heap (Replace h n) = is_handle heap.table h ≡ true

-- no lent block is replaced
abbrev pub LeavesLent : Heap → Request → Type 0
LeavesLent heap (Replace h n) = is_lent heap.table h ≡ false
LeavesLent heap _ = ⊤

-- the free slots from the one that is given next
record Front (heap : Heap) : Type 0 where
  pub rest : List ℕ
  pub is : heap.free_slots ≡ front_slot heap ∷ rest

front : (heap : Heap) → 0 < length heap.free_slots → Front heap
front heap some = by_slots heap.free_slots refl some
  where
    by_slots : (xs : List ℕ) → heap.free_slots ≡ xs → 0 < length xs → Front heap
    by_slots [] is h = absurd (omega arith)
    by_slots (x ∷ xs) is h = record { rest = xs; is = is ∙ ap (λ y. y ∷ xs) (sym (ap (λ ys. slice_index ys 0) is)) }

-- a handle with a block, or a pointer, that may move is a handle
pub moves-full : (t : HandleTable) (x : ℕ) → (is_full t x || is_pointer t x) ≡ true → stays t x ≡ false → (is_full t x ≡ true) × (is_pointer t x ≡ false)
moves-full t x = grind arith

-- a block of a kind placed at the start of a cleared gap
pub record PlacedThere (s : Shape) (k : ℕ) (kind : ℕ → Kind) (heap : Heap) (x : ℕ) (new : ZoneMap) : Type 0 where
  pub base : ZoneMap
  pub is_base : Base s heap.table heap.table heap.map base
  pub sound : Sound s (with_map base heap)
  pub at : TakenAt s k (kind x) base new
  pub number : x ≡ address_after s at.before + head_size s.heads

-- a block that stays is placed so
pub placed_there : (s : Shape) (k : ℕ) (kind : ℕ → Kind) (heap : Heap) (x : ℕ) (new : ZoneMap) → 0 < k → Sound s heap → placed_fixed s heap.table k kind heap.map ≡ Some (x, new) → PlacedThere s k kind heap x new
placed_there s k kind heap x new some sound h =
    let p = placed_first s heap.table k kind heap.map x new some h in
    let g : Gap = p.gap in
    let is_base : Base s heap.table heap.table heap.map (filled g (cleared k g.blocks)) = record { rearranged = cleared-Rearranged s heap.table k heap.map g p.is_gap; suits = Suits-cleared s heap.table heap.table k heap.map g sound.suits p.is_gap } in
    record {
      base = filled g (cleared k g.blocks);
      is_base = is_base;
      sound = sound-base s heap (filled g (cleared k g.blocks)) sound is_base;
      at = record { before = g.before; size = p.size; after = p.back; was = p.was; is = p.is; fits = p.fits };
      number = sym p.number;
    }

-- what is served is sound
pub sound-serve : (s : Shape) (r : Request) (heap : Heap) (x : ℕ) (m : ZoneMap) → Sound s heap → MayServe heap r → serve s heap.table (front_slot heap) heap.map r ≡ Some (x, m) → Sound s (granted r x m heap)
sound-serve s (NewBlock n) heap x m sound some h =
    let found = option_map-Some (gives (front_slot heap)) (placed_relocatable s heap.table (need s.heads n) (Rel (front_slot heap)) heap.map) (x, m) h in
    let f = front heap some in
    let p = placed_relocatable-TakenFrom s heap.table heap.table (need s.heads n) (Rel (front_slot heap)) heap.map found.0 sound.suits found.1 in
    let at = subst (λ m. TakenAt s (need s.heads n) (Rel (front_slot heap)) p.base m) (ap (λ g. g.1) found.2) p.taken in
    subst (λ x. Sound s (granted (NewBlock n) x m heap)) (ap (λ g. g.0) found.2)
    (sound-handle_taken s (with_map p.base heap) (front_slot heap) f.rest n m (sound-base s heap p.base sound p.is_base) f.is at)
sound-serve s NewEmpty heap x m sound some h =
    let same : ◌≡◌ {A = ℕ × ZoneMap} (front_slot heap, heap.map) (x, m) = cc h in
    let f = front heap some in
    subst (λ g. Sound s (granted NewEmpty g.0 g.1 heap)) same (sound-new_empty s heap (front_slot heap) f.rest sound f.is)
sound-serve s (NewPointer n) heap x m sound tt h =
    let p = placed_there s (size_needed s (NewPointer n)) (λ p. Ptr p) heap x m (size_needed-positive s (NewPointer n)) sound h in
    sound-pointer_taken s (with_map p.base heap) n x m p.sound p.at p.number
sound-serve s NewMaster heap x m sound tt h =
    let p = placed_there s (size_needed s NewMaster) (λ p. Master) heap x m (size_needed-positive s NewMaster) sound h in
    sound-master_taken s (with_map p.base heap) x m p.sound p.at p.number
sound-serve s (Reserve n) heap x m sound tt h =
    let found = option_map-Some (gives 0) (reserved heap.table (need s.heads n) heap.map) (x, m) h in
    Sound-reserved s heap.table (need s.heads n) heap m sound (found.1 ∙ ap (λ g. Some g.1) found.2)
sound-serve s (Resize y n) heap x m sound block h =
    let found = option_map-Some (gives y) (resized_block s heap.table (need s.heads n) y heap.map) (x, m) h in
    elim (resized_block-from s heap.table heap.table (need s.heads n) y heap.map m sound.suits (found.1 ∙ ap (λ g. Some g.1) found.2)) [
      | inl from ↦ sound-resized s (with_map from.base heap) n y m (sound-base s heap from.base sound from.is_base) block from.resized x
      | inr from ↦ (let taken = from.taken in
          let full = moves-full heap.table y block from.moves in
          subst (λ m. Sound s (granted (Resize y n) x m heap)) from.is
          (sound-resized_elsewhere s (with_map taken.base heap) y n from.found (sound-base s heap taken.base sound taken.is_base) full.0 full.1 taken.taken x))
    ]
sound-serve s (Replace y n) heap x m sound live h =
    let found = option_map-Some (gives y) (placed_relocatable s heap.table (need s.heads n) (Rel y) (released y heap.map)) (x, m) h in
    let p = placed_relocatable-TakenFrom s heap.table (no_block s heap y n sound live) (need s.heads n) (Rel y) (released y heap.map) found.0 (Suits-no_block s heap y n sound live heap.map sound.suits) found.1 in
    let at = subst (λ m. TakenAt s (need s.heads n) (Rel y) p.base m) (ap (λ g. g.1) found.2) p.taken in
    sound-replaced s heap y n sound live p.base m p.is_base at

-- what an attempt served, in its parts
pub attempted-parts : (s : Shape) (r : Request) (heap : Heap) (x : ℕ) (new : Heap) → attempted s r heap ≡ Some (x, new) → (m : ZoneMap) × (serve s heap.table (front_slot heap) heap.map r ≡ Some (x, m)) × (granted r x m heap ≡ new)
attempted-parts s r heap x new h = grind arith

-- whatever an attempt serves is a sound heap again
pub sound-attempted : (s : Shape) (r : Request) (heap : Heap) (x : ℕ) (new : Heap) → Sound s heap → MayServe heap r → attempted s r heap ≡ Some (x, new) → Sound s new
sound-attempted s r heap x new sound may h = let p = attempted-parts s r heap x new h in subst (Sound s) p.2 (sound-serve s r heap x p.0 sound may p.1)

-- ---- what is lent

-- the fixed stay so where one number is given something, if that is fixed, or the number isn't lent
fixed-given : (heap : Heap) (x : ℕ) (l : Live) (m : ZoneMap) (slots : List ℕ) → LoansAreFixed heap → (is_lent heap.table x ≡ true → (live_pointer (Some l) || (live_flags (Some l)).lock) ≡ true)
    → LoansAreFixed (record { table = with_live x l heap.table; map = m; free_slots = slots })
fixed-given heap x l m slots fixed here = by_number (λ y. is_lent heap.table y ≡ true → (is_pointer u y || is_locked u y) ≡ true) x
    (λ lent. ap (λ o. live_pointer o || (live_flags o).lock) (live_at-with_live_same x l heap.table) ∙ here lent)
    (λ y apart lent. ap (λ o. live_pointer o || (live_flags o).lock) ((with_live_agrees x l heap.table).others y apart) ∙ fixed y lent)
  where
    u : HandleTable
    u = with_live x l heap.table

-- what is not live is not lent
new-not_lent : (heap : Heap) (x : ℕ) → LoansAreFixed heap → live_at heap.table x ≡ None → is_lent heap.table x ≡ true → ⊥
new-not_lent heap x fixed none lent = true≢false (sym (fixed-block heap.table x (fixed x lent)) ∙ ap (λ o. live_full o || live_pointer o) none)

-- a block of another size is fixed as it was
refilled-fixed : (bytes : List ℕ) (o : Option Live) → (live_pointer o || (live_flags o).lock) ≡ true → (live_pointer (Some (refilled bytes o)) || (live_flags (Some (refilled bytes o))).lock) ≡ true
refilled-fixed bytes v1 h = grind arith

-- what is lent is fixed in the heap in which it is served
pub loans_fixed-granted : (s : Shape) (r : Request) (heap : Heap) (x : ℕ) (m : ZoneMap) → Sound s heap → MayServe heap r → LeavesLent heap r → LoansAreFixed heap → serve s heap.table (front_slot heap) heap.map r ≡ Some (x, m) → LoansAreFixed (granted r x m heap)
loans_fixed-granted s (NewBlock n) heap x m sound some leaves fixed h =
    let found = option_map-Some (gives (front_slot heap)) (placed_relocatable s heap.table (need s.heads n) (Rel (front_slot heap)) heap.map) (x, m) h in
    let slot : front_slot heap ≡ x = ap (λ g. g.0) found.2 in
    fixed-given heap x (FullHandle no_flags (zeros n)) m heap.free_slots fixed (λ lent. absurd (new-not_lent heap x fixed (subst (λ y. live_at heap.table y ≡ None) slot (front_slot-not_live s heap sound some)) lent))
loans_fixed-granted s NewEmpty heap x m sound some leaves fixed h =
    let same : ◌≡◌ {A = ℕ × ZoneMap} (front_slot heap, heap.map) (x, m) = cc h in
    let slot : front_slot heap ≡ x = ap (λ g. g.0) same in
    fixed-given heap x EmptyHandle m heap.free_slots fixed (λ lent. absurd (new-not_lent heap x fixed (subst (λ y. live_at heap.table y ≡ None) slot (front_slot-not_live s heap sound some)) lent))
loans_fixed-granted s (NewPointer n) heap x m sound may leaves fixed h = fixed-given heap x (Pointer (zeros n)) m heap.free_slots fixed (λ _. refl)
loans_fixed-granted s NewMaster heap x m sound may leaves fixed h = fixed
loans_fixed-granted s (Reserve n) heap x m sound may leaves fixed h = fixed
loans_fixed-granted s (Resize y n) heap x m sound may leaves fixed h = fixed-given heap y (refilled (resized n (bytes_of heap.table y)) (live_at heap.table y)) m heap.free_slots fixed (λ lent. refilled-fixed (resized n (bytes_of heap.table y)) (live_at heap.table y) (fixed y lent))
loans_fixed-granted s (Replace y n) heap x m sound may leaves fixed h = fixed-given heap y (FullHandle no_flags (zeros n)) m heap.free_slots fixed (λ lent. absurd (cc (leaves, lent)))

-- what is lent is fixed in the heap that an attempt leaves
pub loans_fixed-attempted : (s : Shape) (r : Request) (heap : Heap) (x : ℕ) (new : Heap) → Sound s heap → MayServe heap r → LeavesLent heap r → LoansAreFixed heap → attempted s r heap ≡ Some (x, new) → LoansAreFixed new
loans_fixed-attempted s r heap x new sound may leaves fixed h = let p = attempted-parts s r heap x new h in subst LoansAreFixed p.2 (loans_fixed-granted s r heap x p.0 sound may leaves fixed p.1)
