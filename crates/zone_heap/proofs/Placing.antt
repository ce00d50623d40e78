-- A new handle is placed: its slot is taken, then a free block is cut, and then the handle has the block.
use Rattle.std.proofs.Common.{◌≡◌, ℕ, ◌≤◌, Bool, ◌∷◌, ◌++◌, drop, [], Some, None, Option, MatchOption, refl, ap, sym, ◌∙◌, subst, IsTrue}
use Rattle.std.specs.List.{list_all}
use Rattle.mac_base.specs.declared.block.Entry.{Entry}
use Rattle.mac_base.specs.declared.block.Kind.TheVariants.{Free, Rel}
use Rattle.mac_base.specs.HeadKind.{need}
use Rattle.mac_base.specs.ZoneMap.{ZoneMap, block}
use Rattle.mac_base.specs.HandleTable.{HandleTable, EmptyHandle, FullHandle, no_flags, zeros, live_at, with_live}
use Rattle.mac_base.specs.Suits.{is_block_size, has_length}
use Rattle.mac_base.specs.declared.request.Request.TheVariants.{NewBlock}
use Rattle.mac_base.specs.Heap.{granted}
use Rattle.mac_base.specs.Serve.{take_lowest, taken}
use Rattle.mac_base.specs.Sound.{Sound}
use Rattle.mac_base.specs.Loans.{LoansAreFixed}
use Rattle.mac_base.specs.ZoneState.{ZoneState}
use Rattle.zone_laws.proofs.Lent.{KeepsLent, fixed-kept}
use Rattle.zone_laws.proofs.LentChanges.{keeps-new_handle, keeps-new_empty}
use Rattle.zone_laws.proofs.Taken.{need-is_size}
use Rattle.zone_laws.proofs.SoundPlaced.{sound-placed}
use Rattle.zone_laws.proofs.SoundWritten.{sound-new_empty}
use Rattle.zone_laws.proofs.Tables.{live_at-with_live_same}
use Rattle.linked_zone.specs.Changes.{with_map, pointed}
use Rattle.linked_zone.specs.Changes as change
use Rattle.linked_zone.specs.Loans.{KeepsLoans}
use Rattle.linked_zone.specs.Places.{LowestAt, RoomFor}
use Rattle.zone_heap.specs.Joins.{CanTake, with_front}
use Rattle.zone_heap.proofs.Loans.{keeps-loans}
use Rattle.zone_heap.proofs.Taking.{front_size, front_rest, taken-parts, front-has_length, take_lowest-there, all-there}
use Rattle.zone_heap.proofs.Twice.{with_live-twice}

-- the block for n bytes is chosen, and so is the slot
pub record Chosen (z : ZoneState) (h n k at : ℕ) : Type 0 where
  pub sound : Sound z.shape z.heap
  pub low : LowestAt z k at
  pub size : k ≡ need z.shape.heads n
  pub front : z.heap.free_slots ≡ h ∷ drop 1 z.heap.free_slots

-- the whole block has a possible size
pub whole-size : (z : ZoneState) (h n k at : ℕ) (p : Chosen z h n k at) → IsTrue (is_block_size z.shape p.low.free.size)
whole-size z h n k at p =
    let possible : Entry → Bool = λ e. is_block_size z.shape e.size in
    all-there possible p.low.free.before (block Free p.low.free.size) p.low.free.after (subst (λ m. IsTrue (list_all possible m)) p.low.free.map p.sound.suits.sizes)

-- and so has its front
pub front-size : (z : ZoneState) (h n k at : ℕ) → Chosen z h n k at → IsTrue (is_block_size z.shape k)
front-size z h n k at p = subst (λ k. IsTrue (is_block_size z.shape k)) (sym p.size) (need-is_size z.shape n)

-- once the slot is taken, the front of the block can be
abbrev taken_front : (z : ZoneState) (h n k at : ℕ) → Chosen z h n k at → CanTake (change.taken h z) at k
taken_front z h n k at p = record {
  free = record { before = p.low.free.before; size = p.low.free.size; after = p.low.free.after; map = p.low.free.map; place = p.low.free.place };
  fits = p.low.large;
  front = front-size z h n k at p;
  whole = whole-size z h n k at p;
}

-- the zone once it is
abbrev cut_zone : (z : ZoneState) (h n k at : ℕ) → Chosen z h n k at → ZoneState
cut_zone z h n k at p = with_map (p.low.free.before ++ block Free (front_size z.shape k p.low.free.size) ∷ (front_rest z.shape k p.low.free.size ++ p.low.free.after)) (change.taken h z)

-- there is room for the bytes
pub room-there : (z : ZoneState) (h n k at : ℕ) (p : Chosen z h n k at) → IsTrue (has_length z.shape (front_size z.shape k p.low.free.size) n)
room-there z h n k at p =
    subst (λ k. IsTrue (has_length z.shape (front_size z.shape k p.low.free.size) n)) (sym p.size) (front-has_length z.shape n p.low.free.size (subst (λ k. k ≤ p.low.free.size) p.size p.low.large))

-- in the block that was cut
abbrev room : (z : ZoneState) (h n k at : ℕ) (p : Chosen z h n k at) → RoomFor (cut_zone z h n k at p) at n
room z h n k at p = record {
  free = record { before = p.low.free.before; size = front_size z.shape k p.low.free.size; after = front_rest z.shape k p.low.free.size ++ p.low.free.after; map = refl; place = p.low.free.place };
  room = room-there z h n k at p;
}

-- the map with the block of the handle
abbrev pub placed_map : (z : ZoneState) (h n k at : ℕ) → Chosen z h n k at → ZoneMap
placed_map z h n k at p = p.low.free.before ++ (taken z.shape k (Rel h) p.low.free.size ++ p.low.free.after)

-- and the zone
abbrev pub placed_zone : (z : ZoneState) (h n k at : ℕ) → Chosen z h n k at → ZoneState
placed_zone z h n k at p = record { memory = z.memory; shape = z.shape; heap = granted (NewBlock n) h (placed_map z h n k at p) z.heap }

-- the zone with the handle
pointed_zone : (z : ZoneState) (h n k at : ℕ) (p : Chosen z h n k at) → pointed h n (cut_zone z h n k at p) (room z h n k at p).free ≡ placed_zone z h n k at p
pointed_zone z h n k at p =
    let state = λ (t : HandleTable) (m : ZoneMap). let new : ZoneState = record { memory = z.memory; shape = z.shape; heap = record { table = t; map = m; free_slots = drop 1 z.heap.free_slots } } in new in
    let full = FullHandle no_flags (zeros n) in
    ap (λ t. state t (p.low.free.before ++ block (Rel h) (front_size z.shape k p.low.free.size) ∷ (front_rest z.shape k p.low.free.size ++ p.low.free.after))) (with_live-twice h full EmptyHandle z.heap.table)
    ∙ ap (λ m. state (with_live h full z.heap.table) (p.low.free.before ++ m)) (sym (taken-parts z.shape k (Rel h) p.low.free.size p.low.free.after))

-- it is what the map was once the lowest block is taken
pub lowest-taken : (z : ZoneState) (h n k at : ℕ) (p : Chosen z h n k at) → take_lowest z.shape (need z.shape.heads n) (Rel h) z.heap.map ≡ Some (placed_map z h n k at p)
lowest-taken z h n k at p =
    subst (λ j. take_lowest z.shape j (Rel h) z.heap.map ≡ Some (placed_map z h n k at p)) p.size
    (ap (take_lowest z.shape k (Rel h)) p.low.free.map ∙ take_lowest-there z.shape k (Rel h) p.low.free.before p.low.free.size p.low.free.after p.low.lowest p.low.large)

-- the zone stays sound
pub placed-sound : (z : ZoneState) (h n k at : ℕ) (p : Chosen z h n k at) → Sound z.shape (placed_zone z h n k at p).heap
placed-sound z h n k at p = sound-placed z.shape z.heap h (drop 1 z.heap.free_slots) p.sound p.front n (placed_map z h n k at p) (lowest-taken z h n k at p)

-- and what is lent is kept
pub placed-keeps : (z : ZoneState) (h n k at : ℕ) (p : Chosen z h n k at) → LoansAreFixed z.heap → KeepsLent z.shape z.heap (placed_zone z h n k at p).heap
placed-keeps z h n k at p fixed = keeps-new_handle z.shape z.heap h (drop 1 z.heap.free_slots) n (placed_map z h n k at p) p.sound fixed p.front (lowest-taken z h n k at p)

-- once the slot is taken, the block can be cut
pub can-cut : (z new : ZoneState) (h n k at : ℕ) → Chosen z h n k at → new ≡ change.taken h z → CanTake new at k
can-cut z new h n k at p slot = subst (λ w. CanTake w at k) (sym slot) (taken_front z h n k at p)

-- which makes it that zone
cut-done : (z new cut : ZoneState) (h n k at : ℕ) (p : Chosen z h n k at) → new ≡ change.taken h z → ((take : CanTake new at k) → cut ≡ with_front new take) → cut ≡ cut_zone z h n k at p
cut-done z new cut h n k at p slot front =
    subst (λ w. (take : CanTake w at k) → cut ≡ with_front w take) slot front (taken_front z h n k at p)
    ∙ ap (λ m. with_map (p.low.free.before ++ m) (change.taken h z)) (taken-parts z.shape k Free p.low.free.size p.low.free.after)

-- in which the handle is empty
pub can-point-empty : (z new cut : ZoneState) (h n k at : ℕ) → Chosen z h n k at → new ≡ change.taken h z → ((take : CanTake new at k) → cut ≡ with_front new take) → live_at cut.heap.table h ≡ Some EmptyHandle
can-point-empty z new cut h n k at p slot front = ap (λ (w : ZoneState). live_at w.heap.table h) (cut-done z new cut h n k at p slot front) ∙ live_at-with_live_same h EmptyHandle z.heap.table

-- and there is room for its bytes
pub can-point-room : (z new cut : ZoneState) (h n k at : ℕ) → Chosen z h n k at → new ≡ change.taken h z → ((take : CanTake new at k) → cut ≡ with_front new take) → RoomFor cut at n
can-point-room z new cut h n k at p slot front = subst (λ w. RoomFor w at n) (sym (cut-done z new cut h n k at p slot front)) (room z h n k at p)

-- so that it can be given them, and then the new handle is placed
pub placed-done : (z new cut last : ZoneState) (h n k at : ℕ) (p : Chosen z h n k at) → new ≡ change.taken h z → ((take : CanTake new at k) → cut ≡ with_front new take) → ((r : RoomFor cut at n) → last ≡ pointed h n cut r.free)
    → last ≡ placed_zone z h n k at p
placed-done z new cut last h n k at p slot front point =
    subst (λ w. (r : RoomFor w at n) → last ≡ pointed h n w r.free) (cut-done z new cut h n k at p slot front) point (room z h n k at p)
    ∙ pointed_zone z h n k at p

-- a slot taken as an empty handle, or none, leaves the zone sound
pub taken-sound : (z new : ZoneState) (o : Option ℕ) → Sound z.shape z.heap → MatchOption o ((z.heap.free_slots ≡ []) × (new ≡ z)) (λ h. (z.heap.free_slots ≡ h ∷ drop 1 z.heap.free_slots) × (new ≡ change.taken h z)) → Sound new.shape new.heap
taken-sound z new None sound none = subst (λ (w : ZoneState). Sound w.shape w.heap) (sym none.1) sound
taken-sound z new (Some h) sound some = subst (λ (w : ZoneState). Sound w.shape w.heap) (sym some.1) (sound-new_empty z.shape z.heap h (drop 1 z.heap.free_slots) sound some.0)

-- and what is lent is kept
pub taken-keeps : (z : ZoneState) (h : ℕ) → Sound z.shape z.heap → LoansAreFixed z.heap → z.heap.free_slots ≡ h ∷ drop 1 z.heap.free_slots → KeepsLent z.shape z.heap (change.taken h z).heap
taken-keeps z h sound fixed front = keeps-new_empty z.shape z.heap h (drop 1 z.heap.free_slots) sound fixed front

-- so that it is fixed
pub taken-fixed : (z new : ZoneState) (o : Option ℕ) → Sound z.shape z.heap → LoansAreFixed z.heap → MatchOption o ((z.heap.free_slots ≡ []) × (new ≡ z)) (λ h. (z.heap.free_slots ≡ h ∷ drop 1 z.heap.free_slots) × (new ≡ change.taken h z))
    → LoansAreFixed new.heap
taken-fixed z new None sound fixed none = subst (λ (w : ZoneState). LoansAreFixed w.heap) (sym none.1) fixed
taken-fixed z new (Some h) sound fixed some =
    subst (λ (w : ZoneState). LoansAreFixed w.heap) (sym some.1) (fixed-kept z.shape z.heap (change.taken h z).heap (taken-keeps z h sound fixed some.0) fixed)

-- and each loan can come back
pub taken-loans : (z new : ZoneState) (o : Option ℕ) → Sound z.shape z.heap → LoansAreFixed z.heap → MatchOption o ((z.heap.free_slots ≡ []) × (new ≡ z)) (λ h. (z.heap.free_slots ≡ h ∷ drop 1 z.heap.free_slots) × (new ≡ change.taken h z))
    → KeepsLoans z new
taken-loans z new None sound fixed none = subst (KeepsLoans z) (sym none.1) (refl, λ x loan is. is)
taken-loans z new (Some h) sound fixed some = subst (KeepsLoans z) (sym some.1) (keeps-loans z (change.taken h z) refl refl (taken-keeps z h sound fixed some.0))
