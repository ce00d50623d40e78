-- A new pointer is placed: a free block is cut, and then the pointer has the block.
use Rattle.std.proofs.Common.{◌≡◌, ℕ, ◌+◌, ◌≤◌, Bool, cond, ◌∷◌, ◌++◌, Some, refl, ap, sym, ◌∙◌, subst, IsTrue}
use Rattle.std.specs.Prelude.{[], not}
use Rattle.std.specs.List.{list_all}
use Rattle.std.proofs.lemmas.Bool.{not-true, and_parts}
use Rattle.mac_base.specs.declared.block.Entry.{Entry}
use Rattle.mac_base.specs.declared.block.Kind.TheVariants.{Free, Ptr}
use Rattle.mac_base.specs.HeadKind.{need, head_size}
use Rattle.mac_base.specs.ZoneMap.{ZoneMap, block, has_free, address_after}
use Rattle.mac_base.specs.HandleTable.{Pointer, with_live, zeros}
use Rattle.mac_base.specs.Suits.{is_block_size, has_length}
use Rattle.mac_base.specs.declared.request.Request.TheVariants.{NewPointer}
use Rattle.mac_base.specs.Heap.{granted}
use Rattle.mac_base.specs.Serve.{take_lowest, taken, lowest_before, lowest_contents}
use Rattle.mac_base.specs.Sound.{Sound}
use Rattle.mac_base.specs.Loans.{LoansAreFixed}
use Rattle.mac_base.specs.ZoneState.{ZoneState}
use Rattle.zone_laws.proofs.Lent.{KeepsLent}
use Rattle.zone_laws.proofs.LentChanges.{keeps-new_pointer}
use Rattle.zone_laws.proofs.Taken.{need-is_size}
use Rattle.zone_laws.proofs.SoundPointer.{sound-placed_pointer}
use Rattle.linked_zone.specs.Changes.{with_map, fixed}
use Rattle.linked_zone.specs.Places.{LowestAt, RoomFor}
use Rattle.zone_heap.specs.Joins.{CanTake, with_front}
use Rattle.zone_heap.proofs.Taking.{front_size, front_rest, taken-parts, front-has_length, has_free-free, take_lowest-there, all-there}

-- what is before the lowest free block that has room
lowest_before-there : (k : ℕ) (before : ZoneMap) (n : ℕ) (after : ZoneMap) → IsTrue (list_all (λ e. not (has_free k e)) before) → k ≤ n → lowest_before k (before ++ block Free n ∷ after) ≡ before
lowest_before-there k [] n after none fits = ap (λ b. cond b [] (block Free n ∷ lowest_before k after)) (has_free-free k n fits)
lowest_before-there k (e ∷ es) n after none fits =
    let nones = and_parts (not (has_free k e)) (list_all (λ e. not (has_free k e)) es) none in
    ap (λ b. cond b [] (e ∷ lowest_before k (es ++ block Free n ∷ after))) (not-true _ nones.0) ∙ ap (λ m. e ∷ m) (lowest_before-there k es n after nones.1 fits)

-- the block for n bytes is chosen
pub record ChosenBlock (z : ZoneState) (n k at : ℕ) : Type 0 where
  pub sound : Sound z.shape z.heap
  pub low : LowestAt z k at
  pub size : k ≡ need z.shape.heads n

module _ (z : ZoneState) (n k at : ℕ) (c : ChosenBlock z n k at) where
  -- the pointer's number
  abbrev pub pointer_at : ℕ
  pointer_at = at + head_size z.shape.heads

  -- the front of the block can be taken
  abbrev pub block_front : CanTake z at k
  block_front =
      let possible : Entry → Bool = λ e. is_block_size z.shape e.size in
      record {
        free = c.low.free;
        fits = c.low.large;
        front = subst (λ k. IsTrue (is_block_size z.shape k)) (sym c.size) (need-is_size z.shape n);
        whole = all-there possible c.low.free.before (block Free c.low.free.size) c.low.free.after (subst (λ m. IsTrue (list_all possible m)) c.low.free.map c.sound.suits.sizes);
      }

  -- the zone once it is
  abbrev pub cut_block : ZoneState
  cut_block = with_map (c.low.free.before ++ block Free (front_size z.shape k c.low.free.size) ∷ (front_rest z.shape k c.low.free.size ++ c.low.free.after)) z

  -- there is room for the bytes
  pub room-block : IsTrue (has_length z.shape (front_size z.shape k c.low.free.size) n)
  room-block = subst (λ k. IsTrue (has_length z.shape (front_size z.shape k c.low.free.size) n)) (sym c.size) (front-has_length z.shape n c.low.free.size (subst (λ k. k ≤ c.low.free.size) c.size c.low.large))

  -- in the block that was cut
  abbrev pub block_room : RoomFor cut_block at n
  block_room = record {
    free = record { before = c.low.free.before; size = front_size z.shape k c.low.free.size; after = front_rest z.shape k c.low.free.size ++ c.low.free.after; map = refl; place = c.low.free.place };
    room = room-block;
  }

  -- the map with the block of the pointer
  abbrev pub pointer_map : ZoneMap
  pointer_map = c.low.free.before ++ (taken z.shape k (Ptr pointer_at) c.low.free.size ++ c.low.free.after)

  -- and the zone
  abbrev pub pointer_zone : ZoneState
  pointer_zone = record { memory = z.memory; shape = z.shape; heap = granted (NewPointer n) pointer_at pointer_map z.heap }

  -- the number is where the contents of the lowest block begin
  pointer_place : pointer_at ≡ lowest_contents z.shape (need z.shape.heads n) z.heap.map
  pointer_place =
      ap (λ a. a + head_size z.shape.heads) c.low.free.place
      ∙ sym (ap (λ j. lowest_contents z.shape j z.heap.map) (sym c.size) ∙ ap (λ m. address_after z.shape m + head_size z.shape.heads) (ap (lowest_before k) c.low.free.map ∙ lowest_before-there k c.low.free.before c.low.free.size c.low.free.after c.low.lowest c.low.large))

  -- the map is what it was once the lowest block is taken
  pub pointer_taken : take_lowest z.shape (need z.shape.heads n) (Ptr pointer_at) z.heap.map ≡ Some pointer_map
  pointer_taken =
      ap (λ j. take_lowest z.shape j (Ptr pointer_at) z.heap.map) (sym c.size)
      ∙ ap (take_lowest z.shape k (Ptr pointer_at)) c.low.free.map ∙ take_lowest-there z.shape k (Ptr pointer_at) c.low.free.before c.low.free.size c.low.free.after c.low.lowest c.low.large

  -- the zone stays sound
  pub pointer-sound : Sound z.shape pointer_zone.heap
  pointer-sound = sound-placed_pointer z.shape z.heap n pointer_at pointer_map c.sound pointer_taken pointer_place

  -- and what is lent is kept
  pub pointer-keeps : LoansAreFixed z.heap → KeepsLent z.shape z.heap pointer_zone.heap
  pointer-keeps fixed = keeps-new_pointer z.shape z.heap n pointer_at pointer_map c.sound fixed pointer_taken pointer_place

  module _ (cut : ZoneState) (front : (take : CanTake z at k) → cut ≡ with_front z take) where
    -- the cut makes it that zone
    pub cut-is : cut ≡ cut_block
    cut-is = front block_front ∙ ap (λ m. with_map (c.low.free.before ++ m) z) (taken-parts z.shape k Free c.low.free.size c.low.free.after)

    -- in which there is room for the bytes
    pub can-fix : RoomFor cut at n
    can-fix = subst (λ w. RoomFor w at n) (sym cut-is) block_room

    -- the heads are the same
    pub same-heads : cut.shape ≡ z.shape
    same-heads = ap (λ (w : ZoneState). w.shape) cut-is

    -- so that the pointer can be given them, and then it is placed
    pub fixed-done : (last : ZoneState) → ((r : RoomFor cut at n) → last ≡ fixed n cut r.free) → last ≡ pointer_zone
    fixed-done last fix =
        subst (λ w. (r : RoomFor w at n) → last ≡ fixed n w r.free) cut-is fix block_room
        ∙ ap (λ m. let new : ZoneState = record { memory = z.memory; shape = z.shape; heap = record { table = with_live pointer_at (Pointer (zeros n)) z.heap.table; map = c.low.free.before ++ m; free_slots = z.heap.free_slots } } in new)
        (sym (taken-parts z.shape k (Ptr pointer_at) c.low.free.size c.low.free.after))
