-- A new block for a handle, once its old one is free.
use Rattle.std.proofs.Common.{◌≡◌, ℕ, true, false, ◌++◌, Some, Option, refl, ap, sym, ◌∙◌, subst}
use Rattle.std.specs.Prelude.{option_map, option_and_then}
use Rattle.std.specs.Option.{option_or}
use Rattle.std.proofs.lemmas.Bool.{and_parts, not-true}
use Rattle.mac_base.specs.declared.block.Kind.TheVariants.{Rel}
use Rattle.mac_base.specs.declared.request.Request.TheVariants.{Replace}
use Rattle.mac_base.specs.Arrangement.{down}
use Rattle.mac_base.specs.Attempt.{attempted}
use Rattle.mac_base.specs.Gap.{Gap, gaps, filled, lowest_gap, some_gap_has}
use Rattle.mac_base.specs.HandleTable.{HandleTable, EmptyHandle, FullHandle, no_flags, zeros, emptied, is_handle, is_lent, is_locked, live_at}
use Rattle.mac_base.specs.HeadKind.{need}
use Rattle.mac_base.specs.Heap.{Heap, front_slot, granted}
use Rattle.mac_base.specs.Serve.{gives, placed_relocatable, taken, take_lowest}
use Rattle.mac_base.specs.Sound.{Sound}
use Rattle.mac_base.specs.ZoneMap.{ZoneMap, is_named, released}
use Rattle.mac_base.specs.ZoneState.{ZoneState}
use Rattle.zone_laws.proofs.Fitting.{is_some-lowest_gap, serve-Replace}
use Rattle.zone_laws.proofs.Lent.{KeepsLent, keeps-others}
use Rattle.zone_laws.proofs.Placing.{TakenAt}
use Rattle.zone_laws.proofs.SuitsTaken.{addresses-untaken}
use Rattle.zone_laws.proofs.Tables.{eqb_swap, live_at-with_live_same, with_live_agrees}
use Rattle.zone_laws.proofs.FixesSame.{gaps-same}
use Rattle.zone_laws.proofs.SoundServed.{sound-attempted, loans_fixed-attempted}
use Rattle.linked_zone.specs.Changes.{pointed}
use Rattle.linked_zone.specs.Loans.{KeepsLoans}
use Rattle.linked_zone.specs.Places.{RoomFor}
use Rattle.zone_heap.specs.Attempts.{CanAsk, IsServed, IsRefused, SoundZone}
use Rattle.zone_heap.specs.declared.shortage.Shortage.TheVariants.{NoRoom}
use Rattle.zone_heap.specs.Joins.{CanTake, with_front}
use Rattle.zone_heap.specs.Room.{IsOpened, LacksRoom}
use Rattle.zone_heap.proofs.Attempting.{none_of}
use Rattle.zone_heap.proofs.Clearing.{opened_taken}
use Rattle.zone_heap.proofs.Emptying.{emptied_zone, fixes-emptied}
use Rattle.zone_heap.proofs.Loans.{keeps-both, keeps-loans}
use Rattle.zone_heap.proofs.Moving.{can-take, cut_zone, cut-done, room}
use Rattle.zone_heap.proofs.Taking.{taken-parts}
use Rattle.zone_heap.proofs.Twice.{with_live-twice}

-- ---- what is asked

module _ (z : ZoneState) (h n : ℕ) (asks : CanAsk z (Replace h n)) where
  -- a handle is to have a new block
  pub asked-handle : is_handle z.heap.table h ≡ true
  asked-handle = (and_parts (is_handle z.heap.table h) _ asks.operand).0

  -- one that isn't locked
  pub asked-unlocked : is_locked z.heap.table h ≡ false
  asked-unlocked = not-true _ (and_parts _ _ (and_parts (is_handle z.heap.table h) _ asks.operand).1).0

  -- nor lent
  pub asked-here : is_lent z.heap.table h ≡ false
  asked-here = not-true _ (and_parts _ _ (and_parts (is_handle z.heap.table h) _ asks.operand).1).1

  -- the gaps are the same once it is empty
  gaps-emptied : (m : ZoneMap) → gaps (emptied h z.heap.table) m ≡ gaps z.heap.table m
  gaps-emptied = gaps-same z.heap.table (emptied h z.heap.table) (fixes-emptied z.heap.table h asked-handle asked-unlocked)

  -- ---- whether there is room

  module _ (k : ℕ) (size : k ≡ need z.shape.heads n) where
    -- where no gap has room, the old block counted as free, the request is refused
    pub replace-refused : some_gap_has k (gaps z.heap.table (released h z.heap.map)) ≡ false → IsRefused (Replace h n) z NoRoom z
    replace-refused full =
        let few = ap (λ k. some_gap_has k (gaps z.heap.table (released h z.heap.map))) (sym size) ∙ full in (
          refl,
          few,
          ap (option_map (λ (found : ℕ × ZoneMap). (found.0, granted (Replace h n) found.0 found.1 z.heap))) (none_of _ (serve-Replace z.shape z.heap.table (front_slot z.heap) z.heap.map h n ∙ few)),
          refl,
        )

    -- where one has, there is room once the old block is free
    pub replace-room : some_gap_has k (gaps z.heap.table (released h z.heap.map)) ≡ true → (w new : ZoneState) → w ≡ emptied_zone h z → LacksRoom k w new → ⊥
    replace-room has w new is lacks =
        let t = emptied h z.heap.table in
        let m = released h z.heap.map in
        let none = ap (λ (w : ZoneState). lowest_gap k (gaps w.heap.table w.heap.map)) (sym is) ∙ lacks.0 in
        let some = is_some-lowest_gap t k m ∙ ap (some_gap_has k) (gaps-emptied m) ∙ has in
        absurd (cc (none, some))

    -- ---- the new block

    -- The old block is free, and a free block is opened for the new one.
    module _ (v : ZoneState) (at : ℕ) (opened : IsOpened (emptied_zone h z) k at v) (sound : SoundZone v) where
      -- so many bytes are needed in that zone too
      pub size-there : k ≡ need v.shape.heads n
      size-there = size ∙ ap (λ (v : ZoneState). need v.shape.heads n) (sym opened.zone)

      -- the bytes can be cut off
      pub replace-cuts : CanTake v at k
      replace-cuts = can-take v h n k at sound.sound opened.low.free opened.low.large size-there

      -- the zone then
      abbrev pub cut_off : ZoneState
      cut_off = cut_zone v h n k at sound.sound opened.low.free opened.low.large size-there

      cut-off : (c : ZoneState) → ((take : CanTake v at k) → c ≡ with_front v take) → c ≡ cut_off
      cut-off = cut-done v h n k at sound.sound opened.low.free opened.low.large size-there

      -- the map with the new block
      abbrev pub replaced_map : ZoneMap
      replaced_map = opened.low.free.before ++ (taken v.shape k (Rel h) opened.low.free.size ++ opened.low.free.after)

      -- and the zone
      abbrev pub replaced_zone : ZoneState
      replaced_zone = record { memory = v.memory; shape = v.shape; heap = granted (Replace h n) h replaced_map v.heap }

      taken-there : TakenAt v.shape k (Rel h) v.heap.map replaced_map
      taken-there = record { before = opened.low.free.before; size = opened.low.free.size; after = opened.low.free.after; was = opened.low.free.map; is = refl; fits = opened.low.large }

      -- what becomes of the zone
      module _ (c : ZoneState) (cut : (take : CanTake v at k) → c ≡ with_front v take) where
        -- the handle is empty in it
        pub replace-empty : live_at c.heap.table h ≡ Some EmptyHandle
        replace-empty =
            ap (λ (w : ZoneState). live_at w.heap.table h) (cut-off c cut) ∙ ap (λ (w : ZoneState). live_at w.heap.table h) opened.zone ∙ live_at-with_live_same h EmptyHandle z.heap.table

        -- and has room for its bytes
        pub replace-point : RoomFor c at n
        replace-point = subst (λ w. RoomFor w at n) (sym (cut-off c cut)) (room v h n k at sound.sound opened.low.free opened.low.large size-there)

        -- so that it can be given them
        pub replace-done : (last : ZoneState) → ((r : RoomFor c at n) → last ≡ pointed h n c r.free) → last ≡ replaced_zone
        replace-done last point =
            subst (λ w. (r : RoomFor w at n) → last ≡ pointed h n w r.free) (cut-off c cut) point (room v h n k at sound.sound opened.low.free opened.low.large size-there)
            ∙ ap (λ m. let new : ZoneState = record { memory = v.memory; shape = v.shape; heap = granted (Replace h n) h (opened.low.free.before ++ m) v.heap } in new)
            (sym (taken-parts v.shape k (Rel h) opened.low.free.size opened.low.free.after))

      -- the new block is where it is asked for
      placed-there : placed_relocatable z.shape z.heap.table k (Rel h) (released h z.heap.map) ≡ Some replaced_map
      placed-there =
          let s = z.shape in
          let m = released h z.heap.map in
          ap (λ gs. option_or (take_lowest s k (Rel h) m) (option_and_then (λ (g : Gap). option_map (filled g) (take_lowest s k (Rel h) (down g.blocks))) (lowest_gap k gs))) (sym (gaps-emptied m))
          ∙ opened_taken (emptied_zone h z) v k at opened (Rel h)

      -- the heap is the one that is asked for
      heap-there : granted (Replace h n) h replaced_map z.heap ≡ replaced_zone.heap
      heap-there =
          ap (λ (t : HandleTable). let heap : Heap = record { table = t; map = replaced_map; free_slots = z.heap.free_slots } in heap) (sym (with_live-twice h (FullHandle no_flags (zeros n)) EmptyHandle z.heap.table))
          ∙ ap (λ (w : ZoneState). granted (Replace h n) h replaced_map w.heap) (sym opened.zone)

      attempted-there : attempted z.shape (Replace h n) z.heap ≡ Some (h, replaced_zone.heap)
      attempted-there =
          let give : Option ZoneMap → Option (ℕ × Heap) = λ o. option_map (λ (found : ℕ × ZoneMap). (found.0, granted (Replace h n) found.0 found.1 z.heap)) (option_map (gives h) o) in
          ap (λ k. give (placed_relocatable z.shape z.heap.table k (Rel h) (released h z.heap.map))) (sym size) ∙ ap give placed-there ∙ ap (λ heap. Some (h, heap)) heap-there

      module _ (last : ZoneState) (is : last ≡ replaced_zone) where
        -- the request is served
        pub replace-served : IsServed (Replace h n) z h last
        replace-served = (refl, attempted-there ∙ ap (λ (w : ZoneState). Some (h, w.heap)) (sym is), ap (λ (w : ZoneState). w.shape) is ∙ ap (λ (w : ZoneState). w.shape) opened.zone)

        -- the zone stays sound
        pub replace-sound : SoundZone z → SoundZone last
        replace-sound was = subst SoundZone (sym is) (let there : SoundZone replaced_zone = record {
          sound = subst (λ s. Sound s replaced_zone.heap) (ap (λ (w : ZoneState). w.shape) (sym opened.zone)) (sound-attempted z.shape (Replace h n) z.heap h replaced_zone.heap was.sound asked-handle attempted-there);
          fixed = loans_fixed-attempted z.shape (Replace h n) z.heap h replaced_zone.heap was.sound asked-handle asked-here was.fixed attempted-there;
        } in there)

        here-there : is_lent v.heap.table h ≡ false
        here-there = ap (λ (w : ZoneState). is_lent w.heap.table h) opened.zone ∙ asked-here

        -- what is lent stays where it is
        kept-there : KeepsLent v.shape v.heap replaced_zone.heap
        kept-there = keeps-others v.shape v.heap replaced_zone.heap h here-there (with_live_agrees h (FullHandle no_flags (zeros n)) v.heap.table) refl
            (λ y apart. addresses-untaken v.shape k (Rel h) v.heap.map replaced_map taken-there (is_named y) refl (eqb_swap h y ∙ apart))

        -- and all loans can come back
        pub replace-loans : (w : ZoneState) → KeepsLoans z w → KeepsLoans w v → KeepsLoans z last
        replace-loans w first second = subst (KeepsLoans z) (sym is) (keeps-both z v replaced_zone (keeps-both z w v first second) (keeps-loans v replaced_zone refl refl kept-there))
