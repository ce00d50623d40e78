-- Reading gives back the zone whose blocks are read.
use Rattle.std.proofs.Common.{◌≡◌, ◌≢◌, ℕ, ◌+◌, ◌≤◌, ◌<◌, Bool, true, false, ◌||◌, cond, List, [], ◌∷◌, length, map, Option, Some, None, refl, ap, sym, ◌∙◌, subst, arith, Contains, inl, inr}
use Rattle.std.specs.Ordering.{nat_cmp}
use Rattle.std.specs.FinMap.{find}
use Rattle.std.proofs.lemmas.List.{length-map}
use Rattle.std.proofs.lemmas.Bool.{false_from_ne_true}
use Rattle.mac_base.specs.declared.block.Flags.{Flags}
use Rattle.mac_base.specs.declared.block.HeadKind.{HeadKind}
use Rattle.mac_base.specs.declared.block.HeadKind.TheVariants.{Bits24, Bits32}
use Rattle.mac_base.specs.HeadKind.{head_size, slot_count}
use Rattle.mac_base.specs.ZoneMap.{addresses, address_after, contents_of}
use Rattle.mac_base.specs.HandleTable.{Live, EmptyHandle, FullHandle, Pointer, live_at, live_bytes, live_flags, live_full, live_handle, live_pointer, is_handle, is_pointer}
use Rattle.mac_base.specs.Suits.{is_handle_block, is_pointer_block, slots}
use Rattle.mac_base.specs.ZoneState.{ZoneState}
use Rattle.zone_laws.proofs.Tables.{not_live}
use Rattle.zone_laws.proofs.SlotOwners.{pointer_not_master, address_from_contents}
use Rattle.zone_laws.proofs.SlotPlaces.{Contains-none, Contains-cons_cases, slots_at-above, slot_no_contents}
use Rattle.zone_records.specs.Records.{BlockRecord}
use Rattle.linked_zone.specs.Owned.{slot_flags, header_flags, next_free, slot_of_live, slot_of, owners_of, records_of}
use Rattle.linked_zone.specs.Reading.{either_flags, live_in, lives_in, state_in}
use Rattle.zone_records.specs.Slots.{next_said, all_slots, chain}
use Rattle.linked_zone.specs.Fit.{Fits, HasRooms}
use Rattle.linked_zone.proofs.Numbered.{Contains-mapped}
use Rattle.linked_zone.proofs.ReadNumbers.{numbers, rising-numbers, slot-numbers, pointer-numbers, entry_of, entries-read}
use Rattle.linked_zone.proofs.ReadFree.{length-among, next-named, chain-all}
use Rattle.linked_zone.proofs.ReadBlocks.{full_entry, pointers-there, ArePointersThere, map-back, lents-back, slots-back, lives-there-back, lives-back}

-- flags in one of the two places are read
flags-back : (heads : HeadKind) (flags : Flags) → either_flags (slot_flags heads flags) (header_flags heads flags) ≡ flags
flags-back Bits24 flags = λ i. record { lock = or_false flags.lock i; purge = or_false flags.purge i; resource = or_false flags.resource i }
  where
    or_false : (b : Bool) → (b || false) ≡ b
    or_false true = refl
    or_false false = refl
flags-back Bits32 flags = refl

-- one element maps to one
one_mapped : (e : ℕ × Live) (xs : List ℕ) → length xs ≡ 1 → map (λ a. e) xs ≡ e ∷ []
one_mapped e [] h = absurd (cc h)
one_mapped e (x ∷ []) h = refl
one_mapped e (x ∷ y ∷ xs) h = absurd (omega (arith, h))

-- a number among those of a test is the one that is there where it passes
only_number : (b : Bool) (p a : ℕ) → Contains (cond b (p ∷ []) []) a → (p ≡ a) × (b ≡ true)
only_number false p a c = absurd (Contains-none a c)
only_number true p a c = elim (Contains-cons_cases p [] a c) [ inl is ↦ (is, refl) | inr none ↦ absurd (Contains-none a none) ]

-- what is live is a handle or a pointer
handle_or_pointer : (o : Option Live) (l : Live) → o ≡ Some l → live_handle o ≡ false → live_pointer o ≡ true
handle_or_pointer None l is other = absurd (cc is)
handle_or_pointer (Some EmptyHandle) l is other = absurd (cc other)
handle_or_pointer (Some (FullHandle flags bytes)) l is other = absurd (cc other)
handle_or_pointer (Some (Pointer bytes)) l is other = refl

module _ (z : ZoneState) (fits : Fits z) (rooms : HasRooms z) where
  abbrev start : ℕ
  start = address_after z.shape []

  abbrev head : ℕ
  head = head_size z.shape.heads

  abbrev blocks : List BlockRecord
  blocks = (records_of z).blocks

  -- the place of a live pointer's block
  pub pointer_place : (p : ℕ) → is_pointer z.heap.table p ≡ true → (a : ℕ) × Contains (addresses z.shape (is_pointer_block p) z.heap.map) a × (a + head ≡ p)
  pointer_place p live = address_from_contents (λ a. a + head) (addresses z.shape (is_pointer_block p) z.heap.map) p (fits.coherent.pointers p ∙ ap (λ b. cond b (p ∷ []) []) live)

  -- no slot is a pointer
  pub slot_no_pointer : (x : ℕ) → Contains (slots z.shape z.heap.map) x → is_pointer z.heap.table x ≡ false
  slot_no_pointer x c = false_from_ne_true (is_pointer z.heap.table x) (λ live.
      let there = pointer_place x live in
      slot_no_contents head slot_count start (is_pointer_block x) (pointer_not_master x) z.heap.map there.0 rooms there.1
      (subst (λ a. Contains (slots z.shape z.heap.map) a) (sym there.2) c))

  -- each pointer's block is where its number says
  pub all-pointers : ArePointersThere z.heap.table head start z.heap.map
  all-pointers = pointers-there z.heap.table head start z.heap.map (λ p a c.
      only_number (is_pointer z.heap.table p) p (a + head) (subst (λ xs. Contains xs (a + head)) (fits.coherent.pointers p) (Contains-mapped (λ a. a + head) (addresses z.shape (is_pointer_block p) z.heap.map) a c)))

  -- a slot says what the table has there
  pub slot-says : (x : ℕ) → Contains (slots z.shape z.heap.map) x → live_in blocks (x, slot_of z x) ≡ entry_of x (live_at z.heap.table x)
  slot-says x c = by_case (live_at z.heap.table x) refl (slot_no_pointer x c)
    where
      by_case : (o : Option Live) → live_at z.heap.table x ≡ o → live_pointer o ≡ false → live_in blocks (x, slot_of_live z.shape.heads o (contents_of z.shape x z.heap.map) (next_free z.heap.free_slots x)) ≡ entry_of x o
      by_case None is other = refl
      by_case (Some EmptyHandle) is other = refl
      by_case (Some (FullHandle flags bytes)) is other =
          lives-there-back (owners_of z) z.shape x (slot_flags z.shape.heads flags) start z.heap.map
          ∙ one_mapped (full_entry (owners_of z) x (slot_flags z.shape.heads flags)) (addresses z.shape (is_handle_block x) z.heap.map) (fits.coherent.handles x ∙ ap (λ o. cond (live_full o) 1 0) is)
          ∙ ap (λ o. (x, FullHandle (either_flags (slot_flags z.shape.heads flags) (header_flags z.shape.heads (live_flags o))) (live_bytes o)) ∷ []) is
          ∙ ap (λ f. (x, FullHandle f bytes) ∷ []) (flags-back z.shape.heads flags)
      by_case (Some (Pointer bytes)) is other = absurd (cc other)

  -- all that is live has one of the blocks' numbers
  live_number : (x : ℕ) (l : Live) → find nat_cmp x z.heap.table.live ≡ Some l → Contains (numbers head slot_count start z.heap.map) x
  live_number x l found = by_test (is_handle z.heap.table x) refl
    where
      by_test : (b : Bool) → is_handle z.heap.table x ≡ b → Contains (numbers head slot_count start z.heap.map) x
      by_test true handle = slot-numbers head slot_count start z.heap.map x (fits.coherent.in_slots x handle)
      by_test false other =
          let there = pointer_place x (handle_or_pointer (live_at z.heap.table x) l found other) in
          subst (Contains (numbers head slot_count start z.heap.map)) there.2 (pointer-numbers head slot_count start x z.heap.map there.0 there.1)

  -- the table is read off
  pub table-back : lives_in z.shape blocks start blocks ≡ z.heap.table.live
  table-back =
      lives-back (owners_of z) z.shape z.heap.table blocks start z.heap.map (λ p. refl) all-pointers slot-says
      ∙ entries-read 0 (numbers head slot_count start z.heap.map) z.heap.table.live (live_at z.heap.table) (rising-numbers head slot_count start 0 z.heap.map (omega arith) rooms) fits.coherent.in_order (λ x c. refl) live_number

  -- a free slot isn't 0, and says the next
  free-says : 0 < z.shape.base → (x : ℕ) → Contains z.heap.free_slots x → (x ≢ 0) × (next_said (slot_of z x) ≡ next_free z.heap.free_slots x)
  free-says low x c =
      let both = (fits.slots.free x).0 c in
      let above = slots_at-above head slot_count start z.heap.map x rooms both.0 in
      let dead : live_at z.heap.table x ≡ None = not_live z.heap.table x both.1 (slot_no_pointer x both.0) in
      (omega arith, ap (λ o. next_said (slot_of_live z.shape.heads o (contents_of z.shape x z.heap.map) (next_free z.heap.free_slots x))) dead)

  -- the free slots are read off
  free-back : 0 < z.shape.base → let all = all_slots z.shape start blocks in chain (length all) all (records_of z).front ≡ z.heap.free_slots
  free-back low =
      let all = map (λ a. (a, slot_of z a)) (slots z.shape z.heap.map) in
      let few = length-among z.heap.free_slots (slots z.shape z.heap.map) fits.slots.once (λ x c. ((fits.slots.free x).0 c).0) in
      let many : length all ≡ length (slots z.shape z.heap.map) = length-map (slots z.shape z.heap.map) (λ a. (a, slot_of z a)) in
      ap (λ all. chain (length all) all (records_of z).front) (slots-back (owners_of z) z.shape start z.heap.map)
      ∙ chain-all (length all) all z.heap.free_slots fits.slots.once (omega arith)
      (λ x c. let says = free-says low x c in (says.0, next-named (slot_of z) (slots z.shape z.heap.map) x ((fits.slots.free x).0 c).0 ∙ says.1))

-- reading gives back what blocks were written for
pub read_back : (z : ZoneState) → Fits z → HasRooms z → 0x1000 ≤ z.shape.base → state_in (records_of z) ≡ z
read_back z fits rooms low =
    let table = table-back z fits rooms in
    let map = map-back (owners_of z) z.shape z.heap.table (address_after z.shape []) z.heap.map (all-pointers z fits rooms) in
    let lent = lents-back (owners_of z) z.shape z.heap.table (address_after z.shape []) z.heap.map (all-pointers z fits rooms) ∙ sym fits.loans.in_order in
    let free = free-back z fits rooms (omega arith) in
    λ i. record { memory = z.memory; shape = z.shape; heap = record { table = record { live = table i; lent = lent i }; map = map i; free_slots = free i } }
