-- A zone in other bytes with its structure, for the crates above.
use Rattle.std.proofs.Common.{◌≡◌, ℕ, ◌+◌, ◌-◌, ◌≤◌, Bool, true, false, nat_le, cond, eqb, List, [], ◌∷◌, length, Option, Some, None, IfNone, IfSome, IsTrue, refl, ap, sym, ◌∙◌, subst, arith}
use Rattle.std.specs.List.{filter, list_any}
use Rattle.std.specs.Ordering.{nat_cmp}
use Rattle.std.specs.Cmp.{nat_cmp_total}
use Rattle.std.specs.declared.cmp.Ordering.TheVariants.{Equal}
use Rattle.std.specs.FinMap.{is_sorted}
use Rattle.std.specs.FinMap.Entries.{same_entries}
use Rattle.std.proofs.lemmas.Bool.{and_parts}
use Rattle.std.proofs.lemmas.Bool.Decides.{nat_tests}
use Rattle.mac_base.specs.declared.block.Entry.{Entry}
use Rattle.mac_base.specs.declared.block.Flags.{Flags}
use Rattle.mac_base.specs.declared.block.HeadKind.{HeadKind}
use Rattle.mac_base.specs.declared.block.HeadKind.TheVariants.{Bits24, Bits32}
use Rattle.mac_base.specs.declared.block.Kind.TheVariants as kind
use Rattle.mac_base.specs.HeadKind.{Shape, head_size}
use Rattle.mac_base.specs.Heap.{with_table}
use Rattle.mac_base.specs.Loans.{most_loans, owners}
use Rattle.mac_base.specs.ZoneMap.{block, total_size, address_after, contents_of}
use Rattle.mac_base.specs.HandleTable.{HandleTable, Live, EmptyHandle, FullHandle, Pointer, zeros, live_at, live_bytes, live_flags, live_full, live_pointer, bytes_of, flags_of, is_full, is_pointer, is_lent}
use Rattle.mac_base.specs.Sound.{Sound}
use Rattle.mac_base.specs.Suits.{is_block_size, has_length, has_owners_length}
use Rattle.mac_base.specs.ZoneState.{Memory, ZoneState}
use Rattle.raw_region.specs.Bytes.{part}
use Rattle.raw_region.proofs.Laws.{length-part}
use Rattle.zone_laws.proofs.Maps.{total_size-append}
use Rattle.zone_laws.proofs.SlotOwners.{rooms-suits}
use Rattle.zone_laws.proofs.Tables.{tested, by_number, live_at-with_live_same, with_live_agrees, in_order-with_live}
use Rattle.zone_records.specs.Image.{HasBytes}
use Rattle.zone_records.specs.Places.{most_over}
use Rattle.zone_records.specs.Records.{ZoneRecords}
use Rattle.zone_records.specs.Structure.{said_flags}
use Rattle.zone_records.proofs.OwnBytes.{own-records}
use Rattle.linked_zone.specs.Changes.{flagged}
use Rattle.linked_zone.specs.Fit.{Fits, HasRooms}
use Rattle.linked_zone.specs.Owned.{records_of}
use Rattle.linked_zone.specs.Places.{EntryAt}
use Rattle.linked_zone.specs.Reading.{lives_in}
use Rattle.linked_zone.specs.Sleeping.{FallsAsleep}
use Rattle.linked_zone.specs.Structure.{shown_live, shown, IsIn, HasStructure, SameFlags, blank_live, DifferInContents}
use Rattle.linked_zone.proofs.ChangeEmptied.{own_block}
use Rattle.linked_zone.proofs.EndsSaid.{part-passes}
use Rattle.linked_zone.proofs.EndsStructure.{in-to}
use Rattle.linked_zone.proofs.EndsSwapped.{length-had}
use Rattle.linked_zone.proofs.Found.{pointer-block}
use Rattle.linked_zone.proofs.ReadBack.{table-back}
use Rattle.linked_zone.proofs.Shown.{if_live, each_live, find-each, sorted-each, shown-at, shown-bytes, shown-pointed, shown-fits, shown-law}

-- ---- tables

tie : (x y : ℕ) → nat_cmp x y ≡ Equal → x ≡ y
tie x y is = grind (arith, nat_tests)

-- two tables with the same at each number are one
tables-same : (t u : HandleTable) → IsTrue (is_sorted nat_cmp t.live) → IsTrue (is_sorted nat_cmp u.live) → t.lent ≡ u.lent → ((x : ℕ) → live_at t x ≡ live_at u x) → t ≡ u
tables-same t u first second lent each =
    let live = same_entries nat_cmp nat_cmp_total tie t.live u.live (tested _ first) (tested _ second) each in
    λ i. record { live = live i; lent = lent i }

none-lent : (xs : List ℕ) (f : ℕ → Bool) → ((x : ℕ) → f x ≡ false) → filter f xs ≡ []
none-lent [] f none = refl
none-lent (x ∷ xs) f none = ap (λ b. cond b (x ∷ filter f xs) (filter f xs)) (none x) ∙ none-lent xs f none

-- bytes say the same flags, whatever was said before
said-again : (heads : HeadKind) (bytes last : List ℕ) (at : ℕ) (flags : Flags) → said_flags heads bytes at (said_flags heads last at flags) ≡ said_flags heads bytes at flags
said-again Bits24 bytes last at flags = refl
said-again Bits32 bytes last at flags = refl

-- and whatever flags a handle has that they say
said-same : (heads : HeadKind) (bytes : List ℕ) (at : ℕ) (flags old : Flags) → flags ≡ said_flags heads bytes at old → said_flags heads bytes at flags ≡ said_flags heads bytes at old
said-same Bits24 bytes at flags old is = refl
said-same Bits32 bytes at flags old is = is

-- the same bytes are those of a zone in another memory
renamed : (r : ZoneRecords) (bytes : List ℕ) (memory : Memory) → HasBytes r bytes → HasBytes (record r { memory = memory }) bytes
renamed r bytes memory is = record { layout = record is.layout { memory = memory }; form = is.form; possible = is.possible; words = is.words; same = ap (λ (r : ZoneRecords). record r { memory = memory }) is.same }

-- a block that has an owner's length has room for that many bytes
room_had : (s : Shape) (size n : ℕ) → is_block_size s size ≡ true → has_length s size n ≡ true → head_size s.heads + n ≤ size
room_had s size n possible fits =
    let parts = and_parts (is_block_size s size) _ (length-had s size n possible fits) in
    let large = (and_parts (nat_le (head_size s.heads + n) size) (nat_le size (head_size s.heads + n + most_over s.heads)) parts.1).0 in
    grind (arith, nat_tests)

module _ (z : ZoneState) (sound : Sound z.shape z.heap) (nothing_lent : z.heap.table.lent ≡ []) where
  fits : Fits z
  fits = record {
    coherent = sound.suits.coherent;
    slots = sound.slots;
    loans = record {
      in_order = nothing_lent ∙ sym (none-lent (owners z.heap.map) (is_lent z.heap.table) (λ x. ap (list_any (λ y. eqb y x)) nothing_lent));
      few = subst (λ xs. length xs ≤ most_loans) (sym nothing_lent) (omega arith);
    };
  }

  rooms : HasRooms z
  rooms = rooms-suits z.shape z.heap.table z.heap.map sound.suits

  -- ---- lengths

  -- the contents of a block end within the zone
  contents-within : (at n : ℕ) (e : EntryAt z at) → has_owners_length z.shape z.heap.table e.here ≡ has_length z.shape e.here.size n → (at + head_size z.shape.heads - z.shape.base) + n ≤ z.shape.limit
  contents-within at n e owned =
      let size = (and_parts (is_block_size z.shape e.here.size) true (part-passes (λ (e : Entry). is_block_size z.shape e.size) e.before (e.here ∷ []) e.after z.heap.map e.map sound.suits.sizes)).0 in
      let long = (and_parts (has_owners_length z.shape z.heap.table e.here) true (part-passes (has_owners_length z.shape z.heap.table) e.before (e.here ∷ []) e.after z.heap.map e.map sound.suits.lengths)).0 in
      let room = room_had z.shape e.here.size n size (sym owned ∙ long) in
      let total = ap total_size e.map ∙ total_size-append e.before (e.here ∷ e.after) in
      let place = e.place in
      let within = sound.within in
      omega arith

  -- what bytes show has the lengths that it had
  lengths-shown : (bytes : List ℕ) → length bytes ≡ z.shape.limit → (x : ℕ) → length (bytes_of (shown z bytes).heap.table x) ≡ length (bytes_of z.heap.table x)
  lengths-shown bytes all x = by_test (is_full z.heap.table x) refl
    where
      other : (o : Option Live) → live_full o ≡ false → live_pointer o ≡ false → length (live_bytes (if_live (shown_live z.shape z.heap.map bytes x) o)) ≡ length (live_bytes o)
      other None empty apart = refl
      other (Some EmptyHandle) empty apart = refl
      other (Some (FullHandle flags old)) empty apart = absurd (cc empty)
      other (Some (Pointer old)) empty apart = absurd (cc apart)

      by_pointer : (b : Bool) → is_full z.heap.table x ≡ false → is_pointer z.heap.table x ≡ b → length (bytes_of (shown z bytes).heap.table x) ≡ length (bytes_of z.heap.table x)
      by_pointer true empty live =
          let own = pointer-block z fits rooms x live in
          let number = own.number in
          let within = contents-within own.at (length (bytes_of z.heap.table x)) own.entry (ap (λ k. has_owners_length z.shape z.heap.table (block k own.entry.here.size)) own.kind) in
          ap length (shown-pointed z bytes x live) ∙ length-part bytes (x - z.shape.base) (length (bytes_of z.heap.table x)) (omega arith)
      by_pointer false empty apart = ap (λ o. length (live_bytes o)) (shown-at z bytes x) ∙ other (live_at z.heap.table x) empty apart

      by_test : (b : Bool) → is_full z.heap.table x ≡ b → length (bytes_of (shown z bytes).heap.table x) ≡ length (bytes_of z.heap.table x)
      by_test true full =
          let own = own_block z x fits full in
          let b = own.block in
          let begin = own.contents in
          let within = contents-within own.at (length (bytes_of z.heap.table x)) (record { before = b.before; here = block (kind.Rel x) b.size; after = b.after; map = b.map; place = b.place }) refl in
          ap length (shown-bytes z bytes x full) ∙ length-part bytes (contents_of z.shape x z.heap.map - z.shape.base) (length (bytes_of z.heap.table x)) (omega arith)
      by_test false empty = by_pointer (is_pointer z.heap.table x) empty refl

  -- ---- a zone's own bytes

  -- the bytes that a zone is in show it
  pub own-shown : (bytes : List ℕ) → IsIn z bytes → shown z bytes ≡ z
  own-shown bytes is =
      let now = shown z bytes in
      let start = address_after z.shape [] in
      let same : records_of now ≡ records_of z = shown-law z bytes fits rooms ∙ own-records (records_of z) bytes (in-to z bytes is) in
      let live : now.heap.table.live ≡ z.heap.table.live = sym (table-back now (shown-fits z bytes fits) rooms) ∙ ap (λ (r : ZoneRecords). lives_in z.shape r.blocks start r.blocks) same ∙ table-back z fits rooms in
      λ i. record { memory = z.memory; shape = z.shape; heap = record { table = record { live = live i; lent = z.heap.table.lent }; map = z.heap.map; free_slots = z.heap.free_slots } }

  -- so they have its structure
  pub own-structure : (bytes : List ℕ) → IsIn z bytes → HasStructure z bytes
  own-structure bytes is = subst (λ z. IsIn z bytes) (sym (own-shown bytes is)) is

  -- and its flags
  pub own-flags : (bytes : List ℕ) → IsIn z bytes → SameFlags z bytes
  own-flags bytes is x = ap (λ (z : ZoneState). flags_of z.heap.table x) (own-shown bytes is)

  -- ---- the zone in other bytes

  -- a zone that is shown in other memory, with the same flags, differs in contents alone
  pub differ : (bytes : List ℕ) (memory : Memory) → HasStructure z bytes → SameFlags z bytes → DifferInContents z (record (shown z bytes) { memory = memory })
  differ bytes memory has same = record {
    shape = refl;
    heap = ap (λ t. with_table t z.heap) (tables-same
        (record z.heap.table { live = each_live (λ x. blank_live) z.heap.table.live }) (record now.heap.table { live = each_live (λ x. blank_live) now.heap.table.live })
        (sorted-each (λ x. blank_live) z.heap.table.live ∙ fits.coherent.in_order) (sorted-each (λ x. blank_live) now.heap.table.live ∙ (shown-fits z bytes fits).coherent.in_order) refl
        (λ x. find-each (λ x. blank_live) x z.heap.table.live
        ∙ blank x (live_at z.heap.table x) (sym (ap live_flags (shown-at z bytes x)) ∙ same x) (sym (ap (λ o. length (live_bytes o)) (shown-at z bytes x)) ∙ lengths-shown bytes has.all x)
        ∙ sym (find-each (λ x. blank_live) x now.heap.table.live ∙ ap (if_live blank_live) (shown-at z bytes x))));
  }
    where
      now : ZoneState
      now = shown z bytes

      blank : (x : ℕ) (o : Option Live) → live_flags (if_live (shown_live z.shape z.heap.map bytes x) o) ≡ live_flags o → length (live_bytes (if_live (shown_live z.shape z.heap.map bytes x) o)) ≡ length (live_bytes o)
          → if_live blank_live o ≡ if_live blank_live (if_live (shown_live z.shape z.heap.map bytes x) o)
      blank x None flags long = refl
      blank x (Some EmptyHandle) flags long = refl
      blank x (Some (FullHandle g old)) flags long = ap (λ f. Some (FullHandle f (zeros (length old)))) (sym flags) ∙ ap (λ n. Some (FullHandle (said_flags z.shape.heads bytes (x - z.shape.base) g) (zeros n))) (sym long)
      blank x (Some (Pointer old)) flags long = ap (λ n. Some (Pointer (zeros n))) (sym long)

  -- so does one that fell asleep
  pub differ-asleep : (w : ZoneState) → FallsAsleep z w → DifferInContents z w
  differ-asleep w falls = subst (DifferInContents z) (sym falls.zone) (differ falls.bytes w.memory falls.structure falls.flags)

  -- and one that was to fall asleep
  pub differ-slept : {R : Type 0} (result : Option R) (w : ZoneState) → IfSome result (λ region. FallsAsleep z w) → IfNone result ((z.memory.kept ≡ None) × (w ≡ z)) → DifferInContents z w
  differ-slept None w falls stays = subst (DifferInContents z) (sym stays.1) (record { shape = refl; heap = refl })
  differ-slept (Some region) w falls stays = differ-asleep w falls

  -- other bytes show the same of it as of the zone before
  shown-again : (last bytes : List ℕ) (memory : Memory) → length last ≡ z.shape.limit → shown (record (shown z last) { memory = memory }) bytes ≡ record (shown z bytes) { memory = memory }
  shown-again last bytes memory all =
      let shows : (x : ℕ) → live_at (shown (shown z last) bytes).heap.table x ≡ live_at (shown z bytes).heap.table x = λ x. shown-at (shown z last) bytes x ∙ ap (if_live (shown_live z.shape z.heap.map bytes x)) (shown-at z last x)
      ∙ again x (live_at z.heap.table x) (sym (ap (λ o. length (live_bytes o)) (shown-at z last x)) ∙ lengths-shown last all x) ∙ sym (shown-at z bytes x) in
      ap (λ t. record { memory = memory; shape = z.shape; heap = with_table t z.heap })
      (tables-same (shown (shown z last) bytes).heap.table (shown z bytes).heap.table
      (sorted-each (shown_live z.shape z.heap.map bytes) (shown z last).heap.table.live ∙ (shown-fits z last fits).coherent.in_order) (shown-fits z bytes fits).coherent.in_order refl shows)
    where
      again : (x : ℕ) (o : Option Live) → length (live_bytes (if_live (shown_live z.shape z.heap.map last x) o)) ≡ length (live_bytes o)
          → if_live (shown_live z.shape z.heap.map bytes x) (if_live (shown_live z.shape z.heap.map last x) o) ≡ if_live (shown_live z.shape z.heap.map bytes x) o
      again x None long = refl
      again x (Some EmptyHandle) long = refl
      again x (Some (FullHandle flags old)) long =
          ap (λ f. Some (FullHandle f (part bytes (contents_of z.shape x z.heap.map - z.shape.base) (length (part last (contents_of z.shape x z.heap.map - z.shape.base) (length old)))))) (said-again z.shape.heads bytes last (x - z.shape.base) flags)
          ∙ ap (λ n. Some (FullHandle (said_flags z.shape.heads bytes (x - z.shape.base) flags) (part bytes (contents_of z.shape x z.heap.map - z.shape.base) n))) long
      again x (Some (Pointer old)) long = ap (λ n. Some (Pointer (part bytes (x - z.shape.base) n))) long

  -- so the bytes that the zone was in show the zone
  pub kept-shown : (kept bytes : List ℕ) (memory : Memory) → IsIn z kept → HasStructure z bytes → shown (record (shown z bytes) { memory = memory }) kept ≡ record z { memory = memory }
  kept-shown kept bytes memory is has = shown-again bytes kept memory has.all ∙ ap (λ (z : ZoneState). record z { memory = memory }) (own-shown kept is)

  -- they have its structure
  pub kept-structure : (kept bytes : List ℕ) (memory : Memory) → IsIn z kept → HasStructure z bytes → HasStructure (record (shown z bytes) { memory = memory }) kept
  kept-structure kept bytes memory is has = subst (λ z. IsIn z kept) (sym (kept-shown kept bytes memory is has)) (record { all = is.all; image = renamed (records_of z) _ memory is.image })

  -- bytes show the same of a zone in which a handle has the flags that they say
  pub flagged-shown : (h : ℕ) (flags : Flags) (bytes : List ℕ) → IsTrue (is_full z.heap.table h) → flags ≡ flags_of (shown z bytes).heap.table h → shown (flagged h flags z) bytes ≡ shown z bytes
  flagged-shown h flags bytes full said =
      let shows : (x : ℕ) → live_at (shown (flagged h flags z) bytes).heap.table x ≡ live_at (shown z bytes).heap.table x = λ x. find-each f x new.live ∙ by_number (λ x. if_live (f x) (live_at new x) ≡ if_live (f x) (live_at z.heap.table x)) h
      (ap (if_live (f h)) (live_at-with_live_same h l z.heap.table) ∙ here (live_at z.heap.table h) full (said ∙ ap live_flags (shown-at z bytes h)))
      (λ y apart. ap (if_live (f y)) ((with_live_agrees h l z.heap.table).others y apart)) x ∙ sym (shown-at z bytes x) in
      ap (λ t. record { memory = z.memory; shape = z.shape; heap = with_table t z.heap })
      (tables-same (shown (flagged h flags z) bytes).heap.table (shown z bytes).heap.table
      (sorted-each f new.live ∙ in_order-with_live h l z.heap.table fits.coherent.in_order) (shown-fits z bytes fits).coherent.in_order refl shows)
    where
      f : ℕ → Live → Live
      f = shown_live z.shape z.heap.map bytes

      l : Live
      l = FullHandle flags (bytes_of z.heap.table h)

      new : HandleTable
      new = (flagged h flags z).heap.table

      here : (o : Option Live) → live_full o ≡ true → flags ≡ live_flags (if_live (f h) o) → Some (f h (FullHandle flags (live_bytes o))) ≡ if_live (f h) o
      here None full said = absurd (cc full)
      here (Some EmptyHandle) full said = absurd (cc full)
      here (Some (FullHandle old contents)) full said = ap (λ g. Some (FullHandle g (part bytes (contents_of z.shape h z.heap.map - z.shape.base) (length contents)))) (said-same z.shape.heads bytes (h - z.shape.base) flags old said)
      here (Some (Pointer bytes)) full said = absurd (cc full)
