-- What bytes show of a zone: its blocks are those that the bytes show, and handles, pointers and blocks find each other
-- as before.
use Rattle.std.proofs.Common.{◌≡◌, ℕ, zero, suc, ◌+◌, ◌-◌, true, false, ◌&&◌, cond, List, [], ◌∷◌, ◌++◌, length, map, Option, Some, None, refl, ap, sym, ◌∙◌, subst, arith, append_assoc}
use Rattle.std.specs.Ordering.{nat_cmp, eq_by_cmp, is_lt}
use Rattle.std.specs.FinMap.{find, is_sorted}
use Rattle.std.specs.FinMap.Entries.{below_all}
use Rattle.std.proofs.lemmas.Bool.Decides.{nat_tests}
use Rattle.mac_base.specs.declared.block.Flags.{Flags}
use Rattle.mac_base.specs.declared.block.HeadKind.{HeadKind}
use Rattle.mac_base.specs.declared.block.HeadKind.TheVariants.{Bits24, Bits32}
use Rattle.mac_base.specs.declared.block.Kind.{Kind}
use Rattle.mac_base.specs.declared.block.Kind.TheVariants as kind
use Rattle.mac_base.specs.HeadKind.{head_size, slot_count, zone_header}
use Rattle.mac_base.specs.ZoneMap.{ZoneMap, block, address_after, contents_of}
use Rattle.mac_base.specs.HandleTable.{Live, EmptyHandle, FullHandle, Pointer, live_at, live_bytes, live_flags, live_full, live_handle, live_pointer, bytes_of, flags_of, is_full, is_handle, is_pointer}
use Rattle.mac_base.specs.Suits.{slots_from}
use Rattle.mac_base.specs.ZoneState.{ZoneState}
use Rattle.raw_region.specs.Bytes.{part}
use Rattle.zone_records.specs.declared.slot.Slot.{Slot}
use Rattle.zone_records.specs.Records.{Fixed, Master, Relocatable}
use Rattle.zone_records.specs.Structure.{shown_slot, shown_slots, shown_content, shown_blocks}
use Rattle.zone_records.specs.Structure as records
use Rattle.linked_zone.specs.Fit.{Fits, HasRooms}
use Rattle.linked_zone.specs.Owned.{header_flags, next_free, slot_of_live, slot_of, owners_of, content_of, lent_of, records_from, records_of}
use Rattle.linked_zone.specs.Places.{EntryAt, BlockOf}
use Rattle.linked_zone.specs.Structure.{shown_live, shown}
use Rattle.linked_zone.proofs.ChangeEmptied.{emptied-contents}
use Rattle.linked_zone.proofs.ChangeParts.{Fits-kept}
use Rattle.linked_zone.proofs.Found.{block-full}
use Rattle.linked_zone.proofs.Lent.{loans-kept}
use Rattle.linked_zone.proofs.Located.{entry-pointer}
use Rattle.linked_zone.proofs.ReadBlocks.{IsPointerThere}
use Rattle.zone_laws.proofs.Maps.{total_size-append}

-- ---- what is live

-- what a function makes of what is live, if something is
abbrev pub if_live : (Live → Live) → Option Live → Option Live
if_live f None = None
if_live f (Some l) = Some (f l)

-- what is said of it alike in each case is said alike
pub told-alike : {A : Type 0} (told : Option Live → A) (f : Live → Live) → told (Some (f EmptyHandle)) ≡ told (Some EmptyHandle) → ((flags : Flags) (bytes : List ℕ) → told (Some (f (FullHandle flags bytes))) ≡ told (Some (FullHandle flags bytes)))
    → ((bytes : List ℕ) → told (Some (f (Pointer bytes))) ≡ told (Some (Pointer bytes))) → (o : Option Live) → told (if_live f o) ≡ told o
told-alike told f empty full pointer None = refl
told-alike told f empty full pointer (Some EmptyHandle) = empty
told-alike told f empty full pointer (Some (FullHandle flags bytes)) = full flags bytes
told-alike told f empty full pointer (Some (Pointer bytes)) = pointer bytes

-- what a function makes of all that is live
abbrev pub each_live : (ℕ → Live → Live) → List (ℕ × Live) → List (ℕ × Live)
each_live f es = map (λ e. (e.0, f e.0 e.1)) es

-- at each number is what the function makes of what was there
pub find-each : (f : ℕ → Live → Live) (x : ℕ) (es : List (ℕ × Live)) → find nat_cmp x (each_live f es) ≡ if_live (f x) (find nat_cmp x es)
find-each f x [] = refl
find-each f x (e ∷ es) = elim (eq_by_cmp nat_cmp x e.0) as (λ b. eq_by_cmp nat_cmp x e.0 ≡ b → cond b (Some (f e.0 e.1)) (find nat_cmp x (each_live f es)) ≡ if_live (f x) (cond b (Some e.1) (find nat_cmp x es))) [
  | true ↦ λ is. let same : e.0 ≡ x = grind (arith, nat_tests) in ap (λ n. Some (f n e.1)) same
  | false ↦ λ is. find-each f x es
] refl

below-each : (f : ℕ → Live → Live) (x : ℕ) (es : List (ℕ × Live)) → below_all nat_cmp x (each_live f es) ≡ below_all nat_cmp x es
below-each f x [] = refl
below-each f x (e ∷ es) = ap (λ b. is_lt (nat_cmp x e.0) && b) (below-each f x es)

-- and the numbers rise as before
pub sorted-each : (f : ℕ → Live → Live) (es : List (ℕ × Live)) → is_sorted nat_cmp (each_live f es) ≡ is_sorted nat_cmp es
sorted-each f [] = refl
sorted-each f (e ∷ es) = ap (λ b. b && is_sorted nat_cmp (each_live f es)) (below-each f e.0 es) ∙ ap (λ b. below_all nat_cmp e.0 es && b) (sorted-each f es)

module _ (z : ZoneState) (bytes : List ℕ) where
  abbrev now : ZoneState
  now = shown z bytes

  -- what bytes show at a number
  pub shown-at : (x : ℕ) → live_at (shown z bytes).heap.table x ≡ if_live (shown_live z.shape z.heap.map bytes x) (live_at z.heap.table x)
  shown-at x = find-each (shown_live z.shape z.heap.map bytes) x z.heap.table.live

  -- what has a block is the same, and so are handles and pointers
  pub shown-full : (x : ℕ) → is_full (shown z bytes).heap.table x ≡ is_full z.heap.table x
  shown-full x = ap live_full (shown-at x) ∙ told-alike live_full (shown_live z.shape z.heap.map bytes x) refl (λ flags old. refl) (λ old. refl) (live_at z.heap.table x)

  pub shown-pointer : (x : ℕ) → is_pointer (shown z bytes).heap.table x ≡ is_pointer z.heap.table x
  shown-pointer x = ap live_pointer (shown-at x) ∙ told-alike live_pointer (shown_live z.shape z.heap.map bytes x) refl (λ flags old. refl) (λ old. refl) (live_at z.heap.table x)

  pub shown-handle : (x : ℕ) → is_handle (shown z bytes).heap.table x ≡ is_handle z.heap.table x
  shown-handle x = ap live_handle (shown-at x) ∙ told-alike live_handle (shown_live z.shape z.heap.map bytes x) refl (λ flags old. refl) (λ old. refl) (live_at z.heap.table x)

  -- the zone fits as before
  pub shown-fits : Fits z → Fits (shown z bytes)
  shown-fits fits = Fits-kept z now.heap.table z.heap.map fits
      (λ g. fits.coherent.handles g ∙ ap (λ b. cond b 1 0) (sym (shown-full g)))
      (λ p. fits.coherent.pointers p ∙ ap (λ b. cond b (p ∷ []) []) (sym (shown-pointer p)))
      refl shown-handle (sorted-each (shown_live z.shape z.heap.map bytes) z.heap.table.live ∙ fits.coherent.in_order)
      (loans-kept z.heap now.heap fits.loans refl refl)

  -- ---- slots and flags

  -- a slot says what bytes show of it
  pub shown-slot : (x : ℕ) → slot_of (shown z bytes) x ≡ shown_slot z.shape.heads bytes (x - z.shape.base) (slot_of z x)
  shown-slot x = ap (λ o. slot_of_live z.shape.heads o (contents_of z.shape x z.heap.map) (next_free z.heap.free_slots x)) (shown-at x) ∙ by_case z.shape.heads (live_at z.heap.table x)
    where
      by_case : (heads : HeadKind) (o : Option Live) → slot_of_live heads (if_live (shown_live (record { heads = heads; base = z.shape.base; limit = z.shape.limit }) z.heap.map bytes x) o) (contents_of z.shape x z.heap.map) (next_free z.heap.free_slots x)
          ≡ shown_slot heads bytes (x - z.shape.base) (slot_of_live heads o (contents_of z.shape x z.heap.map) (next_free z.heap.free_slots x))
      by_case heads None = refl
      by_case heads (Some EmptyHandle) = refl
      by_case Bits24 (Some (FullHandle flags old)) = refl
      by_case Bits32 (Some (FullHandle flags old)) = refl
      by_case heads (Some (Pointer old)) = refl

  -- a block's header says the same flags
  pub shown-header : (x : ℕ) → header_flags z.shape.heads (flags_of (shown z bytes).heap.table x) ≡ header_flags z.shape.heads (flags_of z.heap.table x)
  shown-header x = ap (λ o. header_flags z.shape.heads (live_flags o)) (shown-at x) ∙ by_case z.shape.heads (live_at z.heap.table x)
    where
      by_case : (heads : HeadKind) (o : Option Live) → header_flags heads (live_flags (if_live (shown_live (record { heads = heads; base = z.shape.base; limit = z.shape.limit }) z.heap.map bytes x) o)) ≡ header_flags heads (live_flags o)
      by_case heads None = refl
      by_case heads (Some EmptyHandle) = refl
      by_case Bits24 (Some (FullHandle flags old)) = refl
      by_case Bits32 (Some (FullHandle flags old)) = refl
      by_case heads (Some (Pointer old)) = refl

  -- a handle with a block has the bytes in the block's place
  pub shown-bytes : (h : ℕ) → is_full z.heap.table h ≡ true → bytes_of (shown z bytes).heap.table h ≡ part bytes (contents_of z.shape h z.heap.map - z.shape.base) (length (bytes_of z.heap.table h))
  shown-bytes h full = ap live_bytes (shown-at h) ∙ by_case (live_at z.heap.table h) full
    where
      by_case : (o : Option Live) → live_full o ≡ true → live_bytes (if_live (shown_live z.shape z.heap.map bytes h) o) ≡ part bytes (contents_of z.shape h z.heap.map - z.shape.base) (length (live_bytes o))
      by_case None full = absurd (cc full)
      by_case (Some EmptyHandle) full = absurd (cc full)
      by_case (Some (FullHandle flags old)) full = refl
      by_case (Some (Pointer old)) full = absurd (cc full)

  -- a pointer has those that begin at its number
  pub shown-pointed : (p : ℕ) → is_pointer z.heap.table p ≡ true → bytes_of (shown z bytes).heap.table p ≡ part bytes (p - z.shape.base) (length (bytes_of z.heap.table p))
  shown-pointed p live = ap live_bytes (shown-at p) ∙ by_case (live_at z.heap.table p) live
    where
      by_case : (o : Option Live) → live_pointer o ≡ true → live_bytes (if_live (shown_live z.shape z.heap.map bytes p) o) ≡ part bytes (p - z.shape.base) (length (live_bytes o))
      by_case None live = absurd (cc live)
      by_case (Some EmptyHandle) live = absurd (cc live)
      by_case (Some (FullHandle flags old)) live = absurd (cc live)
      by_case (Some (Pointer old)) live = refl

-- ---- blocks

-- slots say what bytes show of them, the first at an address
slots-shown : (heads : HeadKind) (bytes : List ℕ) (base : ℕ) (f g : ℕ → Slot) → ((x : ℕ) → g x ≡ shown_slot heads bytes (x - base) (f x)) → (n at offset : ℕ) → at ≡ base + offset → map g (slots_from n at) ≡ shown_slots heads bytes offset (map f (slots_from n at))
slots-shown heads bytes base f g says zero at offset place = refl
slots-shown heads bytes base f g says (suc n) at offset place =
    let there : at - base ≡ offset = omega arith in
    ap (λ s. s ∷ map g (slots_from n (at + 4))) (says at ∙ ap (λ a. shown_slot heads bytes a (f at)) there)
    ∙ ap (λ ss. shown_slot heads bytes offset (f at) ∷ ss) (slots-shown heads bytes base f g says n (at + 4) (offset + 4) (omega arith))

module _ (z : ZoneState) (bytes : List ℕ) (fits : Fits z) (rooms : HasRooms z) where
  -- what is in a block is what bytes show
  content-shown : (at offset : ℕ) (e : EntryAt z at) → at + head_size z.shape.heads ≡ z.shape.base + offset
      → content_of (owners_of (shown z bytes)) (at + head_size z.shape.heads) e.here.kind ≡ shown_content z.shape.heads bytes offset (content_of (owners_of z) (at + head_size z.shape.heads) e.here.kind)
  content-shown at offset e place = by_kind e.here.kind refl
    where
      by_kind : (k : Kind) → e.here.kind ≡ k → content_of (owners_of (shown z bytes)) (at + head_size z.shape.heads) k ≡ shown_content z.shape.heads bytes offset (content_of (owners_of z) (at + head_size z.shape.heads) k)
      by_kind kind.Free is = refl
      by_kind kind.Master is = ap Master (slots-shown z.shape.heads bytes z.shape.base (slot_of z) (slot_of (shown z bytes)) (shown-slot z bytes) slot_count (at + head_size z.shape.heads) offset place)
      by_kind (kind.Ptr p) is =
          let there = subst (λ k. IsPointerThere z.heap.table (at + head_size z.shape.heads) k) is (entry-pointer z fits rooms at e) in
          let number = there.0 in
          let same : p - z.shape.base ≡ offset = omega arith in
          ap Fixed (shown-pointed z bytes p there.1 ∙ ap (λ a. part bytes a (length (bytes_of z.heap.table p))) same)
      by_kind (kind.Rel h) is =
          let full = block-full z fits at h e is in
          let b : BlockOf z h at = record { before = e.before; size = e.here.size; after = e.after; map = e.map ∙ ap (λ k. e.before ++ block k e.here.size ∷ e.after) is; place = e.place } in
          let begin = emptied-contents z h fits full at b in
          let same : contents_of z.shape h z.heap.map - z.shape.base ≡ offset = omega arith in
          ap (λ f. Relocatable h f (bytes_of (shown z bytes).heap.table h)) (shown-header z bytes h)
          ∙ ap (Relocatable h (header_flags z.shape.heads (flags_of z.heap.table h))) (shown-bytes z bytes h full ∙ ap (λ a. part bytes a (length (bytes_of z.heap.table h))) same)

  -- so are the blocks of a part of the map, the first at an offset
  blocks-shown : (before m : ZoneMap) (offset : ℕ) → z.heap.map ≡ before ++ m → z.shape.base + offset ≡ address_after z.shape before
      → records_from (owners_of (shown z bytes)) z.shape (z.shape.base + offset) m ≡ shown_blocks z.shape.heads bytes offset (records_from (owners_of z) z.shape (z.shape.base + offset) m)
  blocks-shown before [] offset is place = refl
  blocks-shown before (e ∷ es) offset is place =
      let next : (z.shape.base + offset) + e.size ≡ z.shape.base + (offset + e.size) = omega arith in
      let lower = total_size-append before (e ∷ []) in
      ap (λ c. record { size = e.size; content = c; lent = lent_of (owners_of z) e.kind } ∷ records_from (owners_of (shown z bytes)) z.shape ((z.shape.base + offset) + e.size) es)
      (content-shown (z.shape.base + offset) (offset + head_size z.shape.heads) (record { before = before; here = e; after = es; map = is; place = place }) (omega arith))
      ∙ ap (λ bs. record { size = e.size; content = shown_content z.shape.heads bytes (offset + head_size z.shape.heads) (content_of (owners_of z) (z.shape.base + offset + head_size z.shape.heads) e.kind); lent = lent_of (owners_of z) e.kind } ∷ bs)
      (ap (λ a. records_from (owners_of (shown z bytes)) z.shape a es) next
      ∙ blocks-shown (before ++ e ∷ []) es (offset + e.size) (is ∙ sym (append_assoc before (e ∷ []) es)) (omega arith)
      ∙ ap (λ a. shown_blocks z.shape.heads bytes (offset + e.size) (records_from (owners_of z) z.shape a es)) (sym next))

  -- the blocks of the zone that bytes show are those that bytes show
  pub shown-law : records_of (shown z bytes) ≡ records.shown (records_of z) bytes
  shown-law =
      let start : address_after z.shape [] ≡ z.shape.base + zone_header = omega arith in
      ap (λ bs. record (records_of z) { blocks = bs })
      (ap (λ a. records_from (owners_of (shown z bytes)) z.shape a z.heap.map) start
      ∙ blocks-shown [] z.heap.map zone_header refl (sym start)
      ∙ ap (λ a. shown_blocks z.shape.heads bytes zone_header (records_from (owners_of z) z.shape a z.heap.map)) (sym start))
