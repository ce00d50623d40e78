-- How a zone comes to have the flags that bytes say, handle by handle, and how it falls asleep.
use Rattle.std.proofs.Common.{◌≡◌, ℕ, ◌<◌, ◌≤◌, true, false, eqb, List, [], ◌∷◌, take, length, Option, Some, None, IfSome, inl, inr, refl, ap, sym, ◌∙◌, subst, arith}
use Rattle.std.specs.Prelude.{Bool, not, ◌||◌, ◌==◌}
use Rattle.std.specs.List.{list_any}
use Rattle.std.proofs.lemmas.Bool.{cases_lt, false≢true, false_from_ne_true}
use Rattle.std.proofs.lemmas.List.{take_all}
use Rattle.mac_base.specs.declared.block.Flags.{Flags}
use Rattle.mac_base.specs.declared.block.HeadKind.{HeadKind}
use Rattle.mac_base.specs.declared.block.HeadKind.TheVariants.{Bits24, Bits32}
use Rattle.mac_base.specs.HandleTable.{Live, EmptyHandle, FullHandle, Pointer, bytes_of, flags_of, is_full, is_handle, is_lent, live_at, live_flags, live_handle, with_flags}
use Rattle.mac_base.specs.HeadKind.{head_size, slot_count}
use Rattle.mac_base.specs.Heap.{with_table}
use Rattle.mac_base.specs.Sound.{Sound}
use Rattle.mac_base.specs.ZoneMap.{address_after}
use Rattle.mac_base.specs.ZoneState.{ZoneState}
use Rattle.raw_region.specs.Bytes.{part, written}
use Rattle.raw_region.specs.State.{State as Region}
use Rattle.zone_laws.proofs.SlotOwners.{rooms-suits}
use Rattle.zone_laws.proofs.SlotPlaces.{slots_at-above}
use Rattle.zone_laws.proofs.Tables.{by_number, eqb_same, live_at-with_live_same, with_live_agrees}
use Rattle.linked_zone.specs.Changes.{flagged}
use Rattle.linked_zone.specs.Sleeping.{FallsAsleep}
use Rattle.linked_zone.specs.Structure.{DifferInContents, FirstChanged, HasStructure, IsIn, NoneChanged, SameFlags, shown, shown_live}
use Rattle.linked_zone.proofs.Shown.{if_live, shown-at}
use Rattle.linked_zone.proofs.Structured.{differ-asleep, flagged-shown, kept-shown, kept-structure}
use Rattle.mem_calls.specs.Waking.{HasFlagsTo, TakesFlags}

-- ---- bytes that are read or written whole

pub part-all : (bytes : List ℕ) (n : ℕ) → n ≡ length bytes → part bytes 0 n ≡ bytes
part-all bytes n all = take_all n bytes (omega arith)

over-all : (old new : List ℕ) → length new ≡ length old → written old 0 new ≡ new
over-all [] [] long = refl
over-all [] (n ∷ new) long = absurd (omega arith)
over-all (b ∷ old) [] long = absurd (omega arith)
over-all (b ∷ old) (n ∷ new) long = ap (λ bs. n ∷ bs) (over-all old new (omega arith))

pub written-all : (old new : List ℕ) (n : ℕ) → n ≡ length old → length new ≡ length old → written old 0 (take n new) ≡ new
written-all old new n all long = ap (written old 0) (take_all n new (omega arith)) ∙ over-all old new long

-- ---- flags

-- no handle is as low as the first block
no_handle-low : (z : ZoneState) (x : ℕ) → Sound z.shape z.heap → x ≤ address_after z.shape [] → is_handle z.heap.table x ≡ false
no_handle-low z x sound low = false_from_ne_true (is_handle z.heap.table x) (λ live.
    let above = slots_at-above (head_size z.shape.heads) slot_count (address_after z.shape []) z.heap.map x (rooms-suits z.shape z.heap.table z.heap.map sound.suits) (sound.suits.coherent.in_slots x live) in
    let head = head_size_some z.shape.heads in
    absurd (omega arith))
  where
    head_size_some : (heads : HeadKind) → 0 < head_size heads
    head_size_some Bits24 = omega arith
    head_size_some Bits32 = omega arith

-- bytes say no flags of what is no handle
none-said : (z : ZoneState) (bytes : List ℕ) (x : ℕ) → is_handle z.heap.table x ≡ false → flags_of (shown z bytes).heap.table x ≡ flags_of z.heap.table x
none-said z bytes x none = ap live_flags (shown-at z bytes x) ∙ by_case (live_at z.heap.table x) none
  where
    by_case : (o : Option Live) → live_handle o ≡ false → live_flags (if_live (shown_live z.shape z.heap.map bytes x) o) ≡ live_flags o
    by_case None none = refl
    by_case (Some EmptyHandle) none = refl
    by_case (Some (FullHandle flags old)) none = absurd (cc none)
    by_case (Some (Pointer old)) none = refl

-- at first it has those of the handles up to the first block
pub flags-begin : (z : ZoneState) (bytes : List ℕ) (from : ℕ) → Sound z.shape z.heap → from ≡ address_after z.shape [] → HasFlagsTo z bytes from z
flags-begin z bytes from sound first = record {
  flags = λ x low. none-said z bytes x (no_handle-low z x sound (omega arith));
  others = refl;
}

module _ (old z now : ZoneState) (bytes : List ℕ) (from : ℕ) (has : HasFlagsTo old bytes from z) (is : now ≡ z) where
  -- at last it has all
  pub flags-end : Sound z.shape z.heap → NoneChanged now bytes from → TakesFlags old bytes z
  flags-end sound none = record {
    flags = λ x. elim (cases_lt x from) [
      | inl below ↦ has.flags x (omega arith)
      | inr above ↦ subst (λ z. NoneChanged z bytes from) is none x above
    ];
    others = has.others;
    sound = sound;
  }

  module _ {h : ℕ} {flags : Flags} (first : FirstChanged now bytes from h flags) where
    found : FirstChanged z bytes from h flags
    found = subst (λ z. FirstChanged z bytes from h flags) is first

    -- the next handle with others has a block, and isn't lent
    pub next-full : is_full z.heap.table h ≡ true
    next-full = found.full

    pub next-here : z.heap.table.lent ≡ [] → (flags.lock || not (is_lent z.heap.table h)) ≡ true
    next-here none = ap (λ xs. flags.lock || not (list_any (λ y. y == h) xs)) none ∙ or_true flags.lock
      where
        or_true : (b : Bool) → (b || true) ≡ true
        or_true true = refl
        or_true false = refl

    -- it is further on
    pub next-further : from < h
    next-further = elim (cases_lt from h) [
      | inl above ↦ above
      | inr low ↦ absurd (found.differ (found.said ∙ has.flags h low))
    ]

    -- and once its flags are set the zone has those up to that
    pub flags-next : (w : ZoneState) (n : ℕ) → n ≡ h → Sound z.shape z.heap → z.heap.table.lent ≡ [] → w.heap ≡ with_table (with_flags h flags z.heap.table) z.heap → w.shape ≡ z.shape → w.memory ≡ z.memory → HasFlagsTo old bytes n w
    flags-next w n there sound none heap shape memory =
        let set : w ≡ flagged h flags z = λ i. record { memory = memory i; shape = shape i; heap = heap i } in
        let same : shown (flagged h flags z) bytes ≡ shown z bytes = flagged-shown z sound none h flags bytes found.full found.said in
        let l : Live = FullHandle flags (bytes_of z.heap.table h) in
        subst (λ n. HasFlagsTo old bytes n w) (sym there) (subst (HasFlagsTo old bytes h) (sym set) (record {
          flags = λ x low. ap (λ (z : ZoneState). flags_of z.heap.table x) same ∙ by_number (λ x. x ≤ h → flags_of (shown z bytes).heap.table x ≡ flags_of (flagged h flags z).heap.table x) h
              (λ _. sym found.said ∙ sym (ap live_flags (live_at-with_live_same h l z.heap.table)))
              (λ x apart low. elim (cases_lt x from) [
                | inl below ↦ has.flags x (omega arith)
                | inr above ↦ found.first x above (below-other x apart low)
              ] ∙ sym (ap live_flags ((with_live_agrees h l z.heap.table).others x apart))) x low;
          others = same ∙ has.others;
        }))
      where
        below-other : (x : ℕ) → eqb x h ≡ false → x ≤ h → x < h
        below-other x apart low = elim (cases_lt x h) [
          | inl below ↦ below
          | inr above ↦ let one : x ≡ h = omega arith in absurd (false≢true (sym apart ∙ (ap (λ x. eqb x h) one ∙ eqb_same h)))
        ]

-- ---- asleep

-- a zone that sleeps differs in contents alone, and in the bytes that it was in it wakes as it was
pub record Sleeps (z w : ZoneState) (last : List ℕ) : Type 0 where
  pub kept : z.memory.kept ≡ Some w.memory.region
  pub asleep : DifferInContents z w
  pub own : w.memory.kept ≡ None
  pub wakes : HasStructure w last
  pub as_before : shown w last ≡ record z { memory = w.memory }

pub sleeps : (result : Option Region) (z w : ZoneState) → Sound z.shape z.heap → z.heap.table.lent ≡ [] → IfSome result (λ region. FallsAsleep z w) → IfSome result (λ region. IsIn z region.bytes) → IfSome result (λ region. Sleeps z w region.bytes)
sleeps None z w sound none falls was = tt
sleeps (Some region) z w sound none falls was = record {
  kept = falls.kept;
  asleep = differ-asleep z sound none w falls;
  own = falls.own;
  wakes = subst (λ w. HasStructure w region.bytes) (sym falls.zone) (kept-structure z sound none region.bytes falls.bytes w.memory was falls.structure);
  as_before = ap (λ w. shown w region.bytes) falls.zone ∙ kept-shown z sound none region.bytes falls.bytes w.memory was falls.structure;
}
