-- How a zone comes to have the flags that its guest set, number by number.
use Rattle.std.proofs.Common.{◌≡◌, ◌∙◌, ℕ, ◌+◌, ◌-◌, ◌%◌, ◌<◌, ◌≤◌, Bool, true, false, ◌||◌, ◌==◌, cond, List, [], ◌∷◌, Option, Some, None, Ok, Err, inl, inr, refl, sym, ap, subst, arith, Contains, Result}
use Rattle.core.specs.Result.{is_err}
use Rattle.std.specs.Prelude.{find, slice_index, not, option_map, nat_le, unwrap_or}
use Rattle.std.specs.List.{list_all}
use Rattle.std.specs.List.{list_any}
use Rattle.std.specs.Option.{option_or}
use Rattle.std.proofs.lemmas.Bool.{and_parts, cases_lt, false≢true, eqb-true, false_from_ne_true}
use Rattle.std.proofs.lemmas.Bool.Decides.{nat_tests}
use Rattle.mac_base.specs.declared.block.Block.{Block}
use Rattle.mac_base.specs.declared.block.Entry.{Entry}
use Rattle.mac_base.specs.declared.block.Flags.{Flags}
use Rattle.mac_base.specs.BlockReport.{block_flags, reports_from}
use Rattle.mac_base.specs.declared.block.HeadKind.TheVariants.{Bits24}
use Rattle.mac_base.specs.declared.error.OsErr.{OsErr}
use Rattle.mac_base.specs.declared.error.OsErr.TheVariants.{MemLockedErr, MemWzErr, NilHandleErr, ParamErr}
use Rattle.mac_base.specs.declared.memory_call.MemoryCall.TheVariants.{OnBlock}
use Rattle.mac_base.specs.declared.memory_call.BlockCall.TheVariants.{HSetState}
use Rattle.mac_base.specs.ExactStep.{IsExactStep, StepEnd, step_unless}
use Rattle.mac_base.specs.FlagState.{flags_from, state_locks}
use Rattle.mac_base.specs.HandleTable.{HandleTable, Live, EmptyHandle, FullHandle, Pointer, bytes_of, flags_of, is_full, is_handle, is_lent, is_pointer, live_at, live_bytes, live_flags, live_full, live_handle, with_flags}
use Rattle.mac_base.specs.HeadKind.{Shape, head_size, slot_count, zone_header}
use Rattle.mac_base.specs.Heap.{Heap, with_table}
use Rattle.mac_base.specs.declared.reply.Results.TheVariants.{Nothing}
use Rattle.mac_base.specs.Outcomes.{done_outcome}
use Rattle.mac_base.specs.Sound.{Sound}
use Rattle.mac_base.specs.Suits.{slots, wanted_length}
use Rattle.mac_base.specs.Tests.{refusal, unless_passed}
use Rattle.mac_base.specs.ZoneMap.{ZoneMap, address_after, contents_of, is_master, total_size}
use Rattle.mac_base.specs.ZoneState.{ZoneState}
use Rattle.zone_laws.proofs.SlotBounds.{slots_at-below}
use Rattle.zone_laws.proofs.SlotOwners.{rooms-suits}
use Rattle.zone_laws.proofs.SlotPlaces.{has_room, slot_cases, slots_at, slots_at-above}
use Rattle.zone_laws.proofs.SuitsNil.{nil-no_handle}
use Rattle.zone_laws.proofs.Tables.{eqb_same, live_at-with_live_same, with_live_agrees}
use Rattle.byteorder.specs.Endian.{big_number}
use Rattle.raw_region.specs.Bytes.{part}
use Rattle.zone_records.specs.Structure.{said_flags}
use Rattle.linked_zone.specs.Parts.{IsHolder}
use Rattle.held_zone.specs.KeptFlags.{KeepsAt, KeepsFlags, KeepsTo, kept_flags, kept_live, points_right, right_flags}

-- what a walk reports of a block
abbrev report : HandleTable → ℕ → Entry → Block
report t at e = record { address = at; entry = e; length = wanted_length t e.kind; flags = block_flags t e.kind }

some-same : {x y : Block} → Some x ≡ Some y → x ≡ y
some-same {x = x} is = ap (λ (o : Option Block). unwrap_or o x) is

-- ---- numbers that are no handles

-- a handle with a block is a handle
pub full-handle : (o : Option Live) → live_full o ≡ true → live_handle o ≡ true
full-handle None is = absurd (cc is)
full-handle (Some EmptyHandle) is = refl
full-handle (Some (FullHandle flags old)) is = refl
full-handle (Some (Pointer old)) is = absurd (cc is)

-- what is no handle is none with a block
pub no-full : (z : ZoneState) (x : ℕ) → is_handle z.heap.table x ≡ false → is_full z.heap.table x ≡ false
no-full z x none = false_from_ne_true (is_full z.heap.table x) (λ full. absurd (false≢true (sym none ∙ full-handle (live_at z.heap.table x) full)))

module _ (z : ZoneState) (sound : Sound z.shape z.heap) (x : ℕ) (is : is_handle z.heap.table x ≡ true) where
  slot : Contains (slots z.shape z.heap.map) x
  slot = sound.suits.coherent.in_slots x is

  -- the slot of a handle is after the zone's header, and ends where the last block does at the latest
  pub slot-above : z.shape.base + zone_header ≤ x
  slot-above = let above = slots_at-above (head_size z.shape.heads) slot_count (address_after z.shape []) z.heap.map x (rooms-suits z.shape z.heap.table z.heap.map sound.suits) slot in omega arith

  pub slot-below : x + 4 ≤ z.shape.base + zone_header + total_size z.heap.map
  slot-below = let below = slots_at-below (head_size z.shape.heads) slot_count (address_after z.shape []) z.heap.map x (rooms-suits z.shape z.heap.table z.heap.map sound.suits) slot in omega arith

-- what isn't such a handle stays as it is
kept-none : (z : ZoneState) (bytes waiting : List ℕ) (x : ℕ) (o : Option Live) → live_full o ≡ false → option_map (kept_live z bytes waiting x) o ≡ o
kept-none z bytes waiting x None none = refl
kept-none z bytes waiting x (Some EmptyHandle) none = refl
kept-none z bytes waiting x (Some (FullHandle flags old)) none = absurd (cc none)
kept-none z bytes waiting x (Some (Pointer old)) none = refl

-- ---- one number

kept-full : (z : ZoneState) (bytes waiting : List ℕ) (x : ℕ) (o : Option Live) → live_full o ≡ true → Some (FullHandle (kept_flags z bytes waiting x (live_flags o)) (live_bytes o)) ≡ option_map (kept_live z bytes waiting x) o
kept-full z bytes waiting x None is = absurd (cc is)
kept-full z bytes waiting x (Some EmptyHandle) is = absurd (cc is)
kept-full z bytes waiting x (Some (FullHandle flags old)) is = refl
kept-full z bytes waiting x (Some (Pointer old)) is = absurd (cc is)

apart-eqb : (x y : ℕ) → (y ≡ x → ⊥) → (y == x) ≡ false
apart-eqb x y apart = false_from_ne_true (y == x) (λ same. apart (eqb-true y x same))

-- one that waits to be lent stays as it is
pub keeps-waiting : (z w : ZoneState) (bytes waiting : List ℕ) (x : ℕ) → list_any (λ y. y == x) waiting ≡ true → w ≡ z → KeepsAt z bytes waiting x w
keeps-waiting z w bytes waiting x waits same = subst (KeepsAt z bytes waiting x) (sym same) (record {
  here = sym (unchanged (live_at z.heap.table x));
  others = λ y apart. refl;
  lent = refl;
  map = refl;
  free_slots = refl;
  shape = refl;
  memory = refl;
})
  where
    unchanged : (o : Option Live) → option_map (kept_live z bytes waiting x) o ≡ o
    unchanged None = refl
    unchanged (Some EmptyHandle) = refl
    unchanged (Some (FullHandle flags old)) = ap (λ b. Some (FullHandle (cond b flags (right_flags z bytes x flags)) old)) waits
    unchanged (Some (Pointer old)) = refl

-- another has the flags that its master pointer says
pub kept-right : (z : ZoneState) (bytes waiting : List ℕ) (x : ℕ) (own : Flags) → list_any (λ y. y == x) waiting ≡ false → right_flags z bytes x own ≡ kept_flags z bytes waiting x own
kept-right z bytes waiting x own none = sym (ap (λ b. cond b own (right_flags z bytes x own)) none)

pub keeps-set : (z w : ZoneState) (bytes waiting : List ℕ) (x : ℕ) (flags : Flags) → is_full z.heap.table x ≡ true → flags ≡ kept_flags z bytes waiting x (flags_of z.heap.table x)
    → w.heap ≡ with_table (with_flags x flags z.heap.table) z.heap → w.shape ≡ z.shape → w.memory ≡ z.memory → KeepsAt z bytes waiting x w
keeps-set z w bytes waiting x flags full is heap shape memory =
    let l : Live = FullHandle flags (bytes_of z.heap.table x) in record {
      here = ap (λ (h : Heap). live_at h.table x) heap ∙ live_at-with_live_same x l z.heap.table ∙ ap (λ (f : Flags). Some (FullHandle f (bytes_of z.heap.table x))) is ∙ kept-full z bytes waiting x (live_at z.heap.table x) full;
      others = λ y apart. ap (λ (h : Heap). live_at h.table y) heap ∙ (with_live_agrees x l z.heap.table).others y (apart-eqb x y apart);
      lent = ap (λ (h : Heap). h.table.lent) heap;
      map = ap (λ (h : Heap). h.map) heap;
      free_slots = ap (λ (h : Heap). h.free_slots) heap;
      shape = shape;
      memory = memory;
    }

-- ---- number by number

pub keeps-begin : (z : ZoneState) (bytes waiting : List ℕ) (from : ℕ) → Sound z.shape z.heap → from ≤ z.shape.base + zone_header → KeepsTo z bytes waiting from z
keeps-begin z bytes waiting from sound low = record {
  done = λ x below. sym (kept-none z bytes waiting x (live_at z.heap.table x) (false_from_ne_true (is_full z.heap.table x) (λ full. let above = slot-above z sound x (full-handle (live_at z.heap.table x) full) in absurd (omega arith))));
  left = λ x above. refl;
  lent = refl;
  map = refl;
  free_slots = refl;
  shape = refl;
  memory = refl;
}

pub keeps-next : (old z w : ZoneState) (bytes waiting : List ℕ) (x n : ℕ) → n ≡ x + 1 → KeepsTo old bytes waiting x z → KeepsAt z bytes waiting x w → KeepsTo old bytes waiting n w
keeps-next old z w bytes waiting x n next to at = record {
  done = λ y below. elim (cases_lt y x) [
    | inl lower ↦ at.others y (λ same. absurd (omega arith)) ∙ to.done y lower
    | inr upper ↦ let same : y ≡ x = omega arith in subst (λ y. live_at w.heap.table y ≡ option_map (kept_live old bytes waiting y) (live_at old.heap.table y)) (sym same) here
  ];
  left = λ y above. at.others y (λ same. absurd (omega arith)) ∙ to.left y (omega arith);
  lent = at.lent ∙ to.lent;
  map = at.map ∙ to.map;
  free_slots = at.free_slots ∙ to.free_slots;
  shape = at.shape ∙ to.shape;
  memory = at.memory ∙ to.memory;
}
  where
    alike : (l : Live) → kept_live z bytes waiting x l ≡ kept_live old bytes waiting x l
    alike EmptyHandle = refl
    alike (FullHandle flags contents) = λ i. FullHandle (kept_flags (record old { shape = to.shape i; heap = record old.heap { map = to.map i } }) bytes waiting x flags) contents
    alike (Pointer contents) = refl

    alike_all : (o : Option Live) → option_map (kept_live z bytes waiting x) o ≡ option_map (kept_live old bytes waiting x) o
    alike_all None = refl
    alike_all (Some l) = ap (λ (l : Live). Some l) (alike l)

    here : live_at w.heap.table x ≡ option_map (kept_live old bytes waiting x) (live_at old.heap.table x)
    here = at.here ∙ ap (option_map (kept_live z bytes waiting x)) (to.left x (omega arith)) ∙ alike_all (live_at old.heap.table x)

pub keeps-end : (old new : ZoneState) (bytes waiting : List ℕ) (from : ℕ) → Sound old.shape old.heap → old.shape.base + zone_header + total_size old.heap.map ≤ from + 3 → KeepsTo old bytes waiting from new → KeepsFlags old bytes waiting new
keeps-end old new bytes waiting from sound far to = record {
  live = λ x. elim (cases_lt x from) [
    | inl below ↦ to.done x below
    | inr above ↦ to.left x above ∙ sym (kept-none old bytes waiting x (live_at old.heap.table x) (false_from_ne_true (is_full old.heap.table x) (λ full. let below = slot-below old sound x (full-handle (live_at old.heap.table x) full) in absurd (omega arith))))
  ];
  lent = to.lent;
  map = to.map;
  free_slots = to.free_slots;
  shape = to.shape;
  memory = to.memory;
}

-- numbers of no handle are passed over
pub keeps-past : (old z : ZoneState) (bytes waiting : List ℕ) (x n : ℕ) → x ≤ n → KeepsTo old bytes waiting x z → ((y : ℕ) → x ≤ y → y < n → is_handle z.heap.table y ≡ false) → KeepsTo old bytes waiting n z
keeps-past old z bytes waiting x n further to none = record {
  done = λ y below. elim (cases_lt y x) [
    | inl lower ↦ to.done y lower
    | inr upper ↦ to.left y upper ∙ sym (kept-none old bytes waiting y (live_at old.heap.table y) (sym (ap live_full (to.left y upper)) ∙ no-full z y (none y upper below)))
  ];
  left = λ y above. to.left y (omega arith);
  lent = to.lent;
  map = to.map;
  free_slots = to.free_slots;
  shape = to.shape;
  memory = to.memory;
}

-- ---- blocks without a handle's slot

-- a block that is found begins at the first one or after it
found-above : (t : HandleTable) (at : ℕ) (m : ZoneMap) (a : ℕ) (b : Block) → find (λ (b : Block). b.address == a) (reports_from t at m) ≡ Some b → at ≤ a
found-above t at [] a b is = absurd (cc is)
found-above t at (e ∷ es) a b is = elim (at == a) as (λ test. (at == a) ≡ test → at ≤ a) [
  | true ↦ λ same. grind (arith, nat_tests)
  | false ↦ λ other. let rest = found-above t (at + e.size) es a b (sym (ap (λ test. cond test (Some (report t at e)) (find (λ (b : Block). b.address == a) (reports_from t (at + e.size) es))) other) ∙ is) in omega arith
] refl

no-slot : (t : HandleTable) (head n at : ℕ) (m : ZoneMap) (a : ℕ) (b : Block) → list_all (has_room head n) m ≡ true → find (λ (b : Block). b.address == a) (reports_from t at m) ≡ Some b
    → is_master b.entry.kind ≡ false → (y : ℕ) → Contains (slots_at head n at m) y → a ≤ y → y < a + b.entry.size → ⊥
no-slot t head n at [] a b room is plain y c low high = absurd (cc is)
no-slot t head n at (e ∷ es) a b room is plain y c low high =
    let rooms = and_parts (has_room head n e) (list_all (has_room head n) es) room in
    let cases = slot_cases head n at e es y rooms.0 c in
    elim (at == a) as (λ test. (at == a) ≡ test → ⊥) [
      | true ↦ λ same.
          let found : Some (report t at e) ≡ Some b = sym (ap (λ test. cond test (Some (report t at e)) (find (λ (b : Block). b.address == a) (reports_from t (at + e.size) es))) same) ∙ is in
          let one : report t at e ≡ b = some-same found in
          let here : at ≡ a = grind (arith, nat_tests) in
          let size : e.size ≡ b.entry.size = ap (λ (b : Block). b.entry.size) one in
          elim cases [
            | inl first ↦ absurd (false≢true (sym (ap (λ (b : Block). is_master b.entry.kind) one ∙ plain) ∙ first.0))
            | inr later ↦ let above = slots_at-above head n (at + e.size) es y rooms.1 later in absurd (omega arith)
          ]
      | false ↦ λ other.
          let found : find (λ (b : Block). b.address == a) (reports_from t (at + e.size) es) ≡ Some b = sym (ap (λ test. cond test (Some (report t at e)) (find (λ (b : Block). b.address == a) (reports_from t (at + e.size) es))) other) ∙ is in
          elim cases [
            | inl first ↦ (let after = found-above t (at + e.size) es a b found in let end = first.2 in absurd (omega arith))
            | inr later ↦ no-slot t head n (at + e.size) es a b rooms.1 found plain y later low high
          ]
    ] refl

-- no handle's slot is in a block that is no master block
pub none-within : (z : ZoneState) → Sound z.shape z.heap → (a : ℕ) (b : Block) → IsHolder z a b → is_master b.entry.kind ≡ false → (y : ℕ) → a ≤ y → y < b.address + b.entry.size → is_handle z.heap.table y ≡ false
none-within z sound a b holds plain y low high = false_from_ne_true (is_handle z.heap.table y) (λ full.
    let below = holds.low in
    no-slot z.heap.table (head_size z.shape.heads) slot_count (address_after z.shape []) z.heap.map b.address b (rooms-suits z.shape z.heap.table z.heap.map sound.suits) holds.there plain y (slot z sound y full) (omega arith) high)

-- it ends within the zone
found-below : (t : HandleTable) (at : ℕ) (m : ZoneMap) (a : ℕ) (b : Block) → find (λ (b : Block). b.address == a) (reports_from t at m) ≡ Some b → a + b.entry.size ≤ at + total_size m
found-below t at [] a b is = absurd (cc is)
found-below t at (e ∷ es) a b is = elim (at == a) as (λ test. (at == a) ≡ test → a + b.entry.size ≤ at + total_size (e ∷ es)) [
  | true ↦ λ same.
      let found : Some (report t at e) ≡ Some b = sym (ap (λ test. cond test (Some (report t at e)) (find (λ (b : Block). b.address == a) (reports_from t (at + e.size) es))) same) ∙ is in
      let here : at ≡ a = grind (arith, nat_tests) in
      let size : e.size ≡ b.entry.size = ap (λ (b : Block). b.entry.size) (some-same found) in omega arith
  | false ↦ λ other.
      let rest = found-below t (at + e.size) es a b (sym (ap (λ test. cond test (Some (report t at e)) (find (λ (b : Block). b.address == a) (reports_from t (at + e.size) es))) other) ∙ is) in omega arith
] refl

pub ends-within : (z : ZoneState) (a : ℕ) (b : Block) → IsHolder z a b → b.address + b.entry.size ≤ z.shape.base + zone_header + total_size z.heap.map
ends-within z a b holds = let below = found-below z.heap.table (address_after z.shape []) z.heap.map b.address b holds.there in omega arith

-- ---- what a master pointer says

-- its flags are kept where its low three bytes are right
pub kept-said : (z : ZoneState) (bytes : List ℕ) (x at word contents : ℕ) (flags own : Flags) → z.shape.heads ≡ Bits24 → at ≡ x - z.shape.base → word ≡ big_number 4 (part bytes at 4)
    → contents ≡ contents_of z.shape x z.heap.map → word % 0x100_0000 ≡ contents → flags ≡ flags_from (slice_index bytes at) → flags ≡ right_flags z bytes x own
kept-said z bytes x at word contents flags own heads place read there same said =
    let number : big_number 4 (part bytes (x - z.shape.base) 4) ≡ word = ap (λ n. big_number 4 (part bytes n 4)) (sym place) ∙ sym read in
    let back = sym there in let wide = sym heads in
    let right : points_right z bytes x ≡ true = (λ i. number i % 0x100_0000 == back i) ∙ ap (λ n. n == contents) same ∙ eqb_same contents in
    said ∙ (λ i. said_flags (wide i) bytes (place i) own) ∙ sym (ap (λ b. cond b (said_flags z.shape.heads bytes (x - z.shape.base) own) own) right)

pub kept-own : (z : ZoneState) (bytes : List ℕ) (x at word contents : ℕ) (own : Flags) → at ≡ x - z.shape.base → word ≡ big_number 4 (part bytes at 4)
    → contents ≡ contents_of z.shape x z.heap.map → (word % 0x100_0000 ≡ contents → ⊥) → own ≡ right_flags z bytes x own
kept-own z bytes x at word contents own place read there other =
    let number : big_number 4 (part bytes (x - z.shape.base) 4) ≡ word = ap (λ n. big_number 4 (part bytes n 4)) (sym place) ∙ sym read in
    let back = sym there in
    let wrong : points_right z bytes x ≡ false = (λ i. number i % 0x100_0000 == back i) ∙ false_from_ne_true (word % 0x100_0000 == contents) (λ same. other (eqb-true (word % 0x100_0000) contents same)) in
    sym (ap (λ b. cond b (said_flags z.shape.heads bytes (x - z.shape.base) own) own) wrong)

-- ---- HSetState of a handle that isn't lent

not_refused : (s : Shape) (heap : Heap) (h n : ℕ) → Sound s heap → heap.table.lent ≡ [] → is_full heap.table h ≡ true → n ≤ 255 → refusal s heap (OnBlock (HSetState h n)) ≡ None
not_refused s heap h n sound none full small = λ i.
    option_or (cond (some i) (Some NilHandleErr) (unless_passed MemWzErr (live i)))
    (option_or (unless_passed NilHandleErr (full i || is_pointer heap.table h))
    (option_or (unless_passed ParamErr (fits i))
    (option_or (unless_passed MemLockedErr (keeps i)) None)))
  where
    live : is_handle heap.table h ≡ true
    live = full-handle (live_at heap.table h) full

    some : (h == 0) ≡ false
    some = false_from_ne_true (h == 0) (λ nil.
        let zero : is_handle heap.table 0 ≡ false = nil-no_handle s heap.table heap.map sound.suits in
        let both : true ≡ false = sym live ∙ ap (is_handle heap.table) (eqb-true h 0 nil) ∙ zero in
        absurd (cc both))

    fits : nat_le n 255 ≡ true
    fits = grind (arith, nat_tests)

    or_true : (b : Bool) → (b || true) ≡ true
    or_true true = refl
    or_true false = refl

    keeps : (state_locks n || not (is_lent heap.table h)) ≡ true
    keeps = ap (λ xs. state_locks n || not (list_any (λ y. y == h) xs)) none ∙ or_true (state_locks n)

no-error : (result : Result (Unit {0}) OsErr) → Ok Nothing ≡ done_outcome result → is_err result ≡ true → ⊥
no-error (Ok u) done err = absurd (cc err)
no-error (Err code) done err = absurd (cc done)

module _ (s : Shape) (heap new : Heap) (h n : ℕ) (result : Result (Unit {0}) OsErr) (sound : Sound s heap) (none : heap.table.lent ≡ []) (full : is_full heap.table h ≡ true) (small : n ≤ 255)
    (exact : IsExactStep s heap (OnBlock (HSetState h n)) [] (done_outcome result) new) where
  run : step_unless s [] heap (OnBlock (HSetState h n)) None ≡ record { outcome = done_outcome result; heap = new; asks = []; left = [] }
  run = sym (ap (step_unless s [] heap (OnBlock (HSetState h n))) (not_refused s heap h n sound none full small)) ∙ exact

  pub set-heap : new ≡ with_table (with_flags h (flags_from n) heap.table) heap
  set-heap = sym (ap (λ (e : StepEnd). e.heap) run)

  pub set-done : is_err result ≡ true → ⊥
  set-done = no-error result (ap (λ (e : StepEnd). e.outcome) run)
