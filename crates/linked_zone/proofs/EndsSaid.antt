-- What can be said in a slot: where other slots are and where blocks' contents begin.
use Rattle.std.proofs.Common.{◌≡◌, ℕ, zero, suc, ◌+◌, ◌*◌, ◌%◌, ◌<◌, ◌≤◌, ◌&&◌, ◌||◌, not, Bool, true, false, cond, List, [], ◌∷◌, ◌++◌, nat_le, nat_lt, refl, ap, sym, ◌∙◌, arith, Contains, inl, inr}
use Rattle.std.specs.Prelude.{◌==◌, slice_index}
use Rattle.std.specs.List.{list_all}
use Rattle.std.proofs.lemmas.List.Folds.{list_all-append}
use Rattle.std.proofs.lemmas.Bool.Decides.{nat_tests}
use Rattle.std.proofs.lemmas.Bool.{and_parts}
use Rattle.mac_base.specs.declared.block.Entry.{Entry}
use Rattle.mac_base.specs.declared.block.Flags.{Flags}
use Rattle.mac_base.specs.declared.block.HeadKind.{HeadKind}
use Rattle.mac_base.specs.declared.block.HeadKind.TheVariants.{Bits24, Bits32}
use Rattle.mac_base.specs.HeadKind.{Shape, head_size, smallest_block, slot_count, address_end}
use Rattle.mac_base.specs.Heap.{front_slot}
use Rattle.mac_base.specs.Suits.{slots, slots_from, is_block_size}
use Rattle.mac_base.specs.declared.block.Kind.{Kind}
use Rattle.mac_base.specs.ZoneMap.{ZoneMap, block, is_master, total_size, address_after, addresses, addresses_from, contents_addresses}
use Rattle.mac_base.specs.ZoneState.{ZoneState}
use Rattle.mac_base.proofs.Reach.{end-small}
use Rattle.zone_laws.proofs.Maps.{total_size-append}
use Rattle.zone_laws.proofs.SlotPlaces.{Contains-none, Contains-here, Contains-cons_cases}
use Rattle.zone_records.specs.declared.slot.Slot.TheVariants as slot
use Rattle.zone_records.specs.Places.{can_say, can_flag}
use Rattle.zone_records.specs.Records.{ZoneRecords}
use Rattle.zone_records.proofs.Chaining.{head-even}
use Rattle.linked_zone.specs.Owned.{slot_flags, header_flags}
use Rattle.linked_zone.specs.Fit.{has_room}
use Rattle.linked_zone.specs.Places.{EntryAt}
use Rattle.linked_zone.proofs.Standing.{Stands}
use Rattle.linked_zone.proofs.ChangeParts.{Contains-flat_map, slot-above}
use Rattle.linked_zone.proofs.Numbered.{Contains-map}
use Rattle.linked_zone.proofs.ChangeMaster.{slots_at-below}

-- ---- in general

-- a free slot says where the next one is
pub free-said : (heads : HeadKind) (x : ℕ) → x % 4 ≡ 0 → x < address_end heads → can_say heads (slot.Free x) ≡ true
free-said Bits24 x even small = grind (arith, nat_tests)
free-said Bits32 x even small = grind (arith, nat_tests)

-- a handle with a block says where its contents begin, and what flags a slot says
pub full-said : (heads : HeadKind) (flags : Flags) (x : ℕ) → x % 4 ≡ 0 → x < address_end heads → 0 < x → can_say heads (slot.Full (slot_flags heads flags) x) ≡ true
full-said Bits24 flags x even small some = grind (arith, nat_tests)
full-said Bits32 flags x even small some = grind (arith, nat_tests)

-- and a header says those that it says
pub flags-said : (heads : HeadKind) (flags : Flags) → can_flag heads (header_flags heads flags) ≡ true
flags-said Bits24 flags = refl
flags-said Bits32 flags = refl

-- ---- numbers of a zone

pub sum_even : (a b : ℕ) → a % 4 ≡ 0 → b % 4 ≡ 0 → (a + b) % 4 ≡ 0
sum_even a b even too = grind arith

-- the sum of possible sizes is a multiple of four
pub total-even : (s : Shape) (m : ZoneMap) → list_all (λ (e : Entry). is_block_size s e.size) m ≡ true → total_size m % 4 ≡ 0
total-even s [] h = refl
total-even s (e ∷ es) h =
    let parts = and_parts (is_block_size s e.size) (list_all (λ (e : Entry). is_block_size s e.size) es) h in
    sum_even e.size (total_size es) (first e.size (nat_le _ e.size) parts.0) (total-even s es parts.1)
  where
    first : (n : ℕ) (b : Bool) → ((n % 4 == 0) && b) ≡ true → n % 4 ≡ 0
    first n b h = let is = (and_parts (n % 4 == 0) b h).0 in grind (arith, nat_tests)

addresses-even : (s : Shape) (at : ℕ) (test : Kind → Bool) (m : ZoneMap) (a : ℕ) → at % 4 ≡ 0 → list_all (λ (e : Entry). is_block_size s e.size) m ≡ true
    → Contains (addresses_from at test m) a → a % 4 ≡ 0
addresses-even s at test [] a even h c = absurd (Contains-none a c)
addresses-even s at test (e ∷ es) a even h c =
    let parts = and_parts (is_block_size s e.size) (list_all (λ (e : Entry). is_block_size s e.size) es) h in
    let size : e.size % 4 ≡ 0 = (let total = total-even s (e ∷ []) (ap (λ b. is_block_size s e.size && b) (sym parts.1) ∙ h) in grind arith) in
    by_test (test e.kind) (λ later. addresses-even s (at + e.size) test es a (sum_even at e.size even size) parts.1 later) c
  where
    by_test : (b : Bool) → (Contains (addresses_from (at + e.size) test es) a → a % 4 ≡ 0) → Contains (cond b (at ∷ []) [] ++ addresses_from (at + e.size) test es) a → a % 4 ≡ 0
    by_test false rest c = rest c
    by_test true rest c = elim (Contains-cons_cases at (addresses_from (at + e.size) test es) a c) [
      | inl same ↦ ap (λ n. n % 4) (sym same) ∙ even
      | inr later ↦ rest later
    ]

slots_from-even : (n at h : ℕ) → at % 4 ≡ 0 → Contains (slots_from n at) h → h % 4 ≡ 0
slots_from-even zero at h even c = absurd (Contains-none h c)
slots_from-even (suc n) at h even c = elim (Contains-cons_cases at (slots_from n (at + 4)) h c) [
  | inl same ↦ ap (λ n. n % 4) (sym same) ∙ even
  | inr later ↦ slots_from-even n (at + 4) h (sum_even at 4 even refl) later
]

module _ (r : ZoneRecords) (z : ZoneState) (held : Stands r z) where
  start_even : address_after z.shape [] % 4 ≡ 0
  start_even = sum_even (z.shape.base + 52) 0 (sum_even z.shape.base 52 held.even refl) refl

  -- a slot is at a multiple of four, within the zone
  pub slot-range : (x : ℕ) → Contains (slots z.shape z.heap.map) x → (x % 4 ≡ 0) × (x < address_end z.shape.heads) × (0 < x)
  slot-range x c =
      let found = Contains-flat_map (slots_from slot_count) (contents_addresses z.shape is_master z.heap.map) x c in
      let place = Contains-map (λ a. a + head_size z.shape.heads) (addresses z.shape is_master z.heap.map) found.0 found.1 in
      let even = addresses-even z.shape (address_after z.shape []) is_master z.heap.map place.0 start_even held.sizes place.1 in
      let first = ap (λ n. n % 4) (sym place.2) ∙ sum_even place.0 (head_size z.shape.heads) even (head-even z.shape.heads) in
      let below = slots_at-below (head_size z.shape.heads) slot_count (address_after z.shape []) z.heap.map x held.rooms c in
      let above = slot-above z.shape z.heap.map x c in
      let within = held.within in
      let high = held.high in
      let low = held.low in
      (slots_from-even slot_count found.0 x first found.2, omega arith, omega arith)

  -- a free slot can say the next one, and 0
  pub next-said : (xs : List ℕ) → ((x : ℕ) → Contains xs x → Contains z.heap.free_slots x) → can_say z.shape.heads (slot.Free (slice_index xs 0)) ≡ true
  next-said [] each = free-said z.shape.heads 0 refl (let high = held.high in let low = held.low in omega arith)
  next-said (x ∷ xs) each = let range = slot-range x ((held.fits.slots.free x).0 (each x (Contains-here x xs))).0 in free-said z.shape.heads x range.0 range.1

  -- where there is no first free slot, there is none
  pub front-none : front_slot z.heap ≡ 0 → z.heap.free_slots ≡ []
  front-none none = by_list z.heap.free_slots (λ x c. slot-range x ((held.fits.slots.free x).0 c).0) none
    where
      by_list : (xs : List ℕ) → ((x : ℕ) → Contains xs x → (x % 4 ≡ 0) × (x < address_end z.shape.heads) × (0 < x)) → slice_index xs 0 ≡ 0 → xs ≡ []
      by_list [] each none = refl
      by_list (x ∷ xs) each none = let range = each x (Contains-here x xs) in absurd (omega arith)

  module _ (at : ℕ) (e : EntryAt z at) where
    -- a block's header is at a multiple of four
    pub entry-even : at % 4 ≡ 0
    entry-even =
        let before : list_all (λ (e : Entry). is_block_size z.shape e.size) e.before ≡ true =
        (and_parts (list_all (λ (e : Entry). is_block_size z.shape e.size) e.before) _ (sym (list_all-append (λ (e : Entry). is_block_size z.shape e.size) e.before (e.here ∷ e.after)) ∙ ap (list_all (λ (e : Entry). is_block_size z.shape e.size)) (sym e.map) ∙ held.sizes)).0 in
        ap (λ n. n % 4) e.place ∙ sum_even (z.shape.base + 52) (total_size e.before) (sum_even z.shape.base 52 held.even refl) (total-even z.shape e.before before)

    -- it has contents, and slots can say where they begin and end
    pub entry-room : head_size z.shape.heads < e.here.size
    entry-room =
        let all = (and_parts (list_all (has_room z.shape) e.before) _ (sym (list_all-append (has_room z.shape) e.before (e.here ∷ e.after)) ∙ ap (list_all (has_room z.shape)) (sym e.map) ∙ held.rooms)).1 in
        let here = (and_parts (has_room z.shape e.here) (list_all (has_room z.shape) e.after) all).0 in
        let first = (and_parts (nat_lt (head_size z.shape.heads) e.here.size) _ here).0 in
        grind (arith, nat_tests)

    entry-reach : at + e.here.size ≤ address_end z.shape.heads
    entry-reach =
        let total = ap total_size e.map ∙ total_size-append e.before (e.here ∷ e.after) in
        let place = e.place in
        let within = held.within in
        let high = held.high in
        omega arith

    contents-reach : at + head_size z.shape.heads < address_end z.shape.heads
    contents-reach = let room = entry-room in let end = entry-reach in omega arith

    -- which have 32 bits
    pub entry-end : at + e.here.size ≤ 0xFFFF_FFFF
    entry-end = let end = entry-reach in let small = end-small z.shape.heads in omega arith

    pub entry-below : at + head_size z.shape.heads < 0xFFFF_FFFF
    entry-below = let room = entry-room in let end = entry-end in omega arith

    -- a slot can say where they begin
    pub contents-said : (flags : Flags) → can_say z.shape.heads (slot.Full (slot_flags z.shape.heads flags) (at + head_size z.shape.heads)) ≡ true
    contents-said flags = full-said z.shape.heads flags (at + head_size z.shape.heads) (sum_even at (head_size z.shape.heads) entry-even (head-even z.shape.heads)) contents-reach (let place = e.place in let low = held.low in omega arith)

-- ---- room

-- a block of a possible size has room, if it isn't to be a master block
pub size-room : (s : Shape) (k : Kind) (n : ℕ) → is_master k ≡ false → is_block_size s n ≡ true → has_room s (block k n) ≡ true
size-room s k n other size = by_heads s.heads (is_master k) other ((and_parts (n % 4 == 0) _ size).1)
  where
    by_heads : (heads : HeadKind) (b : Bool) → b ≡ false → nat_le (smallest_block heads) n ≡ true → (nat_lt (head_size heads) n && (not b || nat_le (head_size heads + 4 * slot_count) n)) ≡ true
    by_heads heads true other large = absurd (cc other)
    by_heads Bits24 false other large = grind (arith, nat_tests)
    by_heads Bits32 false other large = grind (arith, nat_tests)

-- two possible sizes make one
pub size-sum : (s : Shape) (a b : ℕ) → is_block_size s a ≡ true → is_block_size s b ≡ true → is_block_size s (a + b) ≡ true
size-sum s a b first second = grind (arith, nat_tests)

-- each block of a part of a map passes what all do
pub part-passes : (p : Entry → Bool) (before part after m : ZoneMap) → m ≡ before ++ (part ++ after) → list_all p m ≡ true → list_all p part ≡ true
part-passes p before part after m is h =
    let rest = (and_parts (list_all p before) _ (sym (list_all-append p before (part ++ after)) ∙ ap (list_all p) (sym is) ∙ h)).1 in
    (and_parts (list_all p part) _ (sym (list_all-append p part after) ∙ rest)).0
