-- The slots of a zone by their addresses: where they are in master blocks, that no two are at one address, and
-- which are free.
use Rattle.std.proofs.Common.{◌≡◌, ℕ, zero, suc, ◌+◌, ◌*◌, ◌<◌, ◌≤◌, true, List, [], ◌∷◌, ◌++◌, length, drop, get_or, refl, ap, sym, ◌∙◌, subst, arith, Contains, ◌⊎◌, inl, inr, append_assoc, drop-drop}
use Rattle.std.specs.Prelude.{◌^◌, ◌-◌, nat_eq, ⊤}
use Rattle.std.specs.List.{list_all, IsDistinct}
use Rattle.std.proofs.lemmas.List.Elements.{Contains-append_left, Contains-append_right, Contains-append_cases, Contains-push}
use Rattle.std.proofs.lemmas.Bool.{and_parts}
use Rattle.mac_base.specs.declared.block.HeadKind.{HeadKind}
use Rattle.mac_base.specs.HeadKind.{Shape, head_size, slot_count}
use Rattle.zone_laws.proofs.SlotPlaces.{Contains-cons_cases, Contains-here, Contains-later, Contains-none}
use Rattle.zone_laws.proofs.SoundReleased.{IsDistinct-more}
use Rattle.block_bytes.specs.declared.header.Role.{Role}
use Rattle.block_bytes.specs.declared.header.Role.TheVariants as role
use Rattle.block_bytes.specs.Finding.{SplitAt}
use Rattle.block_bytes.specs.Layout as raw
use Rattle.block_bytes.specs.Layout.{RawBlock, Layout, BlockAt, size_of}
use Rattle.block_bytes.proofs.Walking.{size_of-pos}
use Rattle.zone_records.specs.declared.slot.Slot.{Slot}
use Rattle.zone_records.specs.declared.slot.Slot.TheVariants as slot
use Rattle.zone_records.specs.Linking.{free_of, free_count, one_free}
use Rattle.zone_records.specs.Masters.{slot_of}
use Rattle.zone_records.specs.Places.{SlotAt}
use Rattle.zone_records.specs.Reading.{AreSound, content_in, is_sound, records_in}
use Rattle.zone_records.specs.Records.{BlockRecord, ZoneRecords, Master, block_record, total_of, address_after}
use Rattle.zone_records.specs.Slots.{addressed, slots_of, all_slots, slots_of_zone}
use Rattle.zone_records.specs.Word.{slots_in}
use Rattle.zone_records.proofs.Adopted.{NextHere}
use Rattle.zone_records.proofs.Apart.{read, total-append}
use Rattle.zone_records.proofs.Held.{held-read, range-one, sound-one}
use Rattle.zone_records.proofs.Ranked.{one-block, within}
use Rattle.zone_records.proofs.ReadSlots.{length-slots_in}
use Rattle.zone_records.proofs.SaidSlots.{slot_of-after}
use Rattle.zone_records.proofs.Slots.{master-long, slot-at}

-- a slot with its address
abbrev Placed : Type 0
Placed = ℕ × Slot

-- one is the first or among the others
pub first-or-later : (p : Placed) (ps : List Placed) (q : Placed) → Contains (p ∷ ps) q → (p ≡ q) ⊎ Contains ps q
first-or-later p ps q c = by_place c.0 c.1 c.2
  where
    by_place : (k : ℕ) → k < length (p ∷ ps) → get_or (p ∷ ps) k q ≡ q → (p ≡ q) ⊎ Contains ps q
    by_place zero below is = inl is
    by_place (suc k) below is = inr (k, omega arith, is)

pub at-first : (p : Placed) (ps : List Placed) → Contains (p ∷ ps) p
at-first p ps = Contains-append_left (p ∷ []) ps p (Contains-push [] p)

pub at-later : (p : Placed) (ps : List Placed) (q : Placed) → Contains ps q → Contains (p ∷ ps) q
at-later p ps q c = Contains-append_right (p ∷ []) ps q c

pub not-there : (q : Placed) → Contains [] q → ⊥
not-there q c = let below = c.1 in omega arith

-- one list of blocks after another
slots-append : (s : Shape) (at : ℕ) (xs ys : List BlockRecord) → all_slots s at (xs ++ ys) ≡ all_slots s at xs ++ all_slots s (at + total_of xs) ys
slots-append s at [] ys = ap (λ n. all_slots s n ys) (let e : at ≡ at + 0 = omega arith in e)
slots-append s at (x ∷ xs) ys =
    ap (λ (ps : List Placed). slots_of (at + head_size s.heads) x.content ++ ps) (slots-append s (at + x.size) xs ys ∙ ap (λ n. all_slots s (at + x.size) xs ++ all_slots s n ys) (let e : at + x.size + total_of xs ≡ at + (x.size + total_of xs) = omega arith in e))
    ∙ sym (append_assoc (slots_of (at + head_size s.heads) x.content) (all_slots s (at + x.size) xs) (all_slots s (at + (x.size + total_of xs)) ys))

-- the slot after some
addressed-one : (at : ℕ) (before : List Slot) (here : Slot) (after : List Slot) → Contains (addressed at (before ++ here ∷ after)) (at + 4 * length before, here)
addressed-one at [] here after = subst (λ n. Contains ((at, here) ∷ addressed (at + 4) after) (n, here)) (let e : at ≡ at + 0 = omega arith in e) (at-first (at, here) (addressed (at + 4) after))
addressed-one at (s ∷ before) here after =
    subst (λ n. Contains ((at, s) ∷ addressed (at + 4) (before ++ here ∷ after)) (n, here)) (let e : at + 4 + 4 * length before ≡ at + 4 * suc (length before) = omega arith in e)
    (at-later (at, s) (addressed (at + 4) (before ++ here ∷ after)) (at + 4 + 4 * length before, here) (addressed-one (at + 4) before here after))

-- a slot at an address is among the slots
pub slot-among : (z : ZoneRecords) (h : ℕ) (s : SlotAt z h) → Contains (slots_of_zone z) (h, s.here)
slot-among z h s =
    let start = address_after z.shape [] in
    let master = block_record (Master (s.slots_before ++ s.here ∷ s.slots_after)) s.size in
    let at = start + total_of s.before in
    let first : ℕ = at + head_size z.shape.heads in
    let own = addressed-one first s.slots_before s.here s.slots_after in
    let here : Contains (all_slots z.shape at (master ∷ s.after)) (first + 4 * length s.slots_before, s.here) =
    Contains-append_left (slots_of first master.content) (all_slots z.shape (at + s.size) s.after) (first + 4 * length s.slots_before, s.here) own in
    let all = Contains-append_right (all_slots z.shape start s.before) (all_slots z.shape at (master ∷ s.after)) (first + 4 * length s.slots_before, s.here) here in
    let place : first + 4 * length s.slots_before ≡ h = (let there = s.place in omega arith) in
    subst (λ n. Contains (slots_of_zone z) (n, s.here)) place
    (subst (λ ps. Contains ps (first + 4 * length s.slots_before, s.here)) (sym (ap (all_slots z.shape start) s.blocks ∙ slots-append z.shape start s.before (master ∷ s.after))) all)

-- a slot is among the contents of a master block
pub record SlotIn (l : Layout) (h : ℕ) (s : Slot) : Type 0 where
  pub at : ℕ
  pub block : BlockAt l at
  pub master : block.here.role ≡ role.Master
  pub index : ℕ
  pub few : index < slot_count
  pub place : h ≡ at + head_size l.heads + 4 * index
  pub said : s ≡ slot_of l.heads block.here.contents index

-- one of n slots by its place
record Indexed (heads : HeadKind) (n at : ℕ) (bytes : List ℕ) (h : ℕ) (s : Slot) : Type 0 where
  index : ℕ
  few : index < n
  place : h ≡ at + 4 * index
  said : s ≡ slot_of heads bytes index

indexed : (heads : HeadKind) (n at : ℕ) (bytes : List ℕ) (h : ℕ) (s : Slot) → Contains (addressed at (slots_in heads n bytes)) (h, s) → Indexed heads n at bytes h s
unfolding slots_in
indexed heads zero at bytes h s c = absurd (not-there (h, s) c)
indexed heads (suc n) at bytes h s c =
    elim (first-or-later (at, slot_of heads bytes 0) (addressed (at + 4) (slots_in heads n (drop 4 bytes))) (h, s) c) [
      | inl is ↦ record { index = 0; few = omega arith; place = sym (ap (λ (p : Placed). p.0) is) ∙ omega arith; said = sym (ap (λ (p : Placed). p.1) is) }
      | inr later ↦ (let i = indexed heads n (at + 4) (drop 4 bytes) h s later in let few = i.few in let place = i.place in
          record { index = suc i.index; few = omega arith; place = omega arith; said = i.said ∙ slot_of-after heads bytes i.index })
    ]

module _ (l : Layout) (sound : AreSound l) where
  -- what a block's slots are by its role
  in_block : (r : Role) (bytes : List ℕ) (first h : ℕ) (s : Slot) → Contains (slots_of first (content_in l.heads l.base r bytes)) (h, s) → (r ≡ role.Master) × Indexed l.heads slot_count first bytes h s
  in_block role.Free bytes first h s c = absurd (not-there (h, s) c)
  in_block role.Fixed bytes first h s c = absurd (not-there (h, s) c)
  in_block role.Master bytes first h s c = (refl, indexed l.heads slot_count first bytes h s c)
  in_block (role.Relocatable offset flags) bytes first h s c = absurd (not-there (h, s) c)

  in_blocks : (before after : List RawBlock) (at h : ℕ) (s : Slot) → l.blocks ≡ before ++ after → at ≡ raw.address_after l before → Contains (all_slots (records_in l).shape at (read l.heads l.base after)) (h, s) → SlotIn l h s
  in_blocks before [] at h s is there c = absurd (not-there (h, s) c)
  in_blocks before (b ∷ bs) at h s is there c = elim (Contains-append_cases (slots_of (at + head_size l.heads) (content_in l.heads l.base b.role b.contents)) (all_slots (records_in l).shape (at + size_of l.heads b) (read l.heads l.base bs)) (h, s) c) [
    | inl own ↦ (let i = in_block b.role b.contents (at + head_size l.heads) h s own in
        record { at = at; block = record { before = before; here = b; after = bs; blocks = is; place = there }; master = i.0; index = i.1.index; few = i.1.few; place = i.1.place; said = i.1.said })
    | inr later ↦ (let total = total-append l.heads before (b ∷ []) in
        in_blocks (before ++ b ∷ []) bs (at + size_of l.heads b) h s (is ∙ sym (append_assoc before (b ∷ []) bs)) (omega arith) later)
  ]

  -- one among the slots is there
  pub slot-in : (h : ℕ) (s : Slot) → Contains (slots_of_zone (records_in l)) (h, s) → SlotIn l h s
  slot-in h s c = in_blocks [] l.blocks (raw.address_after l []) h s refl refl c

  -- and it is the slot at the address
  pub slot-there : (h : ℕ) (s : Slot) → SlotIn l h s → (t : SlotAt (records_in l) h) × (t.here ≡ s)
  slot-there h s i = let t = slot-at l (records_in l) (held-read l sound) h i.at i.index i.block i.master i.few i.place in (t.0, t.1 ∙ sym i.said)

  pub slot-found : (h : ℕ) (s : Slot) → Contains (slots_of_zone (records_in l)) (h, s) → (t : SlotAt (records_in l) h) × (t.here ≡ s)
  slot-found h s c = slot-there h s (slot-in h s c)

  -- what is among the contents of a master block is one of the slots
  pub slot-listed : (h : ℕ) (s : Slot) → SlotIn l h s → Contains (slots_of_zone (records_in l)) (h, s)
  slot-listed h s i = let t = slot-there h s i in subst (λ n. Contains (slots_of_zone (records_in l)) (h, n)) t.1 (slot-among (records_in l) h t.0)

  -- where its four bytes are
  slot_range : (h : ℕ) (s : Slot) (i : SlotIn l h s) → (i.at ≤ h) × (h + 4 ≤ i.at + size_of l.heads i.block.here)
  slot_range h s i =
      let few = i.few in let place = i.place in
      let long = master-long l.heads l.base i.block.here (sound-one l i.block.before i.block.here i.block.after sound i.block.blocks) i.master in
      (omega arith, omega arith)

  -- there is one at an address
  pub slot-once : (h : ℕ) (s t : Slot) → Contains (slots_of_zone (records_in l)) (h, s) → Contains (slots_of_zone (records_in l)) (h, t) → s ≡ t
  slot-once h s t c d =
      let i = slot-in h s c in let j = slot-in h t d in
      let a = slot_range h s i in let b = slot_range h t j in let a0 = a.0 in let a1 = a.1 in let b0 = b.0 in let b1 = b.1 in
      let one = one-block l i.at j.at h i.block j.block a0 (omega arith) b0 (omega arith) in
      let place = i.place in let other = j.place in let same = one.0 in
      let index : i.index ≡ j.index = omega arith in
      i.said ∙ (λ n. slot_of l.heads (ap (λ (b : RawBlock). b.contents) one.1 n) (index n)) ∙ sym j.said

  -- an address of 32 bits that isn't 0
  pub slot-address : (h : ℕ) (s : Slot) → Contains (slots_of_zone (records_in l)) (h, s) → (0 < h) × (h < 2 ^ 32)
  slot-address h s c =
      let i = slot-in h s c in let range = slot_range h s i in let low = range.0 in let high = range.1 in
      let inside = within l i.at i.block in let first = inside.0 in
      let end = range-one l i.block.before i.block.here i.block.after sound i.block.blocks in let place = i.block.place in
      (omega arith, omega arith)

-- addresses rise from one on
unfoldable pub Rising : ℕ → List Placed → Type 0
Rising n [] = ⊤
Rising n (p ∷ ps) = (n ≤ p.0) × Rising (suc p.0) ps

rising_lower : (m n : ℕ) (ps : List Placed) → m ≤ n → Rising n ps → Rising m ps
unfolding Rising
rising_lower m n [] low r = tt
rising_lower m n (p ∷ ps) low r = (let here = r.0 in omega arith, r.1)

rising_slots : (at : ℕ) (xs : List Slot) (ps : List Placed) → Rising (at + 4 * length xs) ps → Rising at (addressed at xs ++ ps)
unfolding Rising
rising_slots at [] ps r = subst (λ n. Rising n ps) (let e : at + 0 ≡ at = omega arith in e) r
rising_slots at (x ∷ xs) ps r = (
  let e : at ≤ at = omega arith in e,
  rising_lower (suc at) (at + 4) (addressed (at + 4) xs ++ ps) (omega arith) (rising_slots (at + 4) xs ps (subst (λ n. Rising n ps) (let e : at + 4 * suc (length xs) ≡ at + 4 + 4 * length xs = omega arith in e) r)),
)

-- those of a zone do
rising_block : (heads : HeadKind) (base : ℕ) (r : Role) (bytes : List ℕ) (at end : ℕ) (ps : List Placed) → (r ≡ role.Master → at + 256 ≤ end) → at ≤ end → Rising end ps → Rising at (slots_of at (content_in heads base r bytes) ++ ps)
rising_block heads base role.Free bytes at end ps room low r = rising_lower at end ps low r
rising_block heads base role.Fixed bytes at end ps room low r = rising_lower at end ps low r
rising_block heads base role.Master bytes at end ps room low r =
    let few = length-slots_in heads slot_count bytes in let some = room refl in
    rising_slots at (slots_in heads slot_count bytes) ps (rising_lower (at + 4 * length (slots_in heads slot_count bytes)) end ps (omega arith) r)
rising_block heads base (role.Relocatable offset flags) bytes at end ps room low r = rising_lower at end ps low r

rising_all : (s : Shape) (base at : ℕ) (bs : List RawBlock) → list_all (is_sound s.heads base) bs ≡ true → Rising at (all_slots s at (read s.heads base bs))
unfolding Rising
rising_all s base at [] sound = tt
rising_all s base at (b ∷ bs) sound =
    let parts = and_parts (is_sound s.heads base b) (list_all (is_sound s.heads base) bs) sound in
    let rest = rising_all s base (at + size_of s.heads b) bs parts.1 in
    let ps = all_slots s (at + size_of s.heads b) (read s.heads base bs) in
    rising_lower at (at + head_size s.heads) (slots_of (at + head_size s.heads) (content_in s.heads base b.role b.contents) ++ ps) (omega arith)
    (rising_block s.heads base b.role b.contents (at + head_size s.heads) (at + size_of s.heads b) ps (λ is. let long = master-long s.heads base b parts.0 is in omega arith) (omega arith) rest)

-- the addresses of free slots
pub free-named : (ps : List Placed) (h next : ℕ) → Contains ps (h, slot.Free next) → Contains (free_of ps) h
unfolding free_of
free-named [] h next c = absurd (not-there (h, slot.Free next) c)
free-named ((g, slot.Free n) ∷ ps) h next c = elim (first-or-later (g, slot.Free n) ps (h, slot.Free next) c) [
  | inl is ↦ subst (λ n. Contains (g ∷ free_of ps) n) (ap (λ (p : Placed). p.0) is) (Contains-here g (free_of ps))
  | inr later ↦ Contains-later g (free_of ps) h (free-named ps h next later)
]
free-named ((g, slot.Empty) ∷ ps) h next c = elim (first-or-later (g, slot.Empty) ps (h, slot.Free next) c) [
  | inl is ↦ (let no : slot.Empty ≡ slot.Free next = ap (λ (p : Placed). p.1) is in absurd (cc no))
  | inr later ↦ free-named ps h next later
]
free-named ((g, slot.Full flags contents) ∷ ps) h next c = elim (first-or-later (g, slot.Full flags contents) ps (h, slot.Free next) c) [
  | inl is ↦ (let no : slot.Full flags contents ≡ slot.Free next = ap (λ (p : Placed). p.1) is in absurd (cc no))
  | inr later ↦ free-named ps h next later
]

pub free-names : (ps : List Placed) (h : ℕ) → Contains (free_of ps) h → (next : ℕ) × Contains ps (h, slot.Free next)
unfolding free_of
free-names [] h c = absurd (Contains-none h c)
free-names ((g, slot.Free n) ∷ ps) h c = elim (Contains-cons_cases g (free_of ps) h c) [
  | inl is ↦ (n, subst (λ m. Contains ((g, slot.Free n) ∷ ps) (m, slot.Free n)) is (at-first (g, slot.Free n) ps))
  | inr later ↦ (let more = free-names ps h later in (more.0, at-later (g, slot.Free n) ps (h, slot.Free more.0) more.1))
]
free-names ((g, slot.Empty) ∷ ps) h c = let more = free-names ps h c in (more.0, at-later (g, slot.Empty) ps (h, slot.Free more.0) more.1)
free-names ((g, slot.Full flags contents) ∷ ps) h c = let more = free-names ps h c in (more.0, at-later (g, slot.Full flags contents) ps (h, slot.Free more.0) more.1)

free_above : (n : ℕ) (ps : List Placed) (h : ℕ) → Rising n ps → Contains (free_of ps) h → n ≤ h
unfolding Rising free_of
free_above n [] h r c = absurd (Contains-none h c)
free_above n ((g, slot.Free m) ∷ ps) h r c = let low = r.0 in elim (Contains-cons_cases g (free_of ps) h c) [
  | inl is ↦ omega arith
  | inr later ↦ (let more = free_above (suc g) ps h r.1 later in omega arith)
]
free_above n ((g, slot.Empty) ∷ ps) h r c = let low = r.0 in let more = free_above (suc g) ps h r.1 c in omega arith
free_above n ((g, slot.Full flags contents) ∷ ps) h r c = let low = r.0 in let more = free_above (suc g) ps h r.1 c in omega arith

-- each is there once
free_apart : (n : ℕ) (ps : List Placed) → Rising n ps → IsDistinct nat_eq (free_of ps)
unfolding Rising free_of IsDistinct
free_apart n [] r = tt
free_apart n ((g, slot.Free m) ∷ ps) r = IsDistinct-more g (free_of ps) (λ c. let above = free_above (suc g) ps g r.1 c in omega arith) (free_apart (suc g) ps r.1)
free_apart n ((g, slot.Empty) ∷ ps) r = free_apart (suc g) ps r.1
free_apart n ((g, slot.Full flags contents) ∷ ps) r = free_apart (suc g) ps r.1

pub slots-rising : (l : Layout) → AreSound l → Rising (raw.address_after l []) (slots_of_zone (records_in l))
slots-rising l sound = rising_all (records_in l).shape l.base (raw.address_after l []) l.blocks sound.blocks

pub free-once : (l : Layout) → AreSound l → IsDistinct nat_eq (free_of (slots_of_zone (records_in l)))
free-once l sound = free_apart (raw.address_after l []) (slots_of_zone (records_in l)) (slots-rising l sound)

-- they add up
free-append : (ps qs : List Placed) → length (free_of (ps ++ qs)) ≡ length (free_of ps) + length (free_of qs)
unfolding free_of
free-append [] qs = omega arith
free-append ((g, slot.Free m) ∷ ps) qs = let rest = free-append ps qs in omega arith
free-append ((g, slot.Empty) ∷ ps) qs = free-append ps qs
free-append ((g, slot.Full flags contents) ∷ ps) qs = free-append ps qs

-- as many as slots that say so
pub free-counted : (at : ℕ) (xs : List Slot) → length (free_of (addressed at xs)) ≡ free_count xs
unfolding free_of
free-counted at [] = refl
free-counted at (slot.Free m ∷ xs) = let rest = free-counted (at + 4) xs in omega arith
free-counted at (slot.Empty ∷ xs) = let rest = free-counted (at + 4) xs in omega arith
free-counted at (slot.Full flags contents ∷ xs) = let rest = free-counted (at + 4) xs in omega arith

-- a count of slots, each of which counts one at most
pub record IsCount (one : Slot → ℕ) (count : List Slot → ℕ) : Type 0 where
  pub none : count [] ≡ 0
  pub more : (s : Slot) (ss : List Slot) → count (s ∷ ss) ≡ one s + count ss
  pub few : (s : Slot) → one s ≤ 1

pub one-few : (s : Slot) → one_free s ≤ 1
one-few (slot.Free next) = omega arith
one-few slot.Empty = omega arith
one-few (slot.Full flags contents) = omega arith

counts-free : IsCount one_free free_count
counts-free = record { none = refl; more = λ s ss. refl; few = one-few }

module _ (one : Slot → ℕ) (count : List Slot → ℕ) (is : IsCount one count) where
  -- no more than there are
  pub counts-few : (xs : List Slot) → count xs ≤ length xs
  counts-few [] = let none = is.none in omega arith
  counts-few (x ∷ xs) = let more = is.more x xs in let here = is.few x in let rest = counts-few xs in omega arith

  -- of the words of a master block, from one of them on
  pub counts-more : (heads : HeadKind) (words : List ℕ) (k : ℕ) → k < 64
      → count (slots_in heads (64 - k) (drop (4 * k) words)) ≡ one (slot_of heads words k) + count (slots_in heads (64 - (k + 1)) (drop (4 * (k + 1)) words))
  unfolding slots_in
  counts-more heads words k few =
      let left : 64 - k ≡ suc (64 - (k + 1)) = omega arith in
      ap (λ n. count (slots_in heads n (drop (4 * k) words))) left ∙ is.more (slot_of heads words k) (slots_in heads (64 - (k + 1)) (drop 4 (drop (4 * k) words)))
      ∙ ap (λ xs. one (slot_of heads words k) + count (slots_in heads (64 - (k + 1)) xs)) (drop-drop 4 (4 * k) words ∙ ap (λ n. drop n words) (let e : 4 * k + 4 ≡ 4 * (k + 1) = omega arith in e))

  pub counts-none : (heads : HeadKind) (words : List ℕ) (k : ℕ) → 64 ≤ k → count (slots_in heads (64 - k) (drop (4 * k) words)) ≡ 0
  unfolding slots_in
  counts-none heads words k all = ap (λ n. count (slots_in heads n (drop (4 * k) words))) (let e : 64 - k ≡ 0 = omega arith in e) ∙ is.none

-- so of the free ones
pub words-free : (heads : HeadKind) (words : List ℕ) (k : ℕ) → k < 64
    → free_count (slots_in heads (64 - k) (drop (4 * k) words)) ≡ one_free (slot_of heads words k) + free_count (slots_in heads (64 - (k + 1)) (drop (4 * (k + 1)) words))
words-free = counts-more one_free free_count counts-free

pub words-done : (heads : HeadKind) (words : List ℕ) (k : ℕ) → 64 ≤ k → free_count (slots_in heads (64 - k) (drop (4 * k) words)) ≡ 0
words-done = counts-none one_free free_count counts-free

-- how many of a block are free, by its role
pub free-master : (heads : HeadKind) (base at : ℕ) (r : Role) (bytes : List ℕ) → r ≡ role.Master → free_count (slots_in heads slot_count bytes) ≡ length (free_of (slots_of at (content_in heads base r bytes)))
free-master heads base at r bytes is = sym (free-counted at (slots_in heads slot_count bytes)) ∙ ap (λ r. length (free_of (slots_of at (content_in heads base r bytes)))) (sym is)

free_in_role : (heads : HeadKind) (base at : ℕ) (r : Role) (bytes : List ℕ) (size : ℕ) → (r ≡ role.Master → 256 ≤ size) → 4 * length (free_of (slots_of at (content_in heads base r bytes))) ≤ size
unfolding free_of
free_in_role heads base at role.Free bytes size room = omega arith
free_in_role heads base at role.Fixed bytes size room = omega arith
free_in_role heads base at role.Master bytes size room =
    let some = room refl in let same = free-counted at (slots_in heads slot_count bytes) in let few = counts-few one_free free_count counts-free (slots_in heads slot_count bytes) in let all = length-slots_in heads slot_count bytes in omega arith
free_in_role heads base at (role.Relocatable offset flags) bytes size room = omega arith

-- a block has room for those of its slots that are free
pub free-room : (heads : HeadKind) (base at : ℕ) (b : RawBlock) → is_sound heads base b ≡ true → 4 * length (free_of (slots_of at (content_in heads base b.role b.contents))) ≤ size_of heads b
free-room heads base at b sound = free_in_role heads base at b.role b.contents (size_of heads b) (λ is. let long = master-long heads base b sound is in omega arith)

-- no other block has any
pub free-none : (heads : HeadKind) (base at : ℕ) (r : Role) (bytes : List ℕ) → (r ≡ role.Master → ⊥) → 0 ≡ length (free_of (slots_of at (content_in heads base r bytes)))
unfolding free_of
free-none heads base at role.Free bytes other = refl
free-none heads base at role.Fixed bytes other = refl
free-none heads base at role.Master bytes other = absurd (other refl)
free-none heads base at (role.Relocatable offset flags) bytes other = refl

pub cancel : (xs ys zs : List RawBlock) → xs ++ ys ≡ xs ++ zs → ys ≡ zs
cancel [] ys zs is = is
cancel (x ∷ xs) ys zs is = let rest : xs ++ ys ≡ xs ++ zs = cc is in cancel xs ys zs rest

module _ (l : Layout) where
  -- no block is left where the blocks end
  pub none-left : (at : ℕ) (s : SplitAt l at) → raw.address_after l l.blocks ≤ at → s.after ≡ []
  none-left at s ends = from s.after s.blocks
    where
      from : (after : List RawBlock) → l.blocks ≡ s.before ++ after → after ≡ []
      from [] is = refl
      from (b ∷ bs) is = let sum = ap (raw.total_of l.heads) is in let more = total-append l.heads s.before (b ∷ bs) in let some = size_of-pos l.heads b in let place = s.place in absurd (omega arith)

  -- the free slots of the blocks before an address are counted
  pub record Counted (at count : ℕ) : Type 0 where
    pub split : SplitAt l at
    pub sum : count + length (free_of (all_slots (records_in l).shape at (read l.heads l.base split.after))) ≡ length (free_of (slots_of_zone (records_in l)))
    pub few : 4 * count ≤ at

  pub counted-none : (at : ℕ) → at ≡ raw.address_after l [] → Counted at 0
  counted-none at is = record {
    split = record { before = []; after = l.blocks; blocks = refl; place = is };
    sum = (let same = ap (λ n. length (free_of (all_slots (records_in l).shape n (read l.heads l.base l.blocks)))) is in omega arith);
    few = omega arith;
  }

  -- with those of the next block
  pub counted-more : (at count : ℕ) (c : Counted at count) (h : NextHere l at c.split) (n next : ℕ) → ((x : ℕ) → n ≡ length (free_of (slots_of x (content_in l.heads l.base h.here.role h.here.contents)))) → next ≡ at + size_of l.heads h.here
      → 4 * n ≤ size_of l.heads h.here → Counted next (count + n)
  counted-more at count c h n next counts there room =
      let b = h.here in
      let own = counts (at + head_size l.heads) in
      let first = slots_of (at + head_size l.heads) (content_in l.heads l.base b.role b.contents) in
      let rest = all_slots (records_in l).shape (at + size_of l.heads b) (read l.heads l.base h.after) in
      let total = total-append l.heads c.split.before (b ∷ []) in let place = c.split.place in
      let same : c.split.after ≡ b ∷ h.after = cancel c.split.before c.split.after (b ∷ h.after) (sym c.split.blocks ∙ h.blocks) in
      let parts : length (free_of (all_slots (records_in l).shape at (read l.heads l.base c.split.after))) ≡ length (free_of first) + length (free_of rest) =
      ap (λ bs. length (free_of (all_slots (records_in l).shape at (read l.heads l.base bs)))) same ∙ free-append first rest in
      let moved = ap (λ m. length (free_of (all_slots (records_in l).shape m (read l.heads l.base h.after)))) there in
      let sum = c.sum in let few = c.few in
      record {
        split = record { before = c.split.before ++ b ∷ []; after = h.after; blocks = h.blocks ∙ sym (append_assoc c.split.before (b ∷ []) h.after); place = omega arith };
        sum = omega arith;
        few = omega arith;
      }

  -- and of all
  pub counted-all : (at count : ℕ) (c : Counted at count) → c.split.after ≡ [] → count ≡ length (free_of (slots_of_zone (records_in l)))
  unfolding free_of
  counted-all at count c none = let sum = c.sum in let rest = ap (λ bs. length (free_of (all_slots (records_in l).shape at (read l.heads l.base bs)))) none in omega arith
