-- Blocks that can be read: their map, their slots, and what they say is live.
use Rattle.std.proofs.Common.{◌≡◌, ℕ, zero, suc, ◌+◌, ◌*◌, ◌%◌, ◌<◌, ◌≤◌, Bool, true, false, not, ◌&&◌, ◌||◌, nat_le, nat_lt, cond, eqb, List, [], ◌∷◌, ◌++◌, length, map, Option, Some, None, refl, ap, sym, ◌∙◌, subst, arith, append_assoc, Contains, ◌⊎◌, inl, inr}
use Rattle.std.specs.Prelude.{⊤}
use Rattle.std.specs.List.{All, list_all}
use Rattle.std.proofs.lemmas.Bool.Decides.{nat_tests}
use Rattle.std.proofs.lemmas.Bool.{and_parts, and_from}
use Rattle.std.proofs.lemmas.List.{map-append}
use Rattle.std.proofs.lemmas.List.Elements.{All-head, All-tail, Contains-append_cases, Contains-append_left, Contains-append_right}
use Rattle.mac_base.specs.declared.block.Entry.{Entry}
use Rattle.mac_base.specs.declared.block.Flags.{Flags}
use Rattle.mac_base.specs.declared.block.HeadKind.{HeadKind}
use Rattle.mac_base.specs.declared.block.HeadKind.TheVariants.{Bits24, Bits32}
use Rattle.mac_base.specs.declared.block.Kind.{Kind}
use Rattle.mac_base.specs.declared.block.Kind.TheVariants as kind
use Rattle.mac_base.specs.HandleTable.{Live, EmptyHandle, FullHandle, Pointer, no_flags}
use Rattle.mac_base.specs.HeadKind.{Shape, head_size, need, smallest_block, master_length, slot_count}
use Rattle.mac_base.specs.Suits.{is_block_size, has_length, slots_from, is_handle_block}
use Rattle.mac_base.specs.ZoneMap.{ZoneMap, block, is_master, total_size, addresses_from}
use Rattle.zone_laws.proofs.GapAppend.{addresses_from-none}
use Rattle.zone_laws.proofs.Maps.{addresses_from-append}
use Rattle.zone_laws.proofs.SlotPlaces.{has_room, slots_at, slots_at-cons}
use Rattle.zone_records.specs.declared.slot.Slot.{Slot}
use Rattle.zone_records.specs.declared.slot.Slot.TheVariants as slot
use Rattle.zone_records.specs.Places.{is_free}
use Rattle.zone_records.specs.Records.{Content, BlockRecord, Free, Fixed, Master, Relocatable, kind_of, length_of, total_of, bytes_of}
use Rattle.zone_records.specs.Slots.{addressed, slots_of, all_slots}
use Rattle.linked_zone.specs.Owned.{slot_flags, header_flags}
use Rattle.linked_zone.specs.Reading.{map_in, either_flags}
use Rattle.linked_zone.proofs.EndsSaid.{size-room}
use Rattle.linked_zone.proofs.ReadNumbers.{IsRising, rising-lower, rising-slots, numbers_of, numbers}
use Rattle.linked_zone.proofs.Numbered.{none_is, Contains-mapped, Contains-map, cons_cases, first_is}
use Rattle.linked_zone.proofs.TwoPlaces.{total_of-append}

-- ---- what is known of a block

-- a slot says no flags but those that slots say
abbrev pub SlotSays : HeadKind → Slot → Type 0
SlotSays heads (slot.Free next) = ⊤
SlotSays heads slot.Empty = ⊤
SlotSays heads (slot.Full flags contents) = slot_flags heads flags ≡ flags

-- a master block has all its slots, and a handle's block says no flags but those that headers say
abbrev pub ContentSays : HeadKind → Content → Type 0
ContentSays heads Free = ⊤
ContentSays heads (Fixed bytes) = ⊤
ContentSays heads (Master slots) = (length slots ≡ slot_count) × All (SlotSays heads) slots
ContentSays heads (Relocatable h flags bytes) = header_flags heads flags ≡ flags

-- a block that isn't lent can be read: its size is possible, and it has no room for another beside what is in it
pub record IsReadable (s : Shape) (b : BlockRecord) : Type 0 where
  pub size : is_block_size s b.size ≡ true
  pub long : (is_free b.content || has_length s b.size (length_of b.content)) ≡ true
  pub says : ContentSays s.heads b.content
  pub unlent : b.lent ≡ false

-- it is larger than its header
pub larger : (s : Shape) (b : BlockRecord) → IsReadable s b → head_size s.heads < b.size
larger s b readable = by_heads s.heads b.size readable.size
  where
    by_heads : (heads : HeadKind) (n : ℕ) → ((eqb (n % 4) 0) && nat_le (smallest_block heads) n) ≡ true → head_size heads < n
    by_heads Bits24 n is = grind (arith, nat_tests)
    by_heads Bits32 n is = grind (arith, nat_tests)

large-master : (heads : HeadKind) → head_size heads + 4 * 64 ≤ need heads master_length
large-master Bits24 = omega arith
large-master Bits32 = omega arith

-- it has room
room-of : (s : Shape) (at size : ℕ) (content : Content) → is_block_size s size ≡ true → (is_free content || has_length s size (length_of content)) ≡ true → has_room (head_size s.heads) slot_count (block (kind_of at content) size) ≡ true
room-of s at size Free is long = size-room s kind.Free size refl is
room-of s at size (Fixed bytes) is long = size-room s (kind.Ptr at) size refl is
room-of s at size (Relocatable h flags bytes) is long = size-room s (kind.Rel h) size refl is
room-of s at size (Master slots) is long =
    and_from _ _ (and_parts (nat_lt (head_size s.heads) size) true (size-room s kind.Free size refl is)).0 (by_master (head_size s.heads) (need s.heads master_length) size _ (large-master s.heads) long)
  where
    by_master : (head k n more : ℕ) → head + 4 * 64 ≤ k → (nat_le k n && nat_lt n more) ≡ true → nat_le (head + 4 * 64) n ≡ true
    by_master head k n more large h = grind (arith, nat_tests)

-- what holds of all blocks holds of each
pub All-at : (P : BlockRecord → Type 0) (before : List BlockRecord) (b : BlockRecord) (after : List BlockRecord) → All P (before ++ b ∷ after) → P b
All-at P [] b after all = All-head P b after all
All-at P (x ∷ before) b after all = All-at P before b after (All-tail P x (before ++ b ∷ after) all)

-- ---- their map

pub map_in-append : (s : Shape) (at : ℕ) (xs ys : List BlockRecord) → map_in s at (xs ++ ys) ≡ map_in s at xs ++ map_in s (at + total_of xs) ys
map_in-append s at [] ys = let same : at ≡ at + 0 = omega arith in ap (λ a. map_in s a ys) same
map_in-append s at (b ∷ bs) ys =
    let same : (at + b.size) + total_of bs ≡ at + (b.size + total_of bs) = omega arith in
    ap (λ (m : ZoneMap). block (kind_of (at + head_size s.heads) b.content) b.size ∷ m) (map_in-append s (at + b.size) bs ys ∙ ap (λ a. map_in s (at + b.size) bs ++ map_in s a ys) same)

pub map_in-total : (s : Shape) (at : ℕ) (bs : List BlockRecord) → total_size (map_in s at bs) ≡ total_of bs
map_in-total s at [] = refl
map_in-total s at (b ∷ bs) = ap (λ n. b.size + n) (map_in-total s (at + b.size) bs)

module _ (s : Shape) where
  pub rooms-in : (at : ℕ) (bs : List BlockRecord) → All (IsReadable s) bs → list_all (has_room (head_size s.heads) slot_count) (map_in s at bs) ≡ true
  rooms-in at [] all = refl
  rooms-in at (b ∷ bs) all =
      let here = All-head (IsReadable s) b bs all in
      and_from _ _ (room-of s (at + head_size s.heads) b.size b.content here.size here.long) (rooms-in (at + b.size) bs (All-tail (IsReadable s) b bs all))

  pub sizes-in : (at : ℕ) (bs : List BlockRecord) → All (IsReadable s) bs → list_all (λ (e : Entry). is_block_size s e.size) (map_in s at bs) ≡ true
  sizes-in at [] all = refl
  sizes-in at (b ∷ bs) all = and_from _ _ (All-head (IsReadable s) b bs all).size (sizes-in (at + b.size) bs (All-tail (IsReadable s) b bs all))

-- where no block passes a test, none of the map does
pub none-passes : (test : Kind → Bool) (s : Shape) (at : ℕ) (bs : List BlockRecord) → ((xs : List BlockRecord) (b : BlockRecord) (ys : List BlockRecord) (a : ℕ) → a ≡ at + total_of xs → bs ≡ xs ++ b ∷ ys → test (kind_of (a + head_size s.heads) b.content) ≡ true → ⊥)
    → list_all (λ (e : Entry). not (test e.kind)) (map_in s at bs) ≡ true
none-passes test s at [] none = refl
none-passes test s at (b ∷ bs) none =
    by_test (test (kind_of (at + head_size s.heads) b.content)) refl (none-passes test s (at + b.size) bs (λ xs c ys a place split passes. none (b ∷ xs) c ys a (omega arith) (ap (λ (cs : List BlockRecord). b ∷ cs) split) passes))
  where
    by_test : (t : Bool) → test (kind_of (at + head_size s.heads) b.content) ≡ t → list_all (λ (e : Entry). not (test e.kind)) (map_in s (at + b.size) bs) ≡ true → (not t && list_all (λ (e : Entry). not (test e.kind)) (map_in s (at + b.size) bs)) ≡ true
    by_test true is rest = absurd (none [] b bs at (omega arith) refl is)
    by_test false is rest = rest

module _ (test : Kind → Bool) (s : Shape) (at : ℕ) (bs : List BlockRecord) (all : All (IsReadable s) bs) (before : List BlockRecord) (b : BlockRecord) (after : List BlockRecord) (is : bs ≡ before ++ b ∷ after)
    (only : (xs : List BlockRecord) (c : BlockRecord) (ys : List BlockRecord) (a : ℕ) → a ≡ at + total_of xs → bs ≡ xs ++ c ∷ ys → test (kind_of (a + head_size s.heads) c.content) ≡ true → a ≡ at + total_of before) where
  positive : (xs : List BlockRecord) (c : BlockRecord) (ys : List BlockRecord) → bs ≡ xs ++ c ∷ ys → 0 < c.size
  positive xs c ys split = let large = larger s c (All-at (IsReadable s) xs c ys (subst (All (IsReadable s)) split all)) in omega arith

  -- where blocks that pass a test are at one place, none before the one there passes
  pub none-before : list_all (λ (e : Entry). not (test e.kind)) (map_in s at before) ≡ true
  none-before = none-passes test s at before (λ xs c ys a place split passes.
      let whole : bs ≡ xs ++ c ∷ (ys ++ b ∷ after) = is ∙ ap (λ (cs : List BlockRecord). cs ++ b ∷ after) split ∙ append_assoc xs (c ∷ ys) (b ∷ after) in
      let same = only xs c (ys ++ b ∷ after) a place whole passes in
      let sum = ap total_of split ∙ total_of-append xs (c ∷ ys) in
      let some = positive xs c (ys ++ b ∷ after) whole in omega arith)

  -- and none after it
  pub none-after : list_all (λ (e : Entry). not (test e.kind)) (map_in s (at + total_of before + b.size) after) ≡ true
  none-after = none-passes test s (at + total_of before + b.size) after (λ xs c ys a place split passes.
      let whole : bs ≡ (before ++ b ∷ xs) ++ c ∷ ys = is ∙ ap (λ (cs : List BlockRecord). before ++ b ∷ cs) split ∙ sym (append_assoc before (b ∷ xs) (c ∷ ys)) in
      let sum = total_of-append before (b ∷ xs) in
      let same = only (before ++ b ∷ xs) c ys a (omega arith) whole passes in
      let some = positive before b after is in omega arith)

  -- so its address is the only one of those that pass
  pub one-passes : test (kind_of (at + total_of before + head_size s.heads) b.content) ≡ true → addresses_from at test (map_in s at bs) ≡ (at + total_of before) ∷ []
  one-passes passes =
      ap (addresses_from at test) (ap (map_in s at) is ∙ map_in-append s at before (b ∷ after))
      ∙ addresses_from-append at test (map_in s at before) (map_in s (at + total_of before) (b ∷ after))
      ∙ ap (λ (xs : List ℕ). xs ++ addresses_from (at + total_size (map_in s at before)) test (map_in s (at + total_of before) (b ∷ after))) (addresses_from-none at test (map_in s at before) none-before)
      ∙ ap (λ n. addresses_from (at + n) test (map_in s (at + total_of before) (b ∷ after))) (map_in-total s at before)
      ∙ ap (λ t. cond t ((at + total_of before) ∷ []) [] ++ addresses_from (at + total_of before + b.size) test (map_in s (at + total_of before + b.size) after)) passes
      ∙ ap (λ (xs : List ℕ). (at + total_of before) ∷ xs) (addresses_from-none (at + total_of before + b.size) test (map_in s (at + total_of before + b.size) after) none-after)

-- ---- their slots

addressed-keys : (n at : ℕ) (ss : List Slot) → length ss ≡ n → map (λ e. e.0) (addressed at ss) ≡ slots_from n at
addressed-keys zero at [] long = refl
addressed-keys zero at (x ∷ ss) long = absurd (omega arith)
addressed-keys (suc n) at [] long = absurd (omega arith)
addressed-keys (suc n) at (x ∷ ss) long = ap (λ (xs : List ℕ). at ∷ xs) (addressed-keys n (at + 4) ss (omega arith))

slots_of-keys : (heads : HeadKind) (at : ℕ) (content : Content) → ContentSays heads content → map (λ e. e.0) (slots_of at content) ≡ cond (is_master (kind_of at content)) (slots_from slot_count at) []
slots_of-keys heads at Free says = refl
slots_of-keys heads at (Fixed bytes) says = refl
slots_of-keys heads at (Master ss) says = addressed-keys slot_count at ss says.0
slots_of-keys heads at (Relocatable h flags bytes) says = refl

-- their addresses are those of the map's slots
pub slot-keys : (s : Shape) (at : ℕ) (bs : List BlockRecord) → All (IsReadable s) bs → map (λ e. e.0) (all_slots s at bs) ≡ slots_at (head_size s.heads) slot_count at (map_in s at bs)
slot-keys s at [] all = refl
slot-keys s at (b ∷ bs) all =
    let head = head_size s.heads in
    map-append (λ e. e.0) (slots_of (at + head) b.content) (all_slots s (at + b.size) bs)
    ∙ ap (λ (xs : List ℕ). xs ++ map (λ e. e.0) (all_slots s (at + b.size) bs)) (slots_of-keys s.heads (at + head) b.content (All-head (IsReadable s) b bs all).says)
    ∙ ap (λ (xs : List ℕ). cond (is_master (kind_of (at + head) b.content)) (slots_from slot_count (at + head)) [] ++ xs) (slot-keys s (at + b.size) bs (All-tail (IsReadable s) b bs all))
    ∙ sym (slots_at-cons head slot_count at (block (kind_of (at + head) b.content) b.size) (map_in s (at + b.size) bs))

-- the slots of a map rise
pub rising-slots_at : (head n at low : ℕ) (m : ZoneMap) → low ≤ at + head → list_all (has_room head n) m ≡ true → IsRising low (slots_at head n at m)
rising-slots_at head n at low [] below room = tt
rising-slots_at head n at low (e ∷ es) below room =
    let rooms = and_parts (has_room head n e) (list_all (has_room head n) es) room in
    subst (IsRising low) (sym (slots_at-cons head n at e es)) (by_test (is_master e.kind) rooms.0 (rising-slots_at head n (at + e.size) (at + e.size) es (omega arith) rooms.1))
  where
    by_test : (b : Bool) → (nat_lt head e.size && (not b || nat_le (head + 4 * n) e.size)) ≡ true → IsRising (at + e.size) (slots_at head n (at + e.size) es) → IsRising low (cond b (slots_from n (at + head)) [] ++ slots_at head n (at + e.size) es)
    by_test true room rest = let large : head + 4 * n ≤ e.size = grind (arith, nat_tests) in rising-slots n low (at + head) (at + e.size) (slots_at head n (at + e.size) es) below (omega arith) rest
    by_test false room rest = let large : head < e.size = grind (arith, nat_tests) in rising-lower low (at + e.size) (slots_at head n (at + e.size) es) (omega arith) rest

-- ---- what they say is live

-- what is in the first block of the handle h, and nothing where it has none
abbrev pub block_found : ℕ → List BlockRecord → Content
block_found h [] = Free
block_found h (b ∷ bs) = cond (is_handle_block h (kind_of 0 b.content)) b.content (block_found h bs)

-- the flags that a block's header says
abbrev pub flags_in : Content → Flags
flags_in Free = no_flags
flags_in (Fixed bytes) = no_flags
flags_in (Master slots) = no_flags
flags_in (Relocatable h flags bytes) = flags

-- what a slot says is live, where the blocks are these
abbrev pub said_live : List BlockRecord → ℕ → Slot → Option Live
said_live all x (slot.Free next) = None
said_live all x slot.Empty = Some EmptyHandle
said_live all x (slot.Full flags contents) = Some (FullHandle (either_flags flags (flags_in (block_found x all))) (bytes_of (block_found x all)))

-- what is said of the numbers of a block whose contents begin at an address
abbrev pub saids_of : List BlockRecord → ℕ → Content → List (ℕ × Option Live)
saids_of all at Free = []
saids_of all at (Fixed bytes) = (at, Some (Pointer bytes)) ∷ []
saids_of all at (Master slots) = map (λ e. (e.0, said_live all e.0 e.1)) (addressed at slots)
saids_of all at (Relocatable h flags bytes) = []

-- of those of all blocks, the first at an address
abbrev pub saids : Shape → List BlockRecord → ℕ → List BlockRecord → List (ℕ × Option Live)
saids s all at [] = []
saids s all at (b ∷ bs) = saids_of all (at + head_size s.heads) b.content ++ saids s all (at + b.size) bs

said-addressed : (all : List BlockRecord) (n at : ℕ) (ss : List Slot) → length ss ≡ n → map (λ (e : ℕ × Option Live). e.0) (map (λ (e : ℕ × Slot). (e.0, said_live all e.0 e.1)) (addressed at ss)) ≡ slots_from n at
said-addressed all zero at [] long = refl
said-addressed all zero at (x ∷ ss) long = absurd (omega arith)
said-addressed all (suc n) at [] long = absurd (omega arith)
said-addressed all (suc n) at (x ∷ ss) long = ap (λ (xs : List ℕ). at ∷ xs) (said-addressed all n (at + 4) ss (omega arith))

saids_of-keys : (heads : HeadKind) (all : List BlockRecord) (at : ℕ) (content : Content) → ContentSays heads content → map (λ e. e.0) (saids_of all at content) ≡ numbers_of slot_count at (kind_of at content)
saids_of-keys heads all at Free says = refl
saids_of-keys heads all at (Fixed bytes) says = refl
saids_of-keys heads all at (Master ss) says = said-addressed all slot_count at ss says.0
saids_of-keys heads all at (Relocatable h flags bytes) says = refl

-- their numbers are those of the map
pub said-keys : (s : Shape) (all : List BlockRecord) (at : ℕ) (bs : List BlockRecord) → All (IsReadable s) bs → map (λ e. e.0) (saids s all at bs) ≡ numbers (head_size s.heads) slot_count at (map_in s at bs)
said-keys s all at [] each = refl
said-keys s all at (b ∷ bs) each =
    let head = head_size s.heads in
    map-append (λ e. e.0) (saids_of all (at + head) b.content) (saids s all (at + b.size) bs)
    ∙ ap (λ (xs : List ℕ). xs ++ map (λ e. e.0) (saids s all (at + b.size) bs)) (saids_of-keys s.heads all (at + head) b.content (All-head (IsReadable s) b bs each).says)
    ∙ ap (λ (xs : List ℕ). numbers_of slot_count (at + head) (kind_of (at + head) b.content) ++ xs) (said-keys s all (at + b.size) bs (All-tail (IsReadable s) b bs each))

-- a slot says what is said of its number
pub slot-said : (s : Shape) (all : List BlockRecord) (at : ℕ) (bs : List BlockRecord) (x : ℕ) (sl : Slot) → Contains (all_slots s at bs) (x, sl) → Contains (saids s all at bs) (x, said_live all x sl)
slot-said s all at [] x sl c = absurd (none_is (x, sl) c)
slot-said s all at (b ∷ bs) x sl c = elim (Contains-append_cases (slots_of (at + head_size s.heads) b.content) (all_slots s (at + b.size) bs) (x, sl) c) [
  | inl first ↦ Contains-append_left (saids_of all (at + head_size s.heads) b.content) (saids s all (at + b.size) bs) (x, said_live all x sl) (in_block b.content first)
  | inr later ↦ Contains-append_right (saids_of all (at + head_size s.heads) b.content) (saids s all (at + b.size) bs) (x, said_live all x sl) (slot-said s all (at + b.size) bs x sl later)
]
  where
    in_block : (content : Content) → Contains (slots_of (at + head_size s.heads) content) (x, sl) → Contains (saids_of all (at + head_size s.heads) content) (x, said_live all x sl)
    in_block Free c = absurd (none_is (x, sl) c)
    in_block (Fixed bytes) c = absurd (none_is (x, sl) c)
    in_block (Master ss) c = Contains-mapped (λ (e : ℕ × Slot). (e.0, said_live all e.0 e.1)) (addressed (at + head_size s.heads) ss) (x, sl) c
    in_block (Relocatable h flags bytes) c = absurd (none_is (x, sl) c)

-- a pointer's block among others, whose contents begin at an address
pub record PointerIn (s : Shape) (at : ℕ) (bs : List BlockRecord) (x : ℕ) (bytes : List ℕ) : Type 0 where
  pub before : List BlockRecord
  pub size : ℕ
  pub lent : Bool
  pub after : List BlockRecord
  pub blocks : bs ≡ before ++ record { size = size; content = Fixed bytes; lent = lent } ∷ after
  pub place : x ≡ at + total_of before + head_size s.heads

-- its bytes are said
said-there : (s : Shape) (all : List BlockRecord) (at : ℕ) (before : List BlockRecord) (b : BlockRecord) (after : List BlockRecord) (x : ℕ) (bytes : List ℕ) → b.content ≡ Fixed bytes → x ≡ at + total_of before + head_size s.heads
    → Contains (saids s all at (before ++ b ∷ after)) (x, Some (Pointer bytes))
said-there s all at [] b after x bytes is place =
    let here : at + head_size s.heads ≡ x = omega arith in
    subst (λ c. Contains (saids_of all (at + head_size s.heads) c ++ saids s all (at + b.size) after) (x, Some (Pointer bytes))) (sym is)
    (subst (λ a. Contains ((at + head_size s.heads, Some (Pointer bytes)) ∷ saids s all (at + b.size) after) (a, Some (Pointer bytes))) here
    (first_is (at + head_size s.heads, Some (Pointer bytes)) (saids s all (at + b.size) after)))
said-there s all at (y ∷ before) b after x bytes is place =
    Contains-append_right (saids_of all (at + head_size s.heads) y.content) (saids s all (at + y.size) (before ++ b ∷ after)) (x, Some (Pointer bytes)) (said-there s all (at + y.size) before b after x bytes is (omega arith))

pub pointer-said : (s : Shape) (all : List BlockRecord) (at : ℕ) (bs : List BlockRecord) (x : ℕ) (bytes : List ℕ) → PointerIn s at bs x bytes → Contains (saids s all at bs) (x, Some (Pointer bytes))
pointer-said s all at bs x bytes p = subst (λ (bs : List BlockRecord). Contains (saids s all at bs) (x, Some (Pointer bytes))) (sym p.blocks) (said-there s all at p.before _ p.after x bytes refl p.place)

-- what is said of a number is said by its slot, or is that of a pointer
abbrev pub Sayer : Shape → List BlockRecord → ℕ → List BlockRecord → ℕ → Option Live → Type 0
Sayer s all at bs x o = ((sl : Slot) × Contains (all_slots s at bs) (x, sl) × (said_live all x sl ≡ o)) ⊎ ((bytes : List ℕ) × PointerIn s at bs x bytes × (Some (Pointer bytes) ≡ o))

pub said-cases : (s : Shape) (all : List BlockRecord) (at : ℕ) (bs : List BlockRecord) (x : ℕ) (o : Option Live) → Contains (saids s all at bs) (x, o) → Sayer s all at bs x o
said-cases s all at [] x o c = absurd (none_is (x, o) c)
said-cases s all at (b ∷ bs) x o c = elim (Contains-append_cases (saids_of all (at + head_size s.heads) b.content) (saids s all (at + b.size) bs) (x, o) c) [
  | inl first ↦ in_block b.content refl first
  | inr later ↦ in_others (said-cases s all (at + b.size) bs x o later)
]
  where
    in_block : (content : Content) → b.content ≡ content → Contains (saids_of all (at + head_size s.heads) content) (x, o) → Sayer s all at (b ∷ bs) x o
    in_block Free is c = absurd (none_is (x, o) c)
    in_block (Relocatable h flags bytes) is c = absurd (none_is (x, o) c)
    in_block (Fixed bytes) is c = elim (cons_cases (at + head_size s.heads, Some (Pointer bytes)) [] (x, o) c) [
      | inl same ↦ inr (
        bytes,
        record {
          before = [];
          size = b.size;
          lent = b.lent;
          after = bs;
          blocks = ap (λ c. record { size = b.size; content = c; lent = b.lent } ∷ bs) is;
          place = (let key : at + head_size s.heads ≡ x = ap (λ e. e.0) same in omega arith);
        },
        ap (λ e. e.1) same,
      )
      | inr none ↦ absurd (none_is (x, o) none)
    ]
    in_block (Master ss) is c =
        let from = Contains-map (λ (e : ℕ × Slot). (e.0, said_live all e.0 e.1)) (addressed (at + head_size s.heads) ss) (x, o) c in
        let key : from.0.0 ≡ x = ap (λ e. e.0) from.2 in
        inl (
          from.0.1,
          Contains-append_left (slots_of (at + head_size s.heads) b.content) (all_slots s (at + b.size) bs) (x, from.0.1)
              (subst (λ c. Contains (slots_of (at + head_size s.heads) c) (x, from.0.1)) (sym is) (subst (λ y. Contains (addressed (at + head_size s.heads) ss) (y, from.0.1)) key from.1)),
          ap (λ y. said_live all y from.0.1) (sym key) ∙ ap (λ e. e.1) from.2,
        )

    in_others : Sayer s all (at + b.size) bs x o → Sayer s all at (b ∷ bs) x o
    in_others (inl said) = inl (said.0, Contains-append_right (slots_of (at + head_size s.heads) b.content) (all_slots s (at + b.size) bs) (x, said.0) said.1, said.2)
    in_others (inr pointer) = let p = pointer.1 in let place = p.place in inr (
      pointer.0,
      record { before = b ∷ p.before; size = p.size; lent = p.lent; after = p.after; blocks = ap (λ (cs : List BlockRecord). b ∷ cs) p.blocks; place = omega arith },
      pointer.2,
    )
