-- Where slots lie: within the contents of master blocks, so no other block's contents begin at one.
use Rattle.std.proofs.Common.{◌≡◌, ℕ, zero, suc, ◌+◌, ◌*◌, ◌<◌, ◌≤◌, Bool, true, false, not, ◌&&◌, ◌||◌, nat_le, nat_lt, cond, List, [], ◌∷◌, ◌++◌, map, flat_map, refl, arith, Contains, subst, ◌⊎◌, inl, inr}
use Rattle.std.specs.List.{list_all}
use Rattle.std.proofs.lemmas.Bool.Decides.{nat_tests}
use Rattle.std.proofs.lemmas.List.Elements.{Contains-append_cases}
use Rattle.std.proofs.lemmas.Bool.{and_parts}
use Rattle.mac_base.specs.declared.block.Entry.{Entry}
use Rattle.mac_base.specs.declared.block.Kind.{Kind}
use Rattle.mac_base.specs.ZoneMap.{ZoneMap, is_master, addresses_from}
use Rattle.mac_base.specs.Suits.{slots_from}

-- an element is the first one or among the others
pub Contains-cons_cases : (x : ℕ) (xs : List ℕ) (y : ℕ) → Contains (x ∷ xs) y → (x ≡ y) ⊎ Contains xs y
Contains-cons_cases x xs y c = grind arith

-- the first element is there
pub Contains-here : (x : ℕ) (xs : List ℕ) → Contains (x ∷ xs) x
Contains-here x xs = (0, omega arith, refl)

-- so is each of the others
pub Contains-later : (x : ℕ) (xs : List ℕ) (y : ℕ) → Contains xs y → Contains (x ∷ xs) y
Contains-later x xs y c = (suc c.0, (let below = c.1 in omega arith), c.2)

-- an empty list has none
pub Contains-none : (y : ℕ) → Contains [] y → ⊥
Contains-none y c = let below = c.1 in omega arith

-- the same of a list whose first element is there where a test passes
first_or_rest : (b : Bool) (a : ℕ) (rest : List ℕ) (x : ℕ) → Contains (cond b (a ∷ []) [] ++ rest) x → ((b ≡ true) × (a ≡ x)) ⊎ Contains rest x
first_or_rest false a rest x c = inr c
first_or_rest true a rest x c = elim (Contains-cons_cases a rest x c) [ inl h ↦ inl (refl, h) | inr h ↦ inr h ]

-- a slot lies at or after the first, and its four bytes are among those of n slots
pub slots_from-bounds : (n at h : ℕ) → Contains (slots_from n at) h → (at ≤ h) × (h + 4 ≤ at + 4 * n)
slots_from-bounds zero at h c = absurd (Contains-none h c)
slots_from-bounds (suc n) at h c = elim (Contains-cons_cases at (slots_from n (at + 4)) h c) [
  | inl is ↦ (omega arith, omega arith)
  | inr later ↦ let rest = slots_from-bounds n (at + 4) h later in (omega arith, omega arith)
]

-- the slots of a map whose first block is at an address, where a header has so many bytes and a master block n
-- slots
abbrev pub slots_at : ℕ → ℕ → ℕ → ZoneMap → List ℕ
slots_at head n at m = flat_map (slots_from n) (map (λ a. a + head) (addresses_from at is_master m))

pub slots_at-cons : (head n at : ℕ) (e : Entry) (es : ZoneMap) → slots_at head n at (e ∷ es) ≡ cond (is_master e.kind) (slots_from n (at + head)) [] ++ slots_at head n (at + e.size) es
slots_at-cons head n at e es = grind arith

-- whether each block is larger than a header, and each master block has room for n slots
abbrev pub has_room : ℕ → ℕ → Entry → Bool
has_room head n e = nat_lt head e.size && (not (is_master e.kind) || nat_le (head + 4 * n) e.size)

-- a slot of the first block or of the others
in_first : (head n at : ℕ) (e : Entry) (h : ℕ) → has_room head n e ≡ true → Contains (cond (is_master e.kind) (slots_from n (at + head)) []) h → (is_master e.kind ≡ true) × (at + head ≤ h) × (h + 4 ≤ at + e.size)
in_first head n at e h room = by_test (is_master e.kind) refl
  where
    by_test : (b : Bool) → is_master e.kind ≡ b → Contains (cond b (slots_from n (at + head)) []) h → (b ≡ true) × (at + head ≤ h) × (h + 4 ≤ at + e.size)
    by_test false is c = absurd (Contains-none h c)
    by_test true is c =
        let bounds = slots_from-bounds n (at + head) h c in
        let large : head + 4 * n ≤ e.size = grind (arith, nat_tests) in
        (refl, omega arith, omega arith)

-- a slot lies in the first block, a master block, or is one of the others
pub slot_cases : (head n at : ℕ) (e : Entry) (es : ZoneMap) (h : ℕ) → has_room head n e ≡ true → Contains (slots_at head n at (e ∷ es)) h
    → ((is_master e.kind ≡ true) × (at + head ≤ h) × (h + 4 ≤ at + e.size)) ⊎ Contains (slots_at head n (at + e.size) es) h
slot_cases head n at e es h room c = elim (Contains-append_cases _ _ h (subst (λ xs. Contains xs h) (slots_at-cons head n at e es) c)) [
  | inl first ↦ inl (in_first head n at e h room first)
  | inr later ↦ inr later
]

-- a slot lies after the first header
pub slots_at-above : (head n at : ℕ) (m : ZoneMap) (h : ℕ) → list_all (has_room head n) m ≡ true → Contains (slots_at head n at m) h → at + head ≤ h
slots_at-above head n at [] h room c = absurd (Contains-none h c)
slots_at-above head n at (e ∷ es) h room c =
    let rooms = and_parts (has_room head n e) (list_all (has_room head n) es) room in
    elim (slot_cases head n at e es h rooms.0 c) [
      | inl first ↦ first.1
      | inr later ↦ let rest = slots_at-above head n (at + e.size) es h rooms.1 later in omega arith
    ]

-- what passes lies at the first block or after
pub addresses_from-above : (at : ℕ) (test : Kind → Bool) (m : ZoneMap) (a : ℕ) → Contains (addresses_from at test m) a → at ≤ a
addresses_from-above at test [] a c = absurd (Contains-none a c)
addresses_from-above at test (e ∷ es) a c = elim (first_or_rest (test e.kind) at (addresses_from (at + e.size) test es) a c) [
  | inl first ↦ (let same = first.1 in omega arith)
  | inr later ↦ let rest = addresses_from-above (at + e.size) test es a later in omega arith
]

pub some_size : (head n : ℕ) (e : Entry) → has_room head n e ≡ true → head < e.size
some_size head n e h = grind (arith, nat_tests)

-- the contents of a block that is no master block don't begin at a slot
pub slot_no_contents : (head n at : ℕ) (test : Kind → Bool) → ((kind : Kind) → test kind ≡ true → is_master kind ≡ false) → (m : ZoneMap) (a : ℕ) → list_all (has_room head n) m ≡ true
    → Contains (addresses_from at test m) a → Contains (slots_at head n at m) (a + head) → ⊥
slot_no_contents head n at test other [] a room c d = Contains-none a c
slot_no_contents head n at test other (e ∷ es) a room c d =
    let rooms = and_parts (has_room head n e) (list_all (has_room head n) es) room in
    let large = some_size head n e rooms.0 in
    let in_block = first_or_rest (test e.kind) at (addresses_from (at + e.size) test es) a c in
    let in_slot = slot_cases head n at e es (a + head) rooms.0 d in
    elim in_block [
      | inl first ↦ (let same = first.1 in elim in_slot [
        | inl slot ↦ absurd (cc (other e.kind first.0, slot.0))
        | inr later ↦ (let above = slots_at-above head n (at + e.size) es (a + head) rooms.1 later in omega arith)
      ])
      | inr after ↦ (let above = addresses_from-above (at + e.size) test es a after in elim in_slot [
        | inl slot ↦ (let end = slot.2 in omega arith)
        | inr later ↦ slot_no_contents head n (at + e.size) test other es a rooms.1 after later
      ])
    ]

-- two blocks at one address are one
pub one_block_at : (head n at : ℕ) (test other : Kind → Bool) → ((kind : Kind) → test kind ≡ true → other kind ≡ false) → (m : ZoneMap) (a : ℕ) → list_all (has_room head n) m ≡ true
    → Contains (addresses_from at test m) a → Contains (addresses_from at other m) a → ⊥
one_block_at head n at test other apart [] a room c d = Contains-none a c
one_block_at head n at test other apart (e ∷ es) a room c d =
    let rooms = and_parts (has_room head n e) (list_all (has_room head n) es) room in
    let large = some_size head n e rooms.0 in
    let one = first_or_rest (test e.kind) at (addresses_from (at + e.size) test es) a c in
    let two = first_or_rest (other e.kind) at (addresses_from (at + e.size) other es) a d in
    elim one [
      | inl first ↦ (let same = first.1 in elim two [
        | inl second ↦ absurd (cc (apart e.kind first.0, second.0))
        | inr later ↦ (let above = addresses_from-above (at + e.size) other es a later in omega arith)
      ])
      | inr after ↦ (let above = addresses_from-above (at + e.size) test es a after in elim two [
        | inl second ↦ (let end = second.1 in omega arith)
        | inr later ↦ one_block_at head n (at + e.size) test other apart es a rooms.1 after later
      ])
    ]
