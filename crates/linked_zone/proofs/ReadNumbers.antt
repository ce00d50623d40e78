-- The numbers that the blocks of a map can have, in order: those of slots and of pointers. A table is read off at each
-- of them.
use Rattle.std.proofs.Common.{◌≡◌, ◌≢◌, ℕ, zero, suc, ◌+◌, ◌*◌, ◌<◌, ◌≤◌, Bool, true, false, not, ◌&&◌, ◌||◌, nat_le, nat_lt, cond, eqb, List, [], ◌∷◌, ◌++◌, flat_map, Option, Some, None, refl, ap, sym, ◌∙◌, subst, arith, Contains, inl, inr}
use Rattle.std.specs.Prelude.{⊤}
use Rattle.std.specs.List.{list_all}
use Rattle.std.specs.Ordering.{nat_cmp, eq_by_cmp, is_lt}
use Rattle.std.specs.FinMap.{find, is_sorted}
use Rattle.std.specs.FinMap.Entries.{below_all}
use Rattle.std.proofs.lemmas.Bool.Decides.{nat_tests}
use Rattle.std.proofs.lemmas.List.Elements.{Contains-append_left, Contains-append_right, Contains-append_cases}
use Rattle.std.proofs.lemmas.Bool.{and_parts, and_from, eqb-true}
use Rattle.mac_base.specs.declared.block.Kind.{Kind}
use Rattle.mac_base.specs.declared.block.Kind.TheVariants.{Free, Master, Ptr, Rel}
use Rattle.mac_base.specs.ZoneMap.{ZoneMap, is_master, addresses_from}
use Rattle.mac_base.specs.Suits.{slots_from, is_pointer_block}
use Rattle.mac_base.specs.HandleTable.{Live}
use Rattle.zone_laws.proofs.SlotPlaces.{Contains-cons_cases, Contains-here, Contains-later, Contains-none, has_room, slots_at, slots_at-cons, some_size}

-- numbers that rise, none of them below a bound
abbrev pub IsRising : ℕ → List ℕ → Type 0
IsRising low [] = ⊤
IsRising low (x ∷ xs) = (low ≤ x) × IsRising (suc x) xs

-- the bound may be lower
pub rising-lower : (low high : ℕ) (xs : List ℕ) → low ≤ high → IsRising high xs → IsRising low xs
rising-lower low high [] below h = tt
rising-lower low high (x ∷ xs) below h = let first = h.0 in (omega arith, h.1)

-- each is at the bound or above
pub rising-above : (low : ℕ) (xs : List ℕ) (y : ℕ) → IsRising low xs → Contains xs y → low ≤ y
rising-above low [] y h c = absurd (Contains-none y c)
rising-above low (x ∷ xs) y h c = let first = h.0 in elim (Contains-cons_cases x xs y c) [
  | inl is ↦ omega arith
  | inr later ↦ let rest = rising-above (suc x) xs y h.1 later in omega arith
]

-- slots rise, and so do numbers after them
pub rising-slots : (n low at high : ℕ) (xs : List ℕ) → low ≤ at → at + 4 * n ≤ high → IsRising high xs → IsRising low (slots_from n at ++ xs)
rising-slots zero low at high xs below end h = rising-lower low high xs (omega arith) h
rising-slots (suc n) low at high xs below end h = (below, rising-slots n (suc at) (at + 4) high xs (omega arith) (omega arith) h)

-- the numbers of a block of this kind whose contents begin at an address, where a master block has n slots
abbrev pub numbers_of : ℕ → ℕ → Kind → List ℕ
numbers_of n at Free = []
numbers_of n at Master = slots_from n at
numbers_of n at (Ptr p) = at ∷ []
numbers_of n at (Rel h) = []

-- those of all blocks, the first at an address, where a header has so many bytes
abbrev pub numbers : ℕ → ℕ → ℕ → ZoneMap → List ℕ
numbers head n at [] = []
numbers head n at (e ∷ es) = numbers_of n (at + head) e.kind ++ numbers head n (at + e.size) es

-- the numbers of a block rise, and so do numbers after them
rising-block : (n low at high : ℕ) (kind : Kind) (xs : List ℕ) → low ≤ at → at < high → (is_master kind ≡ true → at + 4 * n ≤ high) → IsRising high xs → IsRising low (numbers_of n at kind ++ xs)
rising-block n low at high Free xs below some room h = rising-lower low high xs (omega arith) h
rising-block n low at high Master xs below some room h = rising-slots n low at high xs below (room refl) h
rising-block n low at high (Ptr p) xs below some room h = (below, rising-lower (suc at) high xs (omega arith) h)
rising-block n low at high (Rel g) xs below some room h = rising-lower low high xs (omega arith) h

-- and a master block has room for its slots
room_master : (head n size : ℕ) (b : Bool) → (nat_lt head size && (not b || nat_le (head + 4 * n) size)) ≡ true → b ≡ true → head + 4 * n ≤ size
room_master head n size true h is = grind (arith, nat_tests)
room_master head n size false h is = absurd (cc is)

-- the numbers of all blocks rise
pub rising-numbers : (head n at low : ℕ) (m : ZoneMap) → low ≤ at + head → list_all (has_room head n) m ≡ true → IsRising low (numbers head n at m)
rising-numbers head n at low [] below room = tt
rising-numbers head n at low (e ∷ es) below room =
    let rooms = and_parts (has_room head n e) (list_all (has_room head n) es) room in
    let some = some_size head n e rooms.0 in
    let rest = rising-numbers head n (at + e.size) (at + e.size) es (omega arith) rooms.1 in
    rising-block n low (at + head) (at + e.size) e.kind _ below (omega arith)
    (λ is. let large = room_master head n e.size (is_master e.kind) rooms.0 is in omega arith) rest

-- a slot of a block or of those after it is one of their numbers
slot_in_block : (n at : ℕ) (kind : Kind) (xs ys : List ℕ) (x : ℕ) → (Contains xs x → Contains ys x) → Contains (cond (is_master kind) (slots_from n at) [] ++ xs) x → Contains (numbers_of n at kind ++ ys) x
slot_in_block n at Free xs ys x later c = later c
slot_in_block n at Master xs ys x later c = elim (Contains-append_cases (slots_from n at) xs x c) [
  | inl first ↦ Contains-append_left (slots_from n at) ys x first
  | inr rest ↦ Contains-append_right (slots_from n at) ys x (later rest)
]
slot_in_block n at (Ptr p) xs ys x later c = Contains-append_right (at ∷ []) ys x (later c)
slot_in_block n at (Rel h) xs ys x later c = later c

-- each slot is one of the numbers
pub slot-numbers : (head n at : ℕ) (m : ZoneMap) (x : ℕ) → Contains (slots_at head n at m) x → Contains (numbers head n at m) x
slot-numbers head n at [] x c = c
slot-numbers head n at (e ∷ es) x c =
    slot_in_block n (at + head) e.kind (slots_at head n (at + e.size) es) (numbers head n (at + e.size) es) x (slot-numbers head n (at + e.size) es x) (subst (λ xs. Contains xs x) (slots_at-cons head n at e es) c)

-- the contents of a block that passes a test begin at its number
pointer_here : (head at a : ℕ) (b : Bool) → Contains (cond b (at ∷ []) []) a → Contains ((at + head) ∷ []) (a + head)
pointer_here head at a false c = absurd (Contains-none a c)
pointer_here head at a true c = elim (Contains-cons_cases at [] a c) [
  | inl is ↦ subst (λ y. Contains ((at + head) ∷ []) (y + head)) is (Contains-here (at + head) [])
  | inr later ↦ absurd (Contains-none a later)
]

-- the place of a pointer's contents in a block or after it is one of their numbers
pointer_in_block : (head n at p : ℕ) (kind : Kind) (xs ys : List ℕ) (a : ℕ) → (Contains xs a → Contains ys (a + head)) → Contains (cond (is_pointer_block p kind) (at ∷ []) [] ++ xs) a → Contains (numbers_of n (at + head) kind ++ ys) (a + head)
pointer_in_block head n at p Free xs ys a later c = later c
pointer_in_block head n at p Master xs ys a later c = Contains-append_right (slots_from n (at + head)) ys (a + head) (later c)
pointer_in_block head n at p (Rel h) xs ys a later c = later c
pointer_in_block head n at p (Ptr q) xs ys a later c = elim (Contains-append_cases (cond (eqb q p) (at ∷ []) []) xs a c) [
  | inl first ↦ Contains-append_left ((at + head) ∷ []) ys (a + head) (pointer_here head at a (eqb q p) first)
  | inr rest ↦ Contains-append_right ((at + head) ∷ []) ys (a + head) (later rest)
]

-- and so is the place of each pointer's contents
pub pointer-numbers : (head n at p : ℕ) (m : ZoneMap) (a : ℕ) → Contains (addresses_from at (is_pointer_block p) m) a → Contains (numbers head n at m) (a + head)
pointer-numbers head n at p [] a c = absurd (Contains-none a c)
pointer-numbers head n at p (e ∷ es) a c = pointer_in_block head n at p e.kind (addresses_from (at + e.size) (is_pointer_block p) es) (numbers head n (at + e.size) es) a (pointer-numbers head n (at + e.size) p es a) c

-- x with what it is, and nothing where it isn't live
abbrev pub entry_of : ℕ → Option Live → List (ℕ × Live)
entry_of x None = []
entry_of x (Some l) = (x, l) ∷ []

-- no key is found that all keys are above
pub find-below : (x : ℕ) (es : List (ℕ × Live)) → below_all nat_cmp x es ≡ true → find nat_cmp x es ≡ None
find-below x [] h = refl
find-below x (e ∷ es) h =
    let parts = and_parts (is_lt (nat_cmp x e.0)) (below_all nat_cmp x es) h in
    let less = parts.0 in
    let apart : eq_by_cmp nat_cmp x e.0 ≡ false = grind (arith, nat_tests) in
    ap (λ b. cond b (Some e.1) (find nat_cmp x es)) apart ∙ find-below x es parts.1

-- the first key is found
pub find-first : (x : ℕ) (e : ℕ × Live) (es : List (ℕ × Live)) → x ≡ e.0 → find nat_cmp x (e ∷ es) ≡ Some e.1
find-first x e es is = let here : eq_by_cmp nat_cmp x e.0 ≡ true = grind (arith, nat_tests) in ap (λ b. cond b (Some e.1) (find nat_cmp x es)) here

-- any other is one of the rest
pub find-later : (x : ℕ) (e : ℕ × Live) (es : List (ℕ × Live)) → x ≢ e.0 → find nat_cmp x (e ∷ es) ≡ find nat_cmp x es
find-later x e es other = let apart : eq_by_cmp nat_cmp x e.0 ≡ false = grind (arith, nat_tests) in ap (λ b. cond b (Some e.1) (find nat_cmp x es)) apart

-- a lower number is below all keys too
below-more : (x y : ℕ) (es : List (ℕ × Live)) → x < y → below_all nat_cmp y es ≡ true → below_all nat_cmp x es ≡ true
below-more x y [] less h = refl
below-more x y (e ∷ es) less h =
    let parts = and_parts (is_lt (nat_cmp y e.0)) (below_all nat_cmp y es) h in
    let above = parts.0 in
    let here : is_lt (nat_cmp x e.0) ≡ true = grind (arith, nat_tests) in
    and_from _ _ here (below-more x y es less parts.1)

-- entries in order are those that are read off at numbers that rise, all keys among them
pub entries-read : (low : ℕ) (ns : List ℕ) (es : List (ℕ × Live)) (f : ℕ → Option Live) → IsRising low ns → is_sorted nat_cmp es ≡ true
    → ((x : ℕ) → Contains ns x → f x ≡ find nat_cmp x es) → ((x : ℕ) (l : Live) → find nat_cmp x es ≡ Some l → Contains ns x) → flat_map (λ x. entry_of x (f x)) ns ≡ es
entries-read low [] [] f rise order same keys = refl
entries-read low [] (e ∷ es) f rise order same keys = absurd (Contains-none e.0 (keys e.0 e.1 (find-first e.0 e es refl)))
entries-read low (n ∷ ns) [] f rise order same keys =
    ap (λ o. entry_of n o ++ flat_map (λ x. entry_of x (f x)) ns) (same n (Contains-here n ns))
    ∙ entries-read (suc n) ns [] f rise.1 refl (λ x c. same x (Contains-later n ns x c)) (λ x l is. absurd (cc is))
entries-read low (n ∷ ns) (e ∷ es) f rise order same keys =
    let parts = and_parts (below_all nat_cmp e.0 es) (is_sorted nat_cmp es) order in
    elim (eqb n e.0) as (λ b. eqb n e.0 ≡ b → flat_map (λ x. entry_of x (f x)) (n ∷ ns) ≡ e ∷ es) [
      | true ↦ λ test.
          let is : n ≡ e.0 = eqb-true n e.0 test in
          let rest = entries-read (suc n) ns es f rise.1 parts.1
          (λ x c. let above = rising-above (suc n) ns x rise.1 c in same x (Contains-later n ns x c) ∙ find-later x e es (omega arith))
          (λ x l found. elim (Contains-cons_cases n ns x (keys x l (find-later x e es (not_first x l e es n is parts.0 found) ∙ found))) [
            | inl first ↦ absurd (not_first x l e es n is parts.0 found (sym first ∙ is))
            | inr later ↦ later
          ]) in
          ap (λ o. entry_of n o ++ flat_map (λ x. entry_of x (f x)) ns) (same n (Contains-here n ns) ∙ find-first n e es is)
          ∙ ap (λ k. (k, e.1) ∷ flat_map (λ x. entry_of x (f x)) ns) is ∙ ap (λ (fs : List (ℕ × Live)). e ∷ fs) rest
      | false ↦ λ test.
          let other : n ≢ e.0 = grind (arith, nat_tests) in
          let later : Contains ns e.0 = other_number n ns e.0 other (keys e.0 e.1 (find-first e.0 e es refl)) in
          let above = rising-above (suc n) ns e.0 rise.1 later in
          let less : n < e.0 = omega arith in
          let none : find nat_cmp n (e ∷ es) ≡ None = find-later n e es other ∙ find-below n es (below-more n e.0 es less parts.0) in
          ap (λ o. entry_of n o ++ flat_map (λ x. entry_of x (f x)) ns) (same n (Contains-here n ns) ∙ none)
          ∙ entries-read (suc n) ns (e ∷ es) f rise.1 order (λ x c. same x (Contains-later n ns x c))
          (λ x l found. other_number n ns x (λ is. absurd (cc (sym none ∙ ap (λ k. find nat_cmp k (e ∷ es)) is ∙ found))) (keys x l found))
    ] refl
  where
    other_number : (n : ℕ) (ns : List ℕ) (x : ℕ) → n ≢ x → Contains (n ∷ ns) x → Contains ns x
    other_number n ns x apart c = elim (Contains-cons_cases n ns x c) [ inl is ↦ absurd (apart is) | inr later ↦ later ]

    not_first : (x : ℕ) (l : Live) (e : ℕ × Live) (es : List (ℕ × Live)) (n : ℕ) → n ≡ e.0 → below_all nat_cmp e.0 es ≡ true → find nat_cmp x es ≡ Some l → x ≢ e.0
    not_first x l e es n is below found same = absurd (cc (sym found ∙ ap (λ k. find nat_cmp k es) same ∙ find-below e.0 es below))
