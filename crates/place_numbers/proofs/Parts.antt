-- What the three lists of marks say of the numbers.
use Rattle.std.proofs.Common.{◌≡◌, Option, None, Some, IfNone, IfSome, ℕ, zero, suc, not, nat_eq, refl, List, length, replicate, sym, ap, ◌∙◌, ◌+◌, ◌-◌, ◌<◌, ◌≤◌, inl, inr, get_or, arith, get_or-set_same, get_or-set_other, length-set}
use Rattle.std.proofs.Math.ListN.{set}
use Rattle.std.proofs.lemmas.Bool.{cases_eq, cases_lt}
use Rattle.std.proofs.lemmas.Option.{IfSome_then}
use Rattle.std.proofs.lemmas.List.{ext_get_or, get_or_past}
use Rattle.std.proofs.lemmas.List.FromFn.{length-map-range_with_len, get_or-map-range_with_len}
use Rattle.place_numbers.specs.Bits.{mark_of}
use Rattle.place_numbers.specs.Numbers.{number_at, numbers_of, AreParts, FirstAtLeast, LastAtLeast}
use Rattle.place_numbers.specs.Shifted.{shifted_down, shifted_up}
use Rattle.place_numbers.proofs.Moved.{zeros-at, shifted-down, shifted-up}

-- what is said of an answer, if there is none
none-then : {P Q : Type 0} (r : Option ℕ) → IfNone r P → (P → Q) → IfNone r Q
none-then None p f = f p
none-then (Some x) p f = p

-- a list of marks says which numbers are at least k
pub record IsMarked (row now : List ℕ) (k : ℕ) : Type 0 where
  pub count : length row ≡ length now
  pub large : (j : ℕ) → 1 ≤ get_or row j 0 → k ≤ get_or now j 0
  pub small : (j : ℕ) → get_or row j 0 < 1 → get_or now j 0 < k

module _ (row now : List ℕ) (k : ℕ) (marked : IsMarked row now k) where
  pub first-number : (r : Option ℕ) (from : ℕ) → IfSome r (λ at. FirstAtLeast row 1 from at) → IfSome r (λ at. FirstAtLeast now k from at)
  first-number r from found = IfSome_then r found (λ at it. record {
    inside = let within = it.inside in let count = marked.count in (within.0, (omega arith));
    large = marked.large at it.large;
    first = λ j past below. marked.small j (it.first j past below);
  })

  pub no-first-number : (r : Option ℕ) (from : ℕ) → IfNone r ((j : ℕ) → from ≤ j → j < length row → get_or row j 0 < 1)
      → IfNone r ((j : ℕ) → from ≤ j → j < length now → get_or now j 0 < k)
  no-first-number r from none = none-then r none (λ no j past below. let count = marked.count in marked.small j (no j past (omega arith)))

  pub last-number : (r : Option ℕ) (end : ℕ) → IfSome r (λ at. LastAtLeast row 1 end at) → IfSome r (λ at. LastAtLeast now k end at)
  last-number r end found = IfSome_then r found (λ at it. record {
    inside = it.inside;
    large = marked.large at it.large;
    last = λ j above below. marked.small j (it.last j above below);
  })

  pub no-last-number : (r : Option ℕ) (end : ℕ) → IfNone r ((j : ℕ) → j < end → get_or row j 0 < 1) → IfNone r ((j : ℕ) → j < end → get_or now j 0 < k)
  no-last-number r end none = none-then r none (λ no j below. marked.small j (no j below))

pub length-numbers : (some middle most : List ℕ) → length (numbers_of some middle most) ≡ length some
length-numbers some middle most = length-map-range_with_len (number_at some middle most) 0 (length some)

module _ (some middle most : List ℕ) (parts : AreParts some middle most) where
  at : (j : ℕ) → get_or (numbers_of some middle most) j 0 ≡ number_at some middle most j
  at j = elim (cases_lt j (length some)) [
    | inl inside ↦ get_or-map-range_with_len (number_at some middle most) 0 (length some) j j 0 inside (omega arith)
    | inr past ↦
        let none = get_or_past some j 0 past in let each = parts.each j in let l = length-numbers some middle most in
        get_or_past (numbers_of some middle most) j 0 (omega arith) ∙ (let e : 0 ≡ number_at some middle most j = omega arith in e)
  ]

  -- lists that have each number of this one
  pub only-numbers : (now : List ℕ) → length some ≡ length now → ((j : ℕ) → j < length now → number_at some middle most j ≡ get_or now j 0) → numbers_of some middle most ≡ now
  only-numbers now count same =
      let l = length-numbers some middle most in
      ext_get_or 0 (numbers_of some middle most) now (l ∙ count) (λ j inside. at j ∙ same j (omega arith))

  module _ (now : List ℕ) (view : numbers_of some middle most ≡ now) where
    pub long : length now ≡ length some
    long = ap length (sym view) ∙ length-numbers some middle most

    pub value : (j : ℕ) → get_or now j 0 ≡ number_at some middle most j
    value j = ap (λ (l : List ℕ). get_or l j 0) (sym view) ∙ at j

    pub some-marked : IsMarked some now 1
    some-marked = record {
      count = sym long;
      large = λ j one. let v = value j in omega arith;
      small = λ j none. let v = value j in let each = parts.each j in omega arith;
    }

    pub most-marked : IsMarked most now 3
    most-marked = record {
      count = parts.most_count ∙ sym long;
      large = λ j one. let v = value j in let each = parts.each j in omega arith;
      small = λ j none. let v = value j in let each = parts.each j in let few = parts.one j in omega arith;
    }

-- no marks
pub no-parts : (n : ℕ) → AreParts (replicate n 0) (replicate n 0) (replicate n 0)
no-parts n = record {
  middle_count = refl;
  most_count = refl;
  one = λ j. let none = zeros-at n j in omega arith;
  each = λ j. let none = zeros-at n j in omega arith;
}

pub zeros : (n : ℕ) → numbers_of (replicate n 0) (replicate n 0) (replicate n 0) ≡ replicate n 0
zeros n = only-numbers (replicate n 0) (replicate n 0) (replicate n 0) (no-parts n) (replicate n 0) refl (λ j inside. let none = zeros-at n j in omega arith)

-- a change of lists of one length after which each place has what was at another place, or 0 where that is past the end
pub record IsMove (n : ℕ) (f : List ℕ → List ℕ) : Type 0 where
  pub len : (xs : List ℕ) → length xs ≡ n → length (f xs) ≡ n
  pub each : (j : ℕ) → (i : ℕ) × ((xs : List ℕ) → length xs ≡ n → get_or (f xs) j 0 ≡ get_or xs i 0)

-- it changes the numbers as it does the marks
module _ (some middle most now : List ℕ) (parts : AreParts some middle most) (view : numbers_of some middle most ≡ now) (f : List ℕ → List ℕ) (move : IsMove (length some) f) where
  pub moved-parts : AreParts (f some) (f middle) (f most)
  moved-parts = record {
    middle_count = move.len middle parts.middle_count ∙ sym (move.len some refl);
    most_count = move.len most parts.most_count ∙ sym (move.len some refl);
    one = λ j. let it = move.each j in let s = it.1 some refl in let few = parts.one it.0 in omega arith;
    each = λ j.
        let it = move.each j in let s = it.1 some refl in let a = it.1 middle parts.middle_count in let b = it.1 most parts.most_count in
        let both = parts.each it.0 in omega arith;
  }

  pub moved-numbers : numbers_of (f some) (f middle) (f most) ≡ f now
  moved-numbers =
      let count = long some middle most parts now view in
      only-numbers (f some) (f middle) (f most) moved-parts (f now) (move.len some refl ∙ sym (move.len now count)) (λ j inside.
      let it = move.each j in let s = it.1 some refl in let a = it.1 middle parts.middle_count in let b = it.1 most parts.most_count in
      let n = it.1 now count in let v = value some middle most parts now view it.0 in omega arith)

-- so it is with the shifts
pub down-moves : (n from to count : ℕ) → to ≤ from → from + count ≤ n → IsMove n (λ (xs : List ℕ). shifted_down from to count xs)
down-moves n from to count order inside = record {
  len = λ xs is. (shifted-down xs from to count order (omega arith)).len ∙ is;
  each = λ j. elim (cases_lt j to) [
    | inl low ↦ (j, λ xs is. (shifted-down xs from to count order (omega arith)).below j low)
    | inr past ↦ elim (cases_lt (j + (from - to)) (from + count)) [
      | inl early ↦ (j + (from - to), λ xs is. (shifted-down xs from to count order (omega arith)).moved j past early)
      | inr late ↦ elim (cases_lt j (from + count)) [
        | inl before ↦ (n, λ xs is. (shifted-down xs from to count order (omega arith)).zeros j past late before ∙ sym (get_or_past xs n 0 (omega arith)))
        | inr end ↦ (j, λ xs is. (shifted-down xs from to count order (omega arith)).after j end)
      ]
    ]
  ];
}

pub up-moves : (n from to count : ℕ) → from ≤ to → to + count ≤ n → IsMove n (λ (xs : List ℕ). shifted_up from to count xs)
up-moves n from to count order inside = record {
  len = λ xs is. (shifted-up xs from to count order (omega arith)).len ∙ is;
  each = λ j. elim (cases_lt j from) [
    | inl low ↦ (j, λ xs is. (shifted-up xs from to count order (omega arith)).below j low)
    | inr past ↦ elim (cases_lt j (to + count)) [
      | inl before ↦ elim (cases_lt j (from + (to - from))) [
        | inl early ↦ (n, λ xs is. (shifted-up xs from to count order (omega arith)).zeros j past early before ∙ sym (get_or_past xs n 0 (omega arith)))
        | inr late ↦ (j - (to - from), λ xs is. (shifted-up xs from to count order (omega arith)).moved j late before)
      ]
      | inr end ↦ (j, λ xs is. (shifted-up xs from to count order (omega arith)).after j end)
    ]
  ];
}

-- a number is written where its marks are
module _ (some middle most now : List ℕ) (parts : AreParts some middle most) (view : numbers_of some middle most ≡ now) (p a b c n : ℕ) (inside : p < length now)
    (one : a ≤ 1) (each : b + c ≤ a) (is : a + b + (c + c) ≡ n) where
  here : (row : List ℕ) (m : ℕ) → length row ≡ length some → get_or (set row p m) p 0 ≡ m
  here row m count = let l = long some middle most parts now view in get_or-set_same row p m 0 (omega arith)

  pub set-parts : AreParts (set some p a) (set middle p b) (set most p c)
  set-parts = record {
    middle_count = length-set middle p b ∙ parts.middle_count ∙ sym (length-set some p a);
    most_count = length-set most p c ∙ parts.most_count ∙ sym (length-set some p a);
    one = λ j. elim (cases_eq j p) [
      | inl same ↦ rw same (let s = here some a refl in omega arith)
      | inr other ↦ let s = get_or-set_other some p j a 0 other in let few = parts.one j in omega arith
    ];
    each = λ j. elim (cases_eq j p) [
      | inl same ↦ rw same (let s = here some a refl in let x = here middle b parts.middle_count in let y = here most c parts.most_count in omega arith)
      | inr other ↦
          let s = get_or-set_other some p j a 0 other in let x = get_or-set_other middle p j b 0 other in let y = get_or-set_other most p j c 0 other in
          let both = parts.each j in omega arith
    ];
  }

  pub set-numbers : numbers_of (set some p a) (set middle p b) (set most p c) ≡ set now p n
  set-numbers =
      let l = long some middle most parts now view in
      only-numbers (set some p a) (set middle p b) (set most p c) set-parts (set now p n) (length-set some p a ∙ sym l ∙ sym (length-set now p n)) (λ j _. elim (cases_eq j p) [
        | inl same ↦ rw same (let s = here some a refl in let x = here middle b parts.middle_count in let y = here most c parts.most_count in let z = get_or-set_same now p n 0 inside in omega arith)
        | inr other ↦
            let s = get_or-set_other some p j a 0 other in let x = get_or-set_other middle p j b 0 other in let y = get_or-set_other most p j c 0 other in
            let z = get_or-set_other now p j n 0 other in let v = value some middle most parts now view j in omega arith
      ])

-- the marks of a number
pub marks-of : (n : ℕ) → n ≤ 3
    → (mark_of (not (nat_eq n 0)) ≤ 1) × (mark_of (nat_eq n 2) + mark_of (nat_eq n 3) ≤ mark_of (not (nat_eq n 0)))
    × (mark_of (not (nat_eq n 0)) + mark_of (nat_eq n 2) + (mark_of (nat_eq n 3) + mark_of (nat_eq n 3)) ≡ n)
marks-of zero few = (omega arith, omega arith, refl)
marks-of (suc zero) few = (omega arith, omega arith, refl)
marks-of (suc (suc zero)) few = (omega arith, omega arith, refl)
marks-of (suc (suc (suc zero))) few = (omega arith, omega arith, refl)
marks-of (suc (suc (suc (suc n)))) few = absurd (omega arith)
