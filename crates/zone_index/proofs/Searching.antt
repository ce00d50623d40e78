-- A search for blocks that pass a test goes by the marks.
use Rattle.std.proofs.Common.{◌≡◌, ℕ, ◌+◌, ◌*◌, ◌<◌, ◌≤◌, Bool, true, false, List, length, slice_index, refl, ap, sym, ◌∙◌, subst, arith}
use Rattle.std.specs.Prelude.{nat_lt}
use Rattle.std.proofs.lemmas.Bool.Decides.{nat_tests}
use Rattle.std.proofs.lemmas.List.{get_or_past}
use Rattle.mac_base.specs.declared.block.Kind.{Kind}
use Rattle.mac_base.specs.Gap.{is_fixed}
use Rattle.mac_base.specs.HandleTable.{HandleTable}
use Rattle.mac_base.specs.ZoneState.{ZoneState}
use Rattle.zone_laws.proofs.GapApart.{sizes_possible}
use Rattle.place_numbers.specs.Numbers.{FirstAtLeast, LastAtLeast}
use Rattle.linked_zone.specs.Fit.{HasSizes}
use Rattle.linked_zone.specs.Places.{SplitAt}
use Rattle.zone_index.specs.Marks.{AreMarked, FixedAt, PassesAt, place}
use Rattle.zone_index.specs.Search.{LastFixed, NextPassing, NoneBelow, NonePassing}
use Rattle.zone_index.proofs.Placed.{entry-split}
use Rattle.zone_index.proofs.Sizes.{all_parts, even_bytes}

-- an address between blocks is that of its place
pub place-back : (z : ZoneState) (at : ℕ) → HasSizes z → SplitAt z at → at ≡ z.shape.base + 4 * place z.shape at
place-back z at sizes s =
    let even = even_bytes z.shape s.before (all_parts _ s.before s.after (ap (sizes_possible z.shape) (sym s.map) ∙ sizes)).0 in
    let there = s.place in
    omega (arith, even, there)

-- where a number isn't 0 there is one
some-inside : (xs : List ℕ) (j : ℕ) → 1 ≤ slice_index xs j → j < length xs
some-inside xs j some = elim (nat_lt j (length xs)) as (λ b. nat_lt j (length xs) ≡ b → j < length xs) [
  | true ↦ λ is. grind (arith, nat_tests)
  | false ↦ λ is. let past : length xs ≤ j = grind (arith, nat_tests) in let none = get_or_past xs j 0 past in absurd (omega (arith, some, none))
] refl

-- upwards: no block of those from an address on that pass has a place below
pub record Ahead (test : HandleTable → Kind → Bool) (z : ZoneState) (from p : ℕ) : Type 0 where
  pub above : from ≤ z.shape.base + 4 * p
  pub passed : (at : ℕ) → PassesAt test z at → from ≤ at → p ≤ place z.shape at

-- downwards
pub record Back (z : ZoneState) (end p : ℕ) : Type 0 where
  pub below : z.shape.base + 4 * p ≤ end
  pub passed : (at : ℕ) → FixedAt z at → at < end → place z.shape at < p

module _ (test : HandleTable → Kind → Bool) (z : ZoneState) (marks : List ℕ) (are : AreMarked test z marks) (sizes : HasSizes z) where
  marked-back : (at : ℕ) → PassesAt test z at → at ≡ z.shape.base + 4 * place z.shape at
  marked-back at f = place-back z at sizes (entry-split z f.entry)

  pub first-ahead : (from : ℕ) → SplitAt z from → Ahead test z from (place z.shape from)
  first-ahead from s =
      let here = place-back z from sizes s in
      record { above = omega (arith, here); passed = λ at f up. let there = marked-back at f in omega (arith, here, there, up) }

  -- a place with a mark is the next at which one may be
  ahead-least : (from p found : ℕ) → Ahead test z from p → FirstAtLeast marks 1 p found → (at : ℕ) → PassesAt test z at → from ≤ at → found ≤ place z.shape at
  ahead-least from p found a first at f up = elim (nat_lt (place z.shape at) found) as (λ b. nat_lt (place z.shape at) found ≡ b → found ≤ place z.shape at) [
    | true ↦ λ is.
        let low : place z.shape at < found = grind (arith, nat_tests) in
        let none = first.first (place z.shape at) (a.passed at f up) low in
        absurd (omega (arith, none, are.marked at f))
    | false ↦ λ is. grind (arith, nat_tests)
  ] refl

  pub next-here : (from p found : ℕ) → Ahead test z from p → FirstAtLeast marks 1 p found → PassesAt test z (z.shape.base + 4 * found) → NextPassing test z from (z.shape.base + 4 * found)
  next-here from p found a first f = record {
    here = f;
    above = omega (arith, a.above, first.inside.0);
    first = λ other g up. let least = ahead-least from p found a first other g up in let there = marked-back other g in omega (arith, least, there);
  }

  -- where there is none, the search goes on
  pub next-ahead : (from p found : ℕ) → Ahead test z from p → FirstAtLeast marks 1 p found → (PassesAt test z (z.shape.base + 4 * found) → ⊥) → Ahead test z from (found + 1)
  next-ahead from p found a first none = record {
    above = omega (arith, a.above, first.inside.0);
    passed = λ at f up.
        let least = ahead-least from p found a first at f up in
        let there = marked-back at f in
        elim (nat_lt found (place z.shape at)) as (λ b. nat_lt found (place z.shape at) ≡ b → found + 1 ≤ place z.shape at) [
          | true ↦ λ is. let more : found < place z.shape at = grind (arith, nat_tests) in omega (arith, more)
          | false ↦ λ is.
              let no_more : place z.shape at ≤ found = grind (arith, nat_tests) in
              absurd (none (subst (PassesAt test z) (let same : at ≡ z.shape.base + 4 * found = omega (arith, least, no_more, there) in same) f))
        ] refl;
  }

  pub next-none : (from p : ℕ) → Ahead test z from p → ((j : ℕ) → p ≤ j → j < length marks → slice_index marks j < 1) → NonePassing test z from
  next-none from p a none at f up =
      let here = are.marked at f in
      let no = none (place z.shape at) (a.passed at f up) (some-inside marks (place z.shape at) here) in
      absurd (omega (arith, here, no))

module _ (z : ZoneState) (marks : List ℕ) (are : AreMarked is_fixed z marks) (sizes : HasSizes z) where
  fixed-back : (at : ℕ) → FixedAt z at → at ≡ z.shape.base + 4 * place z.shape at
  fixed-back = marked-back is_fixed z marks are sizes

  pub first-back : (end : ℕ) → SplitAt z end → Back z end (place z.shape end)
  first-back end s =
      let here = place-back z end sizes s in
      record { below = omega (arith, here); passed = λ at f low. let there = fixed-back at f in omega (arith, here, there, low) }

  back-most : (end p found : ℕ) → Back z end p → LastAtLeast marks 1 p found → (at : ℕ) → FixedAt z at → at < end → place z.shape at ≤ found
  back-most end p found b last at f low = elim (nat_lt found (place z.shape at)) as (λ c. nat_lt found (place z.shape at) ≡ c → place z.shape at ≤ found) [
    | true ↦ λ is.
        let up : found < place z.shape at = grind (arith, nat_tests) in
        let none = last.last (place z.shape at) up (b.passed at f low) in
        absurd (omega (arith, none, are.marked at f))
    | false ↦ λ is. grind (arith, nat_tests)
  ] refl

  pub last-here : (end p found : ℕ) → Back z end p → LastAtLeast marks 1 p found → FixedAt z (z.shape.base + 4 * found) → LastFixed z end (z.shape.base + 4 * found)
  last-here end p found b last f = record {
    here = f;
    below = omega (arith, b.below, last.inside);
    last = λ other g low. let most = back-most end p found b last other g low in let there = fixed-back other g in omega (arith, most, there);
  }

  pub last-back : (end p found : ℕ) → Back z end p → LastAtLeast marks 1 p found → (FixedAt z (z.shape.base + 4 * found) → ⊥) → Back z end found
  last-back end p found b last none = record {
    below = omega (arith, b.below, last.inside);
    passed = λ at f low.
        let most = back-most end p found b last at f low in
        let there = fixed-back at f in
        elim (nat_lt (place z.shape at) found) as (λ c. nat_lt (place z.shape at) found ≡ c → place z.shape at < found) [
          | true ↦ λ is. grind (arith, nat_tests)
          | false ↦ λ is.
              let no_less : found ≤ place z.shape at = grind (arith, nat_tests) in
              absurd (none (subst (FixedAt z) (let same : at ≡ z.shape.base + 4 * found = omega (arith, most, no_less, there) in same) f))
        ] refl;
  }

  pub last-none : (end p : ℕ) → Back z end p → ((j : ℕ) → j < p → slice_index marks j < 1) → NoneBelow z end
  last-none end p b none at f low =
      let here = are.marked at f in
      let no = none (place z.shape at) (b.passed at f low) in
      absurd (omega (arith, here, no))
