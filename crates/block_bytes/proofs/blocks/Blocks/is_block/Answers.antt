use Rattle.std.proofs.Common.{◌≡◌, ◌≢◌, ◌-◌, ◌/◌, ◌%◌, ◌<◌, ℕ, zero, suc, not, Bool, true, false, List, ltb-true, slice_index, ap, sym, ◌∙◌, subst, arith, IsTrue}
use Rattle.std.specs.Prelude.{◌==◌}
use Rattle.std.proofs.lemmas.Bool.Decides.{nat_tests}
use Rattle.block_bytes.specs.Layout.{Layout, BlockAt}
use Rattle.block_bytes.specs.Starts.{starts_of}
use Rattle.block_bytes.specs.Reading.{layout_of}
use Rattle.block_bytes.proofs.Parts.{total-ends, length-starts}
use Rattle.block_bytes.proofs.Starts.{block-marked, marked-block}
use Rattle.block_bytes.proofs.blocks.Blocks.is_block.Goals as goal
use Rattle.block_bytes.proofs.blocks.Blocks.is_block.Goals.{then-offset-size, else-offset-size}

pub get-requires : goal.get-requires
get-requires c = let marks = length-starts c.self.inside c.self.invariant.layout in omega arith

-- what passes a test on a number is that number
test_true : (n m : ℕ) → IsTrue (n == m) → n ≡ m
test_true n m test = grind (arith, nat_tests)

-- and what doesn't isn't
test_false : (n m : ℕ) → (n == m) ≡ false → n ≢ m
test_false n m test = grind (arith, nat_tests)

-- what isn't 0 is above it
above_zero : (n : ℕ) → not (n == 0) ≡ true → 0 < n
above_zero zero is = let no : false ≡ true = is in cc
above_zero (suc n) is = omega arith

-- and the other way round
not_zero : (n : ℕ) → 0 < n → not (n == 0) ≡ true
not_zero zero some = absurd (omega arith)
not_zero (suc n) some = grind (arith, nat_tests)

-- no test is passed and not passed
never_both : (b : Bool) → b ≡ true → b ≡ false → ⊥
never_both b passed failed = let no : true ≡ false = sym passed ∙ failed in cc

pub returns-then-offset-eq0 : goal.returns-then-offset-eq0
returns-then-offset-eq0 c = let z = c.self.inside in let at = c.args.at in let k = (at - c.base-base.result) / 4 in let ends = total-ends z c.self.invariant.layout in
    let even : (at - c.base-base.result) % 4 ≡ 0 = elim c.if-offset-size.branch [
      | then-offset-size w ↦ test_true ((at - c.base-base.result) % 4) 0 (sym w.value-is ∙ c.if-offset-eq0.true)
      | else-offset-size w ↦ absurd (let below = ltb-true (at - c.base-base.result) c.size.result (sym w.value-is ∙ c.if-offset-eq0.true) in omega arith)
    ] in
    let mark : c.get.result ≡ slice_index (starts_of (layout_of z)) k = c.get.ensures ∙ ap (λ (ms : List ℕ). slice_index ms k) c.self.invariant.layout.marked in (
      λ is. subst (λ (l : Layout). BlockAt l at) c.self.view_is
          (block-marked (layout_of z) c.self.invariant.layout.possible at k (omega arith) (let some = above_zero c.get.result is in omega arith)),
      λ b.
          let m = marked-block (layout_of z) c.self.invariant.layout.possible at (subst (λ (l : Layout). BlockAt l at) (sym c.self.view_is) b) in
          let place : slice_index (starts_of (layout_of z)) k ≡ slice_index (starts_of (layout_of z)) ((at - z.spec.base) / 4) =
          ap (λ (i : ℕ). slice_index (starts_of (layout_of z)) i) (let e : k ≡ (at - z.spec.base) / 4 = omega arith in e) in
          let there = m.mark in let some = m.some in not_zero c.get.result (omega arith),
    )

pub returns-else-offset-eq0 : goal.returns-else-offset-eq0
returns-else-offset-eq0 c = let z = c.self.inside in let at = c.args.at in let ends = total-ends z c.self.invariant.layout in (
  λ is. absurd (never_both c.if-offset-size.value is c.if-offset-eq0.false),
  λ b.
      let m = marked-block (layout_of z) c.self.invariant.layout.possible at (subst (λ (l : Layout). BlockAt l at) (sym c.self.view_is) b) in
      absurd (elim c.if-offset-size.branch [
        | then-offset-size w ↦ let odd = test_false ((at - c.base-base.result) % 4) 0 (sym w.value-is ∙ c.if-offset-eq0.false) in let even = m.even in omega arith
        | else-offset-size w ↦ let below = m.below in omega arith
      ]),
)
