-- The first block from an address on, by the index.
use Rattle.std.proofs.Common.{◌≡◌, ℕ, ◌+◌, ◌-◌, ◌*◌, ◌/◌, ◌%◌, ◌<◌, ◌≤◌, min, List, length, slice_index, refl, ap, ⊎_elim, arith}
use Rattle.std.proofs.lemmas.Bool.{cases_lt}
use Rattle.place_numbers.specs.Numbers.{FirstAtLeast}
use Rattle.block_bytes.specs.declared.blocks.Blocks.TheInside.{Inside}
use Rattle.block_bytes.specs.Layout.{BlockAt}
use Rattle.block_bytes.specs.Finding.{FirstFrom, NoneFrom}
use Rattle.block_bytes.specs.Reading.{layout_of, IsLayout}
use Rattle.block_bytes.specs.Starts.{starts_of}
use Rattle.block_bytes.proofs.Parts.{total-ends, length-starts}
use Rattle.block_bytes.proofs.Starts.{block-marked, marked-block}

module _ (z : Inside) (whole : IsLayout z) (from first : ℕ) (there : first ≡ (from - z.spec.base) / 4 + min 1 ((from - z.spec.base) % 4)) where
  -- the number of a block from the address on is found from the first place on
  record IsNumbered (at : ℕ) : Type 0 where
    place : ℕ
    is : at ≡ z.spec.base + 4 * place
    above : first ≤ place
    inside : place < length z.index
    some : 0 < slice_index z.index place

  numbered : (at : ℕ) → BlockAt (layout_of z) at → from ≤ at → IsNumbered at
  numbered at b reached =
      let m = marked-block (layout_of z) whole.possible at b in
      let low = m.above in let even = m.even in let below = m.below in let mark = m.mark in let some = m.some in
      let ends = total-ends z whole in let long = length-starts z whole in
      let k = (at - z.spec.base) / 4 in
      let same : slice_index z.index k ≡ slice_index (starts_of (layout_of z)) k = ap (λ (ms : List ℕ). slice_index ms k) whole.marked in
      record { place = k; is = omega arith; above = omega arith; inside = omega arith; some = omega arith }

  -- the block of the first number
  block-there : (p : ℕ) → 0 < slice_index z.index p → BlockAt (layout_of z) (z.spec.base + 4 * p)
  block-there p some =
      let same : slice_index z.index p ≡ slice_index (starts_of (layout_of z)) p = ap (λ (ms : List ℕ). slice_index ms p) whole.marked in
      block-marked (layout_of z) whole.possible (z.spec.base + 4 * p) p refl (omega arith)

  -- the first number is that of the first block
  pub first-at : (p : ℕ) → FirstAtLeast z.index 1 first p → FirstFrom (layout_of z) from (z.spec.base + 4 * p) × (4 * p < z.spec.size)
  first-at p found =
      let inside = found.inside in let large = found.large in
      let block = block-there p (omega arith) in
      let below = (marked-block (layout_of z) whole.possible (z.spec.base + 4 * p) block).below in
      let ends = total-ends z whole in (
        record {
          block = block;
          reached = omega arith;
          first = λ other b reached. let n = numbered other b reached in let is = n.is in let above = n.above in let some = n.some in
              ⊎_elim (λ before. let none = found.first n.place above before in absurd (omega arith)) (λ after. let e : p ≤ n.place = after in omega arith) (cases_lt n.place p);
        },
        omega arith,
      )

  -- where there is no number, no block begins there
  pub none-at : ((j : ℕ) → first ≤ j → j < length z.index → slice_index z.index j < 1) → NoneFrom (layout_of z) from
  none-at none at b = ⊎_elim (λ before. before) (λ reached. let n = numbered at b reached in let some = n.some in let no = none n.place n.above n.inside in absurd (omega arith)) (cases_lt at from)
