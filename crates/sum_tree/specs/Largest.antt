-- The largest of some blocks.
use Rattle.std.specs.Prelude.{◌≡◌, ℕ, max, ⊤}
use Rattle.std.proofs.Common.{ap, arith}
use Rattle.sum_tree.specs.Monoids.{MonoidLaws}
use Rattle.sum_tree.specs.declared.largest.Largest.{Largest}

-- it has so many bytes
abbrev pub of_size : ℕ → Largest
of_size n = record { bytes = n }

-- of no block
abbrev pub no_block : Largest
no_block = of_size 0

-- of blocks and those after them
abbrev pub larger : Largest → Largest → Largest
larger a b = of_size (max a.bytes b.bytes)

left-none : (x : Largest) → larger no_block x ≡ x
left-none x = ap of_size (let e : max 0 x.bytes ≡ x.bytes = omega arith in e)

right-none : (x : Largest) → larger x no_block ≡ x
right-none x = ap of_size (let e : max x.bytes 0 ≡ x.bytes = omega arith in e)

larger-assoc : (x y z : Largest) → larger (larger x y) z ≡ larger x (larger y z)
larger-assoc x y z = ap of_size (let e : max (max x.bytes y.bytes) z.bytes ≡ max x.bytes (max y.bytes z.bytes) = omega arith in e)

pub largest_laws : MonoidLaws no_block larger (λ largest. ⊤)
largest_laws = record {
  left_identity = left-none;
  right_identity = right-none;
  assoc = larger-assoc;
  fits_empty = tt;
  fits_left = λ x y fits. tt;
  fits_right = λ x y fits. tt;
}
