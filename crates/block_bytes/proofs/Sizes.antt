-- Blocks that follow one another, by the sizes in their headers.
use Rattle.std.proofs.Common.{◌≡◌, ℕ, ◌+◌, ◌%◌, ◌<◌, ◌≤◌, List, [], ◌∷◌, length, refl, sym, subst, arith, IsTrue}
use Rattle.std.proofs.lemmas.Bool.Decides.{nat_tests}
use Rattle.mac_base.specs.declared.block.HeadKind.{HeadKind}
use Rattle.mac_base.specs.HeadKind.{smallest_block}
use Rattle.block_bytes.specs.Walk.{size_at, is_block, Follows, WalksFrom}

-- no block begins after the end of the bytes
pub follows-within : (heads : HeadKind) (image : List ℕ) (at : ℕ) (sizes : List ℕ) → Follows heads image at sizes → at ≤ length image
follows-within heads image at [] f = omega arith
follows-within heads image at (n ∷ ns) f = let rest = follows-within heads image (at + n) ns f.2 in omega arith

-- the block at an offset, and those after it
pub record FirstBlock (heads : HeadKind) (image : List ℕ) (at : ℕ) : Type 0 where
  pub possible : IsTrue (is_block heads (size_at heads image at))
  pub within : at + size_at heads image at ≤ length image
  pub after : WalksFrom heads image (at + size_at heads image at)

-- before the end of the bytes, there is a block
pub walks-first : (heads : HeadKind) (image : List ℕ) (at : ℕ) → WalksFrom heads image at → at < length image → FirstBlock heads image at
walks-first heads image at w below = of w.sizes w.follows
  where
    of : (sizes : List ℕ) → Follows heads image at sizes → FirstBlock heads image at
    of [] f = absurd (omega arith)
    of (n ∷ ns) f = record {
      possible = subst (λ n. IsTrue (is_block heads n)) (sym f.0) f.1;
      within = let rest = follows-within heads image (at + n) ns f.2 in let size = f.0 in omega arith;
      after = record { sizes = ns; follows = subst (λ n. Follows heads image (at + n) ns) (sym f.0) f.2 };
    }

-- a block, and those after it
pub walks-next : (heads : HeadKind) (image : List ℕ) (at : ℕ) → IsTrue (is_block heads (size_at heads image at)) → WalksFrom heads image (at + size_at heads image at) → WalksFrom heads image at
walks-next heads image at possible w = record { sizes = size_at heads image at ∷ w.sizes; follows = (refl, possible, w.follows) }

-- what the size of a block is
pub is_block-size : (heads : HeadKind) (n : ℕ) → IsTrue (is_block heads n) → (n % 4 ≡ 0) × (smallest_block heads ≤ n)
is_block-size heads n possible = (grind (arith, nat_tests), grind (arith, nat_tests))

-- and what is the size of one
pub is_block-from : (heads : HeadKind) (n : ℕ) → n % 4 ≡ 0 → smallest_block heads ≤ n → IsTrue (is_block heads n)
is_block-from heads n even large = grind (arith, nat_tests)
