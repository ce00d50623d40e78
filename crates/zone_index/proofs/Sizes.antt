-- Blocks have bytes, and a multiple of four of them.
use Rattle.std.proofs.Common.{◌≡◌, ℕ, ◌<◌, Bool, true, [], ◌∷◌, ◌++◌, refl, sym, ◌∙◌, arith}
use Rattle.std.specs.Prelude.{◌&&◌, ◌==◌, ◌%◌, nat_le}
use Rattle.std.specs.List.{list_all}
use Rattle.std.proofs.lemmas.Bool.{and_parts}
use Rattle.std.proofs.lemmas.Bool.Decides.{nat_tests}
use Rattle.std.proofs.lemmas.List.Folds.{list_all-append}
use Rattle.mac_base.specs.declared.block.Entry.{Entry}
use Rattle.mac_base.specs.HeadKind.{Shape, smallest_block}
use Rattle.mac_base.specs.ZoneMap.{ZoneMap, total_size}
use Rattle.mac_base.specs.Suits.{is_block_size}
use Rattle.zone_laws.proofs.GapApart.{sizes_possible}
use Rattle.zone_laws.proofs.Taken.{head-below_smallest}

-- a possible size is not 0, and a multiple of four
pub some_bytes : (s : Shape) (n : ℕ) → is_block_size s n ≡ true → (0 < n) × (n % 4 ≡ 0)
some_bytes s n h = by_small (smallest_block s.heads) (let small = head-below_smallest s.heads in omega arith) h
  where
    by_small : (small : ℕ) → 0 < small → ((n % 4 == 0) && nat_le small n) ≡ true → (0 < n) × (n % 4 ≡ 0)
    by_small small some h = (grind (arith, nat_tests), grind (arith, nat_tests))

-- what holds of each block of two parts holds of each of either
pub all_parts : (p : Entry → Bool) (a b : ZoneMap) → list_all p (a ++ b) ≡ true → (list_all p a ≡ true) × (list_all p b ≡ true)
all_parts p a b h = and_parts (list_all p a) (list_all p b) (sym (list_all-append p a b) ∙ h)

-- the first block has bytes
pub first_bytes : (s : Shape) (e : Entry) (es : ZoneMap) → sizes_possible s (e ∷ es) ≡ true → 0 < e.size
first_bytes s e es h = (some_bytes s e.size (and_parts (is_block_size s e.size) (sizes_possible s es) h).0).0

-- the blocks together have a multiple of four of them
pub even_bytes : (s : Shape) (m : ZoneMap) → sizes_possible s m ≡ true → total_size m % 4 ≡ 0
even_bytes s [] h = refl
even_bytes s (e ∷ es) h =
    let parts = and_parts (is_block_size s e.size) (sizes_possible s es) h in
    let first = (some_bytes s e.size parts.0).1 in
    let others = even_bytes s es parts.1 in
    omega (arith, first, others)
