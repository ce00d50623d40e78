-- Blocks have bytes, so addresses distinguish them.
use Rattle.std.proofs.Common.{◌≡◌, ℕ, ◌+◌, ◌<◌, Bool, true, [], ◌∷◌, ◌++◌, refl, ◌∙◌, arith}
use Rattle.std.specs.Prelude.{◌&&◌, ◌==◌, ◌%◌, nat_le}
use Rattle.std.specs.List.{list_all}
use Rattle.std.proofs.lemmas.Bool.{and_from}
use Rattle.std.proofs.lemmas.Bool.Decides.{nat_tests}
use Rattle.std.proofs.lemmas.List.Folds.{list_all-append}
use Rattle.mac_base.specs.declared.block.Entry.{Entry}
use Rattle.mac_base.specs.HeadKind.{Shape, smallest_block}
use Rattle.mac_base.specs.ZoneMap.{ZoneMap, total_size}
use Rattle.mac_base.specs.Suits.{is_block_size}
use Rattle.zone_laws.proofs.GapApart.{sizes_possible}
use Rattle.zone_laws.proofs.Taken.{head-below_smallest}
use Rattle.zone_laws.proofs.Maps.{total_size-append}
use Rattle.zone_index.proofs.Sizes.{first_bytes}

-- a possible size is not 0
pub some_bytes : (s : Shape) (n : ℕ) → is_block_size s n ≡ true → 0 < n
some_bytes s n h = by_small (smallest_block s.heads) (let small = head-below_smallest s.heads in omega arith) h
  where
    by_small : (small : ℕ) → 0 < small → ((n % 4 == 0) && nat_le small n) ≡ true → 0 < n
    by_small small some h = grind (arith, nat_tests)

-- and of each of both, where it does of each of either
pub all_both : (p : Entry → Bool) (a b : ZoneMap) → list_all p a ≡ true → list_all p b ≡ true → list_all p (a ++ b) ≡ true
all_both p a b ha hb = list_all-append p a b ∙ and_from _ _ ha hb

-- blocks without a byte are none
pub no_bytes : (s : Shape) (m : ZoneMap) → sizes_possible s m ≡ true → total_size m ≡ 0 → m ≡ []
no_bytes s [] h none = refl
no_bytes s (e ∷ es) h none = let some = first_bytes s e es h in absurd (omega arith)

-- the bytes of a block and those before it
pub total_size-push : (before : ZoneMap) (e : Entry) → total_size (before ++ e ∷ []) ≡ total_size before + e.size
total_size-push before e = let all = total_size-append before (e ∷ []) in omega arith
