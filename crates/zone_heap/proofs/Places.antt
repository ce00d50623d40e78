-- Blocks are found by their addresses, since each has bytes.
use Rattle.std.proofs.Common.{◌≡◌, ℕ, ◌<◌, Bool, true, [], ◌∷◌, ◌++◌, refl, ap, arith, IsTrue}
use Rattle.std.specs.Prelude.{◌&&◌, ◌==◌, ◌%◌, nat_le, nat_lt}
use Rattle.std.specs.List.{list_all}
use Rattle.std.proofs.lemmas.Bool.Decides.{nat_tests}
use Rattle.std.proofs.lemmas.Bool.{and_parts, and_from}
use Rattle.mac_base.specs.declared.block.Entry.{Entry}
use Rattle.mac_base.specs.HeadKind.{Shape, smallest_block}
use Rattle.mac_base.specs.ZoneMap.{ZoneMap, total_size}
use Rattle.mac_base.specs.Suits.{is_block_size}
use Rattle.zone_laws.proofs.Taken.{head-below_smallest}
use Rattle.zone_heap.proofs.Owning.{heads as same_head}

-- whether each block has bytes
abbrev pub all_large : ZoneMap → Bool
all_large m = list_all (λ (e : Entry). nat_lt 0 e.size) m

-- a possible size is not 0
pub large-size : (s : Shape) (n : ℕ) → IsTrue (is_block_size s n) → IsTrue (nat_lt 0 n)
large-size s n h = by_small (smallest_block s.heads) (let small = head-below_smallest s.heads in omega arith) h
  where
    by_small : (small : ℕ) → 0 < small → ((n % 4 == 0) && nat_le small n) ≡ true → nat_lt 0 n ≡ true
    by_small small some h = grind (arith, nat_tests)

-- so blocks of possible sizes have bytes
pub large-sizes : (s : Shape) (m : ZoneMap) → IsTrue (list_all (λ (e : Entry). is_block_size s e.size) m) → IsTrue (all_large m)
large-sizes s [] h = refl
large-sizes s (e ∷ es) h =
    let hs = and_parts (is_block_size s e.size) (list_all (λ (e : Entry). is_block_size s e.size) es) h in
    and_from (nat_lt 0 e.size) (all_large es) (large-size s e.size hs.0) (large-sizes s es hs.1)

-- the test of a size is passed by one above 0
some_bytes : (n : ℕ) → nat_lt 0 n ≡ true → 0 < n
some_bytes n h = grind (arith, nat_tests)

-- the first block of a map has bytes
pub large-first : (e : Entry) (es : ZoneMap) → IsTrue (all_large (e ∷ es)) → 0 < e.size
large-first e es h = some_bytes e.size (and_parts (nat_lt 0 e.size) (all_large es) h).0

-- a map parted in two ways, by the blocks before and the block at a place
pub record SamePlace (before : ZoneMap) (here : Entry) (after : ZoneMap) (others : ZoneMap) (other : Entry) (rest : ZoneMap) : Type 0 where
  pub same_before : before ≡ others
  pub same_here : here ≡ other
  pub same_after : after ≡ rest

-- as many bytes before them make it one way
pub same-place : (before : ZoneMap) (here : Entry) (after : ZoneMap) (others : ZoneMap) (other : Entry) (rest : ZoneMap) → before ++ here ∷ after ≡ others ++ other ∷ rest → IsTrue (all_large (before ++ here ∷ after))
    → total_size before ≡ total_size others → SamePlace before here after others other rest
same-place [] e es [] f fs is large as_many = let same = same_head e f es fs is in record { same_before = refl; same_here = same.0; same_after = same.1 }
same-place [] e es (g ∷ gs) f fs is large as_many =
    let same = same_head e g es (gs ++ f ∷ fs) is in
    let size : e.size ≡ g.size = ap (λ (e : Entry). e.size) same.0 in
    absurd (omega (arith, large-first e es large))
same-place (d ∷ ds) e es [] f fs is large as_many = absurd (omega (arith, large-first d (ds ++ e ∷ es) large))
same-place (d ∷ ds) e es (g ∷ gs) f fs is large as_many =
    let same = same_head d g (ds ++ e ∷ es) (gs ++ f ∷ fs) is in
    let size : d.size ≡ g.size = ap (λ (e : Entry). e.size) same.0 in
    let rest = same-place ds e es gs f fs same.1 (and_parts (nat_lt 0 d.size) (all_large (ds ++ e ∷ es)) large).1 (omega arith) in
    record { same_before = cc (same.0, rest.same_before); same_here = rest.same_here; same_after = rest.same_after }
