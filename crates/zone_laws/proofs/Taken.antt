-- What a map is once a free block of it is taken: the blocks are possible, apart and of their owners' lengths.
use Rattle.std.proofs.Common.{◌≡◌, ℕ, ◌+◌, ◌-◌, ◌%◌, ◌<◌, ◌≤◌, Bool, true, false, not, ◌&&◌, ◌||◌, ◌==◌, nat_le, nat_lt, cond, [], ◌∷◌, ◌++◌, refl, ap, ◌∙◌, arith, IsTrue}
use Rattle.std.specs.List.{list_all}
use Rattle.std.proofs.lemmas.Bool.Decides.{nat_tests}
use Rattle.std.proofs.lemmas.Bool.{or_right, and_parts, not_from_false, and_from}
use Rattle.mac_base.specs.declared.block.Entry.{Entry}
use Rattle.mac_base.specs.declared.block.HeadKind.{HeadKind}
use Rattle.mac_base.specs.declared.block.HeadKind.TheVariants.{Bits24, Bits32}
use Rattle.mac_base.specs.declared.block.Kind.{Kind}
use Rattle.mac_base.specs.declared.block.Kind.TheVariants.{Free}
use Rattle.mac_base.specs.HeadKind.{Shape, need, head_size, smallest_block}
use Rattle.mac_base.specs.ZoneMap.{ZoneMap, block, is_free, total_size, addresses_from}
use Rattle.mac_base.specs.HandleTable.{HandleTable}
use Rattle.mac_base.specs.Suits.{free_apart, starts_free, is_block_size, has_length, has_owners_length, wanted_length}
use Rattle.mac_base.specs.Serve.{taken}
use Rattle.zone_laws.proofs.Placing.{TakenAt}
use Rattle.zone_laws.proofs.Maps.{Exchanged, addresses_from-skip}

-- a block is larger than its header
pub head-below_smallest : (heads : HeadKind) → head_size heads < smallest_block heads
head-below_smallest Bits24 = omega arith
head-below_smallest Bits32 = omega arith

-- the size that contents need is possible
pub need-is_size : (s : Shape) (n : ℕ) → is_block_size s (need s.heads n) ≡ true
need-is_size s n = grind arith

-- a map goes on apart after some blocks
pub free_apart-after : (before m : ZoneMap) → IsTrue (free_apart (before ++ m)) → IsTrue (free_apart m)
free_apart-after [] m h = h
free_apart-after (e ∷ es) m h = free_apart-after es m (and_parts (not (is_free e.kind && starts_free (es ++ m))) (free_apart (es ++ m)) h).1

starts_free-replaced : (before m n : ZoneMap) → (starts_free n ≡ true → starts_free m ≡ true) → starts_free (before ++ n) ≡ true → starts_free (before ++ m) ≡ true
starts_free-replaced [] m n h is = h is
starts_free-replaced (e ∷ es) m n h is = is

still_apart : (a b c : Bool) → (c ≡ true → b ≡ true) → not (a && b) ≡ true → not (a && c) ≡ true
still_apart v0 v1 v2 h is = grind arith

-- what is after some blocks may be replaced by what is apart and starts free at most where it did
pub free_apart-replaced : (before m n : ZoneMap) → (starts_free n ≡ true → starts_free m ≡ true) → IsTrue (free_apart n) → IsTrue (free_apart (before ++ m)) → IsTrue (free_apart (before ++ n))
free_apart-replaced [] m n starts here h = here
free_apart-replaced (e ∷ es) m n starts here h =
    let hs = and_parts (not (is_free e.kind && starts_free (es ++ m))) (free_apart (es ++ m)) h in
    and_from (not (is_free e.kind && starts_free (es ++ n))) _ (still_apart (is_free e.kind) _ _ (starts_free-replaced es m n starts) hs.0) (free_apart-replaced es m n starts here hs.1)

-- what is taken, whole or the front of it
pub by_taken : (P : ZoneMap → Type 0) (s : Shape) (k : ℕ) (kind : Kind) (n : ℕ) → (n - k < smallest_block s.heads → P (block kind n ∷ []))
    → (smallest_block s.heads ≤ n - k → P (block kind k ∷ block Free (n - k) ∷ [])) → P (taken s k kind n)
by_taken P s k kind n whole front = elim (nat_lt (n - k) (smallest_block s.heads)) as (λ b. nat_lt (n - k) (smallest_block s.heads) ≡ b → P (cond b (block kind n ∷ []) (block kind k ∷ block Free (n - k) ∷ []))) [
  | true ↦ λ h. whole (below h)
  | false ↦ λ h. front (above h)
] refl
  where
    below : nat_lt (n - k) (smallest_block s.heads) ≡ true → n - k < smallest_block s.heads
    below h = grind (arith, nat_tests)

    above : nat_lt (n - k) (smallest_block s.heads) ≡ false → smallest_block s.heads ≤ n - k
    above h = grind (arith, nat_tests)

-- taking keeps the size
pub total_size-taken : (s : Shape) (k : ℕ) (kind : Kind) (n : ℕ) → k ≤ n → total_size (taken s k kind n) ≡ n
total_size-taken s k kind n h = by_taken (λ m. total_size m ≡ n) s k kind n (λ _. omega arith) (λ _. omega arith)

no_more : (b : Bool) (at : ℕ) → cond b (at ∷ []) [] ++ [] ≡ cond b (at ∷ []) []
no_more true at = refl
no_more false at = refl

-- of what is taken, the block passes and the rest doesn't
pub addresses_from-taken : (s : Shape) (k : ℕ) (kind : Kind) (n at : ℕ) (test : Kind → Bool) → test Free ≡ false → addresses_from at test (taken s k kind n) ≡ cond (test kind) (at ∷ []) []
addresses_from-taken s k kind n at test h = by_taken (λ m. addresses_from at test m ≡ cond (test kind) (at ∷ []) []) s k kind n (λ _. no_more (test kind) at)
    (λ _. ap (λ found. cond (test kind) (at ∷ []) [] ++ found) (addresses_from-skip (at + k) test (block Free (n - k)) [] h) ∙ no_more (test kind) at)

whole_size : (small n : ℕ) → ((n % 4 == 0) && nat_le small n) ≡ true → (((n % 4 == 0) && nat_le small n) && true) ≡ true
whole_size small n h = and_from _ true h refl

pub rest_size : (small k n : ℕ) → ((k % 4 == 0) && nat_le small k) ≡ true → ((n % 4 == 0) && nat_le small n) ≡ true → k ≤ n → small ≤ n - k → (((n - k) % 4 == 0) && nat_le small (n - k)) ≡ true
rest_size small k n a b le h = grind (arith, nat_tests)

-- the sizes of what is taken are possible
pub sizes-taken : (s : Shape) (k : ℕ) (kind : Kind) (n : ℕ) → is_block_size s k ≡ true → is_block_size s n ≡ true → k ≤ n → IsTrue (list_all (λ (e : Entry). is_block_size s e.size) (taken s k kind n))
sizes-taken s k kind n size is le = by_taken (λ m. IsTrue (list_all (λ (e : Entry). is_block_size s e.size) m)) s k kind n (λ _. whole_size (smallest_block s.heads) n is)
    (λ h. and_from (is_block_size s k) _ size (whole_size (smallest_block s.heads) (n - k) (rest_size (smallest_block s.heads) k n size is le h)))

-- a block that is taken has the length for which it was taken
has_length-whole : (s : Shape) (n size : ℕ) → need s.heads n ≤ size → size - need s.heads n < smallest_block s.heads → has_length s size n ≡ true
has_length-whole s n size le small = grind arith

-- so has one of just the size that is needed
has_length-exact : (s : Shape) (n : ℕ) → has_length s (need s.heads n) n ≡ true
has_length-exact s n = has_length-whole s n (need s.heads n) (omega arith) (let small = head-below_smallest s.heads in omega arith)

-- what is taken has the length that its owner wants
pub lengths-taken : (s : Shape) (t : HandleTable) (n : ℕ) (kind : Kind) (size : ℕ) → wanted_length t kind ≡ n → need s.heads n ≤ size → IsTrue (list_all (has_owners_length s t) (taken s (need s.heads n) kind size))
lengths-taken s t n kind size wants le = by_taken (λ m. IsTrue (list_all (has_owners_length s t) m)) s (need s.heads n) kind size
    (λ small. and_from (is_free kind || has_length s size (wanted_length t kind)) true (or_right (is_free kind) _ (ap (has_length s size) wants ∙ has_length-whole s n size le small)) refl)
    (λ _. and_from (is_free kind || has_length s (need s.heads n) (wanted_length t kind)) true (or_right (is_free kind) _ (ap (has_length s (need s.heads n)) wants ∙ has_length-exact s n)) refl)

-- what is taken of a free block, with what is after, is apart
pub free_apart-taken : (s : Shape) (k : ℕ) (kind : Kind) (n : ℕ) (after : ZoneMap) → is_free kind ≡ false → (smallest_block s.heads ≤ n - k → starts_free after ≡ false) → IsTrue (free_apart after)
    → IsTrue (free_apart (taken s k kind n ++ after))
free_apart-taken s k kind n after used starts h = by_taken (λ m. IsTrue (free_apart (m ++ after))) s k kind n
    (λ _. and_from (not (is_free kind && starts_free after)) _ (ap (λ b. not (b && starts_free after)) used) h)
    (λ large. and_from (not (is_free kind && true)) _ (ap (λ b. not (b && true)) used) (and_from (not (starts_free after)) _ (not_from_false _ (starts large)) h))

-- it starts with the block
pub starts_free-taken : (s : Shape) (k : ℕ) (kind : Kind) (n : ℕ) (after : ZoneMap) → starts_free (taken s k kind n ++ after) ≡ is_free kind
starts_free-taken s k kind n after = by_taken (λ m. starts_free (m ++ after) ≡ is_free kind) s k kind n (λ _. refl) (λ _. refl)

-- the map with its lowest free block taken, as an exchange of blocks
abbrev pub taken_exchange : (s : Shape) (k : ℕ) (kind : Kind) (old new : ZoneMap) → TakenAt s k kind old new → Exchanged old new
taken_exchange s k kind old new t = record {
  before = t.before;
  left = block Free t.size ∷ [];
  right = taken s k kind t.size;
  after = t.after;
  was = t.was;
  is = t.is;
  as_large = let all = total_size-taken s k kind t.size t.fits in omega arith;
}
