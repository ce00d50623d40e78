-- What is lent has a block, which stays where it is while others change.
use Rattle.std.proofs.Common.{◌≡◌, ℕ, ◌+◌, Bool, true, false, cond, eqb, List, [], ◌∷◌, ◌++◌, length, map, refl, ap, sym, ◌∙◌, arith}
use Rattle.std.specs.Prelude.{◌||◌, ◌&&◌, ◌==◌, filter, slice_index}
use Rattle.std.specs.List.{list_any}
use Rattle.std.proofs.lemmas.Map.Views.{any-filter_same}
use Rattle.std.proofs.lemmas.Bool.{eqb-true}
use Rattle.mac_base.specs.declared.block.Kind.{Kind}
use Rattle.mac_base.specs.declared.block.Kind.TheVariants.{Free, Master, Ptr, Rel}
use Rattle.mac_base.specs.HeadKind.{Shape, head_size}
use Rattle.mac_base.specs.ZoneMap.{ZoneMap, is_named, sizes, addresses, contents_of}
use Rattle.mac_base.specs.HandleTable.{HandleTable, live_bytes, live_flags, live_pointer, bytes_of, has_block, is_full, is_lent, is_locked, is_pointer}
use Rattle.mac_base.specs.Heap.{Heap}
use Rattle.mac_base.specs.Loans.{LoansAreFixed, owners, owner_of}
use Rattle.mac_base.specs.Suits.{Suits}
use Rattle.zone_laws.proofs.SuitsNamed.{named_once}
use Rattle.zone_laws.proofs.Tables.{AgreeBut}

-- a pointer or a locked handle has a block
pub fixed-block : (t : HandleTable) (x : ℕ) → (is_pointer t x || is_locked t x) ≡ true → has_block t x ≡ true
fixed-block t x = grind arith

-- so what is lent has one
pub lent-block : (heap : Heap) (x : ℕ) → LoansAreFixed heap → is_lent heap.table x ≡ true → has_block heap.table x ≡ true
lent-block heap x fixed lent = fixed-block heap.table x (fixed x lent)

-- and what has none isn't lent
pub no_block-here : (heap : Heap) (x : ℕ) → LoansAreFixed heap → is_full heap.table x ≡ false → is_pointer heap.table x ≡ false → is_lent heap.table x ≡ false
no_block-here heap x fixed not_full no_pointer = grind arith

-- what owns no block of a map has none there
not_owner : (x : ℕ) (m : ZoneMap) → list_any (λ y. y == x) (owners m) ≡ false → sizes (is_named x) m ≡ []
not_owner x [] none = refl
not_owner x (e ∷ es) none = by_kind e.kind (not_owner x es) none
  where
    both_false : (a b : Bool) → (a || b) ≡ false → (a ≡ false) × (b ≡ false)
    both_false true b h = absurd (cc h)
    both_false false b h = (refl, h)

    by_kind : (k : Kind) → (list_any (λ y. y == x) (owners es) ≡ false → sizes (is_named x) es ≡ []) → list_any (λ y. y == x) (owner_of k ++ owners es) ≡ false → cond (is_named x k) (e.size ∷ []) [] ++ sizes (is_named x) es ≡ []
    by_kind Free rest none = rest none
    by_kind Master rest none = rest none
    by_kind (Ptr p) rest none = let parts = both_false (p == x) (list_any (λ y. y == x) (owners es)) none in ap (λ b. cond b (e.size ∷ []) [] ++ sizes (is_named x) es) parts.0 ∙ rest parts.1
    by_kind (Rel h) rest none = let parts = both_false (h == x) (list_any (λ y. y == x) (owners es)) none in ap (λ b. cond b (e.size ∷ []) [] ++ sizes (is_named x) es) parts.0 ∙ rest parts.1

-- what has a block is an owner of one
pub block-owner : (s : Shape) (t : HandleTable) (m : ZoneMap) (x : ℕ) → Suits s t m → has_block t x ≡ true → list_any (λ y. y == x) (owners m) ≡ true
block-owner s t m x suits block = grind (arith, named_once, not_owner)

-- which of some numbers are lent, once those that pass a test are
pub lent-filtered : (p : ℕ → Bool) (x : ℕ) (xs : List ℕ) → list_any (λ y. y == x) (filter p xs) ≡ (p x && list_any (λ y. y == x) xs)
lent-filtered p x xs = any-filter_same (λ y. y == x) p (p x) (λ y same. ap p (eqb-true y x same)) xs

-- where a block of x is in the new map as in the old one, its contents are too
pub contents_of-same : (s : Shape) (x : ℕ) (old new : ZoneMap) → addresses s (is_named x) new ≡ addresses s (is_named x) old → contents_of s x new ≡ contents_of s x old
contents_of-same s x old new same = ap (λ found. slice_index (map (λ a. a + head_size s.heads) found) 0) same

-- what one number names, another does not
pub other_named : (x y : ℕ) → eqb y x ≡ false → (kind : Kind) → is_named y kind ≡ true → is_named x kind ≡ false
other_named x y apart v3 h = grind arith

-- A change of a heap that keeps what is lent: the same numbers are, and each has its block where it was and as long as
-- it was. Those that were pointers or locked handles still are.
pub record KeepsLent (s : Shape) (old new : Heap) : Type 0 where
  pub lent : new.table.lent ≡ old.table.lent
  pub contents : (x : ℕ) → is_lent old.table x ≡ true → contents_of s x new.map ≡ contents_of s x old.map
  pub long : (x : ℕ) → is_lent old.table x ≡ true → length (bytes_of new.table x) ≡ length (bytes_of old.table x)
  pub fixed : (x : ℕ) → is_lent old.table x ≡ true → (is_pointer old.table x || is_locked old.table x) ≡ true → (is_pointer new.table x || is_locked new.table x) ≡ true

-- it leaves what is lent fixed
pub fixed-kept : (s : Shape) (old new : Heap) → KeepsLent s old new → LoansAreFixed old → LoansAreFixed new
fixed-kept s old new keeps fixed x lent =
    let was = ap (list_any (λ y. y == x)) (sym keeps.lent) ∙ lent in
    keeps.fixed x was (fixed x was)

-- what is lent is none that isn't
pub lent-apart : (t : HandleTable) (x y : ℕ) → is_lent t x ≡ false → is_lent t y ≡ true → eqb y x ≡ false
lent-apart t x y here lent = grind arith

-- a change of what isn't lent, after which each other number has its block where it was
pub keeps-others : (s : Shape) (old new : Heap) (x : ℕ) → is_lent old.table x ≡ false → AgreeBut x old.table new.table → new.table.lent ≡ old.table.lent
    → ((y : ℕ) → eqb y x ≡ false → addresses s (is_named y) new.map ≡ addresses s (is_named y) old.map) → KeepsLent s old new
keeps-others s old new x here agree same stay = record {
  lent = same;
  contents = λ y lent. contents_of-same s y old.map new.map (stay y (lent-apart old.table x y here lent));
  long = λ y lent. ap (λ o. length (live_bytes o)) (agree.others y (lent-apart old.table x y here lent));
  fixed = λ y lent fixed. ap (λ o. live_pointer o || (live_flags o).lock) (agree.others y (lent-apart old.table x y here lent)) ∙ fixed;
}
