-- A block is no longer than its zone.
use Rattle.std.proofs.Common.{◌≡◌, ℕ, ◌+◌, ◌≤◌, Bool, true, false, cond, refl, [], ◌∷◌, ◌++◌, length, IsTrue, subst, arith}
use Rattle.std.specs.Prelude.{◌==◌}
use Rattle.std.specs.List.{list_all}
use Rattle.std.proofs.lemmas.Bool.{and_parts, eqb-true}
use Rattle.mac_base.specs.declared.block.Kind.{Kind}
use Rattle.mac_base.specs.declared.block.Kind.TheVariants.{Free, Master, Ptr, Rel}
use Rattle.mac_base.specs.HeadKind.{Shape}
use Rattle.mac_base.specs.ZoneMap.{ZoneMap, is_named, sizes, total_size}
use Rattle.mac_base.specs.HandleTable.{HandleTable, bytes_of, has_block}
use Rattle.mac_base.specs.Heap.{Heap}
use Rattle.mac_base.specs.Sound.{Sound}
use Rattle.mac_base.specs.Suits.{has_length, has_owners_length}
use Rattle.zone_laws.proofs.SuitsNamed.{named_once}

-- bytes that have a block are no more than it
fitting : (s : Shape) (size n : ℕ) → has_length s size n ≡ true → n ≤ size
fitting s size n h = grind arith

-- nor than all blocks together
within_blocks : (s : Shape) (t : HandleTable) (x : ℕ) (m : ZoneMap) → IsTrue (list_all (has_owners_length s t) m) → 1 ≤ length (sizes (is_named x) m) → length (bytes_of t x) ≤ total_size m
within_blocks s t x [] long some = absurd (omega arith)
within_blocks s t x (e ∷ es) long some =
    let parts = and_parts (has_owners_length s t e) (list_all (has_owners_length s t) es) long in
    by_kind e.kind parts.0 (within_blocks s t x es parts.1) some
  where
    this_or_later : (b : Bool) (y : ℕ) → (y == x) ≡ b → has_length s e.size (length (bytes_of t y)) ≡ true → (1 ≤ length (sizes (is_named x) es) → length (bytes_of t x) ≤ total_size es)
        → 1 ≤ length (cond b (e.size ∷ []) [] ++ sizes (is_named x) es) → length (bytes_of t x) ≤ e.size + total_size es
    this_or_later true y same fits later some =
        let here : length (bytes_of t x) ≤ e.size = subst (λ z. length (bytes_of t z) ≤ e.size) (eqb-true y x same) (fitting s e.size (length (bytes_of t y)) fits) in
        omega (arith, here)
    this_or_later false y same fits later some = let rest = later some in omega (arith, rest)

    by_kind : (k : Kind) → (has_owners_length s t (record { kind = k; size = e.size })) ≡ true → (1 ≤ length (sizes (is_named x) es) → length (bytes_of t x) ≤ total_size es)
        → 1 ≤ length (cond (is_named x k) (e.size ∷ []) [] ++ sizes (is_named x) es) → length (bytes_of t x) ≤ e.size + total_size es
    by_kind Free fits later some = let rest = later some in omega (arith, rest)
    by_kind Master fits later some = let rest = later some in omega (arith, rest)
    by_kind (Ptr p) fits later some = this_or_later (p == x) p refl fits later some
    by_kind (Rel h) fits later some = this_or_later (h == x) h refl fits later some

-- the bytes of a block are fewer than the zone may have
pub bytes-within : (s : Shape) (heap : Heap) (x : ℕ) → Sound s heap → has_block heap.table x ≡ true → length (bytes_of heap.table x) ≤ s.limit
bytes-within s heap x sound block = grind (arith, named_once, within_blocks)
