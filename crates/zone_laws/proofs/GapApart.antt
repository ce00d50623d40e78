-- Free blocks stay apart, and sizes possible, where the blocks of a gap are arranged.
use Rattle.std.proofs.Common.{◌≡◌, ℕ, ◌+◌, Bool, true, false, not, cond, [], ◌∷◌, ◌++◌, refl, ap, subst, inl, inr, arith}
use Rattle.std.specs.Prelude.{◌&&◌, ◌⊎◌}
use Rattle.std.specs.List.{list_all}
use Rattle.std.proofs.lemmas.Bool.{and_from, and_parts, and_left, and_right}
use Rattle.std.proofs.lemmas.Bool.Decides.{nat_tests}
use Rattle.std.proofs.lemmas.List.Folds.{list_all-append}
use Rattle.mac_base.specs.declared.block.Entry.{Entry}
use Rattle.mac_base.specs.HeadKind.{Shape}
use Rattle.mac_base.specs.ZoneMap.{ZoneMap, is_free, free_bytes}
use Rattle.mac_base.specs.HandleTable.{HandleTable}
use Rattle.mac_base.specs.Suits.{free_apart, starts_free, is_block_size}
use Rattle.mac_base.specs.Gap.{Gap, filled}
use Rattle.zone_laws.proofs.GapParts.{IsGap, starts_fixed, ends_fixed}
use Rattle.zone_laws.proofs.Arranging.{IsArrangement}
use Rattle.zone_laws.proofs.Rearranging.{fixed-used}

-- free blocks are apart in the front of a list in which they are
pub free_apart-front : (a b : ZoneMap) → free_apart (a ++ b) ≡ true → free_apart a ≡ true
free_apart-front [] b h = refl
free_apart-front (e ∷ []) b h = and_from (not (is_free e.kind && false)) true (ap not (and_right (is_free e.kind) false refl)) refl
free_apart-front (e ∷ f ∷ es) b h = let parts = and_parts _ _ h in and_from _ _ parts.0 (free_apart-front (f ∷ es) b parts.1)

-- and in the back of it
pub free_apart-back : (a b : ZoneMap) → free_apart (a ++ b) ≡ true → free_apart b ≡ true
free_apart-back [] b h = h
free_apart-back (e ∷ es) b h = free_apart-back es b (and_parts _ _ h).1

-- whether the last block is free
abbrev pub ends_free : ZoneMap → Bool
ends_free [] = false
ends_free (e ∷ []) = is_free e.kind
ends_free (e ∷ f ∷ es) = ends_free (f ∷ es)

-- two lists in which free blocks are apart, one after the other
pub free_apart-append : (a b : ZoneMap) → free_apart a ≡ true → free_apart b ≡ true → (ends_free a && starts_free b) ≡ false → free_apart (a ++ b) ≡ true
free_apart-append [] b ha hb h = hb
free_apart-append (e ∷ []) b ha hb h = and_from _ _ (ap not h) hb
free_apart-append (e ∷ f ∷ es) b ha hb h = let parts = and_parts _ _ ha in and_from _ _ parts.0 (free_apart-append (f ∷ es) b parts.1 hb h)

-- what begins with a fixed block begins with no free one
pub starts_free-fixed : (t : HandleTable) (b : ZoneMap) → starts_fixed t b ≡ true → starts_free b ≡ false
starts_free-fixed t [] h = refl
starts_free-fixed t (e ∷ es) h = fixed-used t e.kind h

-- what ends with a fixed block ends with no free one
pub ends_free-fixed : (t : HandleTable) (b : ZoneMap) → ends_fixed t b ≡ true → ends_free b ≡ false
ends_free-fixed t [] h = refl
ends_free-fixed t (e ∷ []) h = fixed-used t e.kind h
ends_free-fixed t (e ∷ f ∷ es) h = ends_free-fixed t (f ∷ es) h

-- blocks in a gap, in which free blocks are apart: its edges are fixed
pub free_apart-filled : (t : HandleTable) (m : ZoneMap) (g : Gap) (b : ZoneMap) → IsGap t m g → free_apart m ≡ true → free_apart b ≡ true → free_apart (filled g b) ≡ true
free_apart-filled t m g b i hm hb = grind (arith, and_left, and_right, ends_free-fixed, free_apart-append, free_apart-back, free_apart-front, starts_free-fixed)

-- what holds of each block of a map, and of those now in a gap, holds of each block
pub list_all-filled : (p : Entry → Bool) (t : HandleTable) (m : ZoneMap) (g : Gap) (b : ZoneMap) → IsGap t m g → list_all p m ≡ true → list_all p b ≡ true → list_all p (filled g b) ≡ true
list_all-filled p t m g b i hm hb = grind (arith, and_from, and_parts, list_all-append)

-- what holds of each block of a map holds of each block of a gap
pub list_all-gap : (p : Entry → Bool) (t : HandleTable) (m : ZoneMap) (g : Gap) → IsGap t m g → list_all p m ≡ true → list_all p g.blocks ≡ true
list_all-gap p t m g i hm = grind (arith, and_parts, list_all-append)

sum_possible : (s : Shape) (n r : ℕ) → is_block_size s n ≡ true → (r ≡ 0) ⊎ (is_block_size s r ≡ true) → is_block_size s (n + r) ≡ true
sum_possible s n r h (inl none) = grind (arith, nat_tests)
sum_possible s n r h (inr some) = grind (arith, nat_tests)

-- the sizes of all blocks are possible
abbrev pub sizes_possible : Shape → ZoneMap → Bool
sizes_possible s m = list_all (λ (e : Entry). is_block_size s e.size) m

-- the free bytes of blocks with possible sizes are none, or make a block
pub free_bytes-possible : (s : Shape) (b : ZoneMap) → sizes_possible s b ≡ true → (free_bytes b ≡ 0) ⊎ (is_block_size s (free_bytes b) ≡ true)
free_bytes-possible s [] h = inl refl
free_bytes-possible s (e ∷ es) h = let parts = and_parts (is_block_size s e.size) (sizes_possible s es) h in let rest = free_bytes-possible s es parts.1 in
    elim (is_free e.kind) as (λ c. (cond c e.size 0 + free_bytes es ≡ 0) ⊎ (is_block_size s (cond c e.size 0 + free_bytes es) ≡ true)) [
      | true ↦ inr (sum_possible s e.size (free_bytes es) parts.0 rest)
      | false ↦ subst (λ n. (n ≡ 0) ⊎ (is_block_size s n ≡ true)) (let e : free_bytes es ≡ 0 + free_bytes es = omega arith in e) rest
    ]

-- an arrangement of a gap keeps free blocks apart
pub free_apart-arranged : (t : HandleTable) (m : ZoneMap) (g : Gap) (b : ZoneMap) → IsGap t m g → IsArrangement g.blocks b → free_apart m ≡ true → free_apart (filled g b) ≡ true
free_apart-arranged t m g b i a h = free_apart-filled t m g b i h a.apart

-- and sizes possible
pub sizes_possible-arranged : (s : Shape) (t : HandleTable) (m : ZoneMap) (g : Gap) (b : ZoneMap) → IsGap t m g → IsArrangement g.blocks b → sizes_possible s m ≡ true → sizes_possible s (filled g b) ≡ true
sizes_possible-arranged s t m g b i a h = grind (arith, free_bytes-possible, list_all-filled, list_all-gap)
