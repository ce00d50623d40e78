-- What is counted and listed of blocks, over two lists of blocks one after the other.
use Rattle.std.proofs.Common.{◌≡◌, ℕ, ◌+◌, Bool, not, cond, [], ◌∷◌, ◌++◌, length, refl, ap, ◌∙◌, arith}
use Rattle.std.specs.Prelude.{IsTrue}
use Rattle.std.specs.List.{list_all}
use Rattle.std.proofs.lemmas.Bool.{and_parts, not-true}
use Rattle.mac_base.specs.declared.block.Entry.{Entry}
use Rattle.mac_base.specs.declared.block.Kind.{Kind}
use Rattle.mac_base.specs.ZoneMap.{ZoneMap, free_bytes, addresses_from, sizes}

-- the free bytes of two lists of blocks
pub free_bytes-append : (a b : ZoneMap) → free_bytes (a ++ b) ≡ free_bytes a + free_bytes b
free_bytes-append [] b = omega arith
free_bytes-append (e ∷ es) b = let rest = free_bytes-append es b in omega arith

-- the sizes of the blocks that pass a test, in two lists of blocks
pub sizes-append : (test : Kind → Bool) (a b : ZoneMap) → sizes test (a ++ b) ≡ sizes test a ++ sizes test b
sizes-append test [] b = refl
sizes-append test (e ∷ es) b = grind (arith, sizes-append test es b)

-- two tests that agree at each kind are one
pub same_test : {p q : Kind → Bool} → ((k : Kind) → p k ≡ q k) → p ≡ q
same_test h = λ i k. h k i

-- blocks of which none passes the test have no address
pub addresses_from-none : (at : ℕ) (test : Kind → Bool) (m : ZoneMap) → IsTrue (list_all (λ (e : Entry). not (test e.kind)) m) → addresses_from at test m ≡ []
addresses_from-none at test [] h = refl
addresses_from-none at test (e ∷ es) h = let parts = and_parts (not (test e.kind)) (list_all (λ (e : Entry). not (test e.kind)) es) h in
    ap (λ b. cond b (at ∷ []) [] ++ addresses_from (at + e.size) test es) (not-true (test e.kind) parts.0) ∙ addresses_from-none (at + e.size) test es parts.1

-- as many addresses as sizes
pub length-addresses_from : (at : ℕ) (test : Kind → Bool) (m : ZoneMap) → length (addresses_from at test m) ≡ length (sizes test m)
length-addresses_from at test [] = refl
length-addresses_from at test (e ∷ es) = grind (arith, length-addresses_from (at + e.size) test es)
