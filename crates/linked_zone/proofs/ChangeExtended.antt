-- What a zone is once it has grown to its limit.
use Rattle.std.proofs.Common.{◌≡◌, ℕ, ◌+◌, ◌-◌, ◌<◌, ◌≤◌, Bool, true, false, cond, eqb, [], ◌∷◌, ◌++◌, refl, ap, ◌∙◌, arith, append-nil}
use Rattle.std.specs.List.{filter, list_all}
use Rattle.std.proofs.lemmas.Bool.Decides.{nat_tests}
use Rattle.std.proofs.lemmas.List.Folds.{list_all-append}
use Rattle.std.proofs.lemmas.Bool.{and_from}
use Rattle.mac_base.specs.declared.block.Entry.{Entry}
use Rattle.mac_base.specs.declared.block.Kind.{Kind}
use Rattle.mac_base.specs.declared.block.Kind.TheVariants.{Free}
use Rattle.mac_base.specs.HeadKind.{Shape, zone_header}
use Rattle.mac_base.specs.HandleTable.{is_lent}
use Rattle.mac_base.specs.Loans.{owners}
use Rattle.mac_base.specs.ZoneMap.{ZoneMap, block, free_block, total_size, address_after, addresses, addresses_from}
use Rattle.mac_base.specs.ZoneState.{ZoneState}
use Rattle.zone_laws.proofs.Arranging.{total_size-free_block}
use Rattle.zone_laws.proofs.Maps.{addresses_from-append, addresses_from-skip, total_size-append}
use Rattle.linked_zone.specs.Changes.{extended}
use Rattle.linked_zone.specs.Fit.{Fits}
use Rattle.linked_zone.specs.Owned.{slot_of}
use Rattle.linked_zone.proofs.ChangeCut.{free_changed-fits, free_changed-pointers}
use Rattle.linked_zone.proofs.Lent.{owners-append, loans-kept}

-- what holds of no block and, where n is above 0, of a free one of n bytes
pub by_free : (P : ZoneMap → Type 0) (n : ℕ) → (n ≡ 0 → P []) → (0 < n → P (block Free n ∷ [])) → P (free_block n)
by_free P n none some = elim (eqb n 0) as (λ b. eqb n 0 ≡ b → P (cond b [] (block Free n ∷ []))) [
  | true ↦ λ h. none (is_zero h)
  | false ↦ λ h. some (is_some h)
] refl
  where
    is_zero : eqb n 0 ≡ true → n ≡ 0
    is_zero h = grind (arith, nat_tests)

    is_some : eqb n 0 ≡ false → 0 < n
    is_some h = grind (arith, nat_tests)

-- with a free block after it a map has what passes and isn't free
addresses-after : (s : Shape) (test : Kind → Bool) (m : ZoneMap) (n : ℕ) → test Free ≡ false → addresses s test (m ++ free_block n) ≡ addresses s test m
addresses-after s test m n free =
    addresses_from-append (address_after s []) test m (free_block n)
    ∙ ap (λ found. addresses s test m ++ found)
    (by_free (λ bs. addresses_from (address_after s [] + total_size m) test bs ≡ []) n (λ is. refl) (λ some. addresses_from-skip (address_after s [] + total_size m) test (block Free n) [] free))
    ∙ append-nil (addresses s test m)

-- and the owners are the same
owners-after : (m : ZoneMap) (n : ℕ) → owners (m ++ free_block n) ≡ owners m
owners-after m n = owners-append m (free_block n) ∙ ap (λ os. owners m ++ os) (by_free (λ bs. owners bs ≡ []) n (λ is. refl) (λ some. refl)) ∙ append-nil (owners m)

-- what all blocks pass, and the free one
pub passes-after : (p : Entry → Bool) (m : ZoneMap) (n : ℕ) → list_all p m ≡ true → (0 < n → p (block Free n) ≡ true) → list_all p (m ++ free_block n) ≡ true
passes-after p m n all free = list_all-append p m (free_block n) ∙ and_from (list_all p m) _ all
    (by_free (λ bs. list_all p bs ≡ true) n (λ is. refl) (λ some. and_from (p (block Free n)) true (free some) refl))

module _ (z : ZoneState) where
  abbrev left : ℕ
  left = z.shape.limit - (zone_header + total_size z.heap.map)

  -- the zone is as large as its limit
  pub extended-total : zone_header + total_size z.heap.map ≤ z.shape.limit → zone_header + total_size (extended z).heap.map ≡ z.shape.limit
  extended-total within = let sum = total_size-append z.heap.map (free_block left) in let size = total_size-free_block left in omega arith

  -- it still fits
  pub extended-fits : Fits z → Fits (extended z)
  extended-fits fits = free_changed-fits z (extended z).heap.map (λ test free. addresses-after z.shape test z.heap.map left free) fits
      (loans-kept z.heap (extended z).heap fits.loans refl (ap (filter (is_lent z.heap.table)) (owners-after z.heap.map left)))

  -- all master pointers stay
  pub extended-pointers : (x : ℕ) → slot_of (extended z) x ≡ slot_of z x
  extended-pointers x = free_changed-pointers z (extended z).heap.map (λ test free. addresses-after z.shape test z.heap.map left free) x
