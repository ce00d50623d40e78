-- A sound heap stays sound where the zone grows to its limit.
use Rattle.std.proofs.Common.{◌≡◌, ℕ, ◌+◌, ◌-◌, ◌≤◌, ◌↔◌, Bool, true, false, ◌||◌, cond, eqb, [], ◌∷◌, ◌++◌, length, refl, ap, sym, ◌∙◌, arith, IsTrue, IsFalse, Contains, subst, append-nil}
use Rattle.std.specs.List.{list_all}
use Rattle.std.proofs.lemmas.List.Folds.{list_all-append}
use Rattle.std.proofs.lemmas.Bool.Decides.{nat_tests}
use Rattle.std.proofs.lemmas.Bool.{and_from}
use Rattle.mac_base.specs.declared.block.Entry.{Entry}
use Rattle.mac_base.specs.declared.block.Kind.{Kind}
use Rattle.mac_base.specs.declared.block.Kind.TheVariants.{Free}
use Rattle.mac_base.specs.HeadKind.{Shape, zone_header}
use Rattle.mac_base.specs.ZoneMap.{ZoneMap, block, free_block, is_master, total_size, address_after, addresses, addresses_from, at_limit}
use Rattle.mac_base.specs.HandleTable.{HandleTable, is_handle}
use Rattle.mac_base.specs.Suits.{Suits, is_block_size, is_handle_block, is_pointer_block, has_owners_length}
use Rattle.mac_base.specs.Heap.{Heap, grown}
use Rattle.mac_base.specs.Sound.{Sound, is_growth}
use Rattle.zone_laws.proofs.Maps.{addresses_from-append, addresses_from-skip, total_size-append}
use Rattle.zone_laws.proofs.Joined.{sizes-joined, lengths-joined, free_apart-joined}
use Rattle.zone_laws.proofs.SuitsTaken.{slots-same, contents-same}
use Rattle.zone_laws.proofs.Arranging.{total_size-free_block}
use Rattle.zone_laws.proofs.JoinedBlocks.{total_size-joined, addresses_from-joined}

-- a free block of n bytes, or none where n is 0
by_free : (P : ZoneMap → Type 0) (n : ℕ) → (n ≡ 0 → P []) → (eqb n 0 ≡ false → P (block Free n ∷ [])) → P (free_block n)
by_free P n none some = elim (eqb n 0) as (λ b. eqb n 0 ≡ b → P (cond b [] (block Free n ∷ []))) [
  | true ↦ λ h. none (is_zero h)
  | false ↦ λ h. some h
] refl
  where
    is_zero : eqb n 0 ≡ true → n ≡ 0
    is_zero h = grind (arith, nat_tests)

addresses_from-free_block : (n at : ℕ) (test : Kind → Bool) → test Free ≡ false → addresses_from at test (free_block n) ≡ []
addresses_from-free_block n at test free = by_free (λ m. addresses_from at test m ≡ []) n (λ _. refl) (λ _. addresses_from-skip at test (block Free n) [] free)

-- growth adds nothing to what passes and isn't free
pub addresses-at_limit : (s : Shape) (test : Kind → Bool) (m : ZoneMap) → test Free ≡ false → addresses s test (at_limit s m) ≡ addresses s test m
addresses-at_limit s test m free =
    let more = s.limit - (zone_header + total_size m) in
    addresses_from-joined (address_after s []) test (m ++ free_block more) free ∙ addresses_from-append (address_after s []) test m (free_block more)
    ∙ ap (λ found. addresses s test m ++ found) (addresses_from-free_block more (address_after s [] + total_size m) test free) ∙ append-nil (addresses s test m)

-- the zone is as large as its limit allows
pub total_size-at_limit : (s : Shape) (m : ZoneMap) → zone_header + total_size m ≤ s.limit → zone_header + total_size (at_limit s m) ≡ s.limit
total_size-at_limit s m within = grind (arith, total_size-append, total_size-free_block, total_size-joined)

list_all-at_limit : (p : Entry → Bool) (m : ZoneMap) (n : ℕ) → list_all p m ≡ true → (eqb n 0 ≡ false → p (block Free n) ≡ true) → list_all p (m ++ free_block n) ≡ true
list_all-at_limit p m n h free = list_all-append p m (free_block n) ∙ and_from (list_all p m) _ h (by_free (λ m. list_all p m ≡ true) n (λ _. refl) (λ some. and_from (p (block Free n)) true (free some) refl))

pub or_rest : (a b : Bool) → (a || b) ≡ true → a ≡ false → b ≡ true
or_rest true b h is = absurd (cc is)
or_rest false b h is = h

-- the map grown to the limit suits the table
pub Suits-at_limit : (s : Shape) (t : HandleTable) (m : ZoneMap) → Suits s t m → IsTrue (is_growth s (s.limit - (zone_header + total_size m))) → Suits s t (at_limit s m)
Suits-at_limit s t m suits growth =
    let more = s.limit - (zone_header + total_size m) in
    record {
      apart = free_apart-joined (m ++ free_block more);
      sizes = sizes-joined s (m ++ free_block more) (list_all-at_limit (λ (e : Entry). is_block_size s e.size) m more suits.sizes (or_rest (eqb more 0) (is_block_size s more) growth));
      lengths = lengths-joined s t (m ++ free_block more) (list_all-at_limit (has_owners_length s t) m more suits.lengths (λ _. refl));
      coherent = record {
        handles = λ h. ap length (addresses-at_limit s (is_handle_block h) m refl) ∙ suits.coherent.handles h;
        pointers = λ p. contents-same s (is_pointer_block p) m (at_limit s m) (addresses-at_limit s (is_pointer_block p) m refl) ∙ suits.coherent.pointers p;
        in_slots = λ h live. subst (λ xs. Contains xs h) (sym (slots-same s m (at_limit s m) (addresses-at_limit s is_master m refl))) (suits.coherent.in_slots h live);
        in_order = suits.coherent.in_order;
      };
    }

no_more : (limit n : ℕ) → n ≡ limit → limit - n ≡ 0
no_more limit n h = omega arith

-- the zone is grown to its limit
pub sound-grown : (s : Shape) (heap : Heap) → Sound s heap → Sound s (grown s heap)
sound-grown s heap sound =
    let all = total_size-at_limit s heap.map sound.within in
    record {
      suits = Suits-at_limit s heap.table heap.map sound.suits sound.growth;
      within = omega (arith, all);
      growth = ap (is_growth s) (no_more s.limit (zone_header + total_size (at_limit s heap.map)) all);
      slots = record {
        free = subst (λ xs. (x : ℕ) → Contains heap.free_slots x ↔ (Contains xs x × IsFalse (is_handle heap.table x))) (sym (slots-same s heap.map (at_limit s heap.map) (addresses-at_limit s is_master heap.map refl))) sound.slots.free;
        once = sound.slots.once;
      };
    }
