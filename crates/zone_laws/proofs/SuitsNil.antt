-- Where a map suits a table, no block is of the number nil, and none of a number that isn't live.
use Rattle.std.proofs.Common.{◌≡◌, ℕ, zero, suc, ◌+◌, ◌<◌, Bool, true, false, cond, List, [], ◌∷◌, length, refl, ap, sym, ◌∙◌, arith, None, get_or}
use Rattle.std.specs.Prelude.{Contains, map, flat_map, nat_lt}
use Rattle.std.specs.List.{list_all}
use Rattle.std.proofs.lemmas.Bool.{and_from, and_parts, lt-ltb, ltb-true, true≢false, false≢true, cases_Bool, false_from_ne_true}
use Rattle.std.proofs.lemmas.List.{nil_from_length}
use Rattle.std.proofs.lemmas.List.Folds.{list_all-append}
use Rattle.mac_base.specs.declared.block.Kind.{Kind}
use Rattle.mac_base.specs.HeadKind.{Shape, head_size, slot_count}
use Rattle.mac_base.specs.ZoneMap.{ZoneMap, is_named, is_master, sizes, address_after, addresses_from, contents_addresses}
use Rattle.mac_base.specs.HandleTable.{HandleTable, live_at, live_full, live_pointer, is_full, is_handle, is_pointer}
use Rattle.mac_base.specs.Suits.{Suits, slots_from, slots, is_pointer_block}
use Rattle.zone_laws.proofs.SuitsNamed.{length-sizes_of}
use Rattle.zone_laws.proofs.Tables.{full_handle}

abbrev all_positive : List ℕ → Bool
all_positive ns = list_all (λ n. nat_lt 0 n) ns

positive-contains : (ns : List ℕ) (x : ℕ) → all_positive ns ≡ true → Contains ns x → 0 < x
positive-contains [] x h c = absurd (omega (arith, c.1))
positive-contains (n ∷ ns) x h c = let parts = and_parts (nat_lt 0 n) (all_positive ns) h in by_place c.0 c.1 c.2 (ltb-true 0 n parts.0) (λ c. positive-contains ns x parts.1 c)
  where
    by_place : (k : ℕ) → k < length (n ∷ ns) → get_or (n ∷ ns) k x ≡ x → 0 < n → (Contains ns x → 0 < x) → 0 < x
    by_place zero lt is here rest = omega arith
    by_place (suc k) lt is here rest = rest (k, omega arith, is)

positive-addresses : (at head : ℕ) (test : Kind → Bool) (m : ZoneMap) → 0 < at → all_positive (map (λ at. at + head) (addresses_from at test m)) ≡ true
positive-addresses at head test [] h = refl
positive-addresses at head test (e ∷ es) h = grind (arith, positive-addresses (at + e.size) head test es (omega arith), and_from, lt-ltb)

positive-contents : (s : Shape) (test : Kind → Bool) (m : ZoneMap) → all_positive (contents_addresses s test m) ≡ true
positive-contents s test m = positive-addresses (address_after s []) (head_size s.heads) test m (omega arith)

positive-slots_from : (n at : ℕ) → 0 < at → all_positive (slots_from n at) ≡ true
positive-slots_from zero at h = refl
positive-slots_from (suc n) at h = and_from (nat_lt 0 at) (all_positive (slots_from n (at + 4))) (lt-ltb 0 at h) (positive-slots_from n (at + 4) (omega arith))

positive-slots : (n : ℕ) (ats : List ℕ) → all_positive ats ≡ true → all_positive (flat_map (slots_from n) ats) ≡ true
positive-slots n [] h = refl
positive-slots n (at ∷ ats) h = let parts = and_parts (nat_lt 0 at) (all_positive ats) h in
    list_all-append (λ n. nat_lt 0 n) (slots_from n at) (flat_map (slots_from n) ats) ∙ and_from _ _ (positive-slots_from n at (ltb-true 0 at parts.0)) (positive-slots n ats parts.1)

-- nil is no live handle
pub nil-no_handle : (s : Shape) (t : HandleTable) (m : ZoneMap) → Suits s t m → is_handle t 0 ≡ false
nil-no_handle s t m suits = false_from_ne_true (is_handle t 0) (λ live. let positive = positive-contains (slots s m) 0 (positive-slots slot_count (contents_addresses s is_master m) (positive-contents s is_master m)) (suits.coherent.in_slots 0 live) in absurd (omega (arith, positive)))

-- and no live pointer
pub nil-no_pointer : (s : Shape) (t : HandleTable) (m : ZoneMap) → Suits s t m → is_pointer t 0 ≡ false
nil-no_pointer s t m suits = false_from_ne_true (is_pointer t 0) (λ live.
    let one = suits.coherent.pointers 0 ∙ ap (λ c. cond c (0 ∷ []) []) live in
    let positive : all_positive (0 ∷ []) ≡ true = ap all_positive (sym one) ∙ positive-contents s (is_pointer_block 0) m in
    absurd (false≢true positive))

-- a number that is no handle with a block and no pointer names no block
pub named_none : (s : Shape) (t : HandleTable) (m : ZoneMap) (x : ℕ) → Suits s t m → is_full t x ≡ false → is_pointer t x ≡ false → sizes (is_named x) m ≡ []
named_none s t m x suits no_handle no_pointer = nil_from_length (sizes (is_named x) m) (length-sizes_of s t m x suits ∙ ap (λ c. cond c 1 0 + cond (is_pointer t x) 1 0) no_handle ∙ ap (λ c. 0 + cond c 1 0) no_pointer)

-- so a number that isn't live
pub named_none-not_live : (s : Shape) (t : HandleTable) (m : ZoneMap) (x : ℕ) → Suits s t m → live_at t x ≡ None → sizes (is_named x) m ≡ []
named_none-not_live s t m x suits none = named_none s t m x suits (ap live_full none) (ap live_pointer none)

-- and nil
pub named_none-nil : (s : Shape) (t : HandleTable) (m : ZoneMap) → Suits s t m → sizes (is_named 0) m ≡ []
named_none-nil s t m suits = grind (arith, cases_Bool, full_handle, named_none, nil-no_handle, nil-no_pointer, true≢false)
