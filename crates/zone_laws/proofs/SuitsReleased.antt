-- A map suits its table once the block that a number names is free, and the number has none.
use Rattle.std.proofs.Common.{arith, ◌≡◌, ℕ, ◌+◌, Bool, true, false, cond, [], ◌∷◌, length, map, refl, ap, sym, ◌∙◌, IsTrue, Contains, subst}
use Rattle.std.specs.List.{list_all}
use Rattle.std.specs.Ordering.{nat_cmp}
use Rattle.std.specs.FinMap.{is_sorted}
use Rattle.std.proofs.lemmas.Bool.{false_from_ne_true, and_parts, and_from}
use Rattle.mac_base.specs.declared.block.Entry.{Entry}
use Rattle.mac_base.specs.declared.block.Kind.{Kind}
use Rattle.mac_base.specs.declared.block.Kind.TheVariants.{Free}
use Rattle.mac_base.specs.HeadKind.{Shape}
use Rattle.mac_base.specs.ZoneMap.{ZoneMap, block, is_master, is_named, total_size, address_after, addresses, addresses_from, contents_addresses, released}
use Rattle.mac_base.specs.HandleTable.{HandleTable, live_full, live_handle, live_pointer, is_full, is_handle, is_pointer}
use Rattle.mac_base.specs.Suits.{Suits, is_block_size, is_handle_block, is_pointer_block, has_owners_length, slots}
use Rattle.zone_laws.proofs.Maps.{addresses_from-skip}
use Rattle.zone_laws.proofs.Tables.{AgreeBut, by_number}
use Rattle.zone_laws.proofs.Joined.{sizes-joined, lengths-joined, free_apart-joined}
use Rattle.zone_laws.proofs.Owners.{named_handle, named_pointer, other_handle, other_pointer, has_owners_length-agree}
use Rattle.zone_laws.proofs.SuitsTaken.{slots-same, contents-same}
use Rattle.zone_laws.proofs.JoinedBlocks.{total_size-joined, addresses_from-joined}

-- the map in which what x names is free, not yet joined
abbrev pub freed : ℕ → ZoneMap → ZoneMap
freed x m = map (λ (e : Entry). cond (is_named x e.kind) (block Free e.size) e) m

-- freeing keeps the sum of the sizes
pub total_size-freed : (x : ℕ) (m : ZoneMap) → total_size (freed x m) ≡ total_size m
total_size-freed x [] = refl
total_size-freed x (e ∷ es) = grind (arith, total_size-freed x es)

-- releasing keeps the sum of the sizes
pub total_size-released : (x : ℕ) (m : ZoneMap) → total_size (released x m) ≡ total_size m
total_size-released x m = total_size-joined (freed x m) ∙ total_size-freed x m

-- what x doesn't name stays
addresses_from-freed_others : (x at : ℕ) (test : Kind → Bool) → test Free ≡ false → ((kind : Kind) → test kind ≡ true → is_named x kind ≡ false) → (m : ZoneMap) → addresses_from at test (freed x m) ≡ addresses_from at test m
addresses_from-freed_others x at test free others [] = refl
addresses_from-freed_others x at test free others (e ∷ es) = grind (arith, addresses_from-freed_others x (at + e.size) test free others es, addresses_from-skip, false_from_ne_true)

-- and what it names is gone
addresses_from-freed_same : (x at : ℕ) (test : Kind → Bool) → test Free ≡ false → ((kind : Kind) → test kind ≡ true → is_named x kind ≡ true) → (m : ZoneMap) → addresses_from at test (freed x m) ≡ []
addresses_from-freed_same x at test free named [] = refl
addresses_from-freed_same x at test free named (e ∷ es) = grind (arith, addresses_from-freed_same x (at + e.size) test free named es, addresses_from-skip, false_from_ne_true)

sizes-freed : (s : Shape) (x : ℕ) (m : ZoneMap) → IsTrue (list_all (λ (e : Entry). is_block_size s e.size) m) → IsTrue (list_all (λ (e : Entry). is_block_size s e.size) (freed x m))
sizes-freed s x [] h = refl
sizes-freed s x (e ∷ es) h =
    let hs = and_parts (is_block_size s e.size) (list_all (λ (e : Entry). is_block_size s e.size) es) h in
    by_test (is_named x e.kind) hs.0 (sizes-freed s x es hs.1)
  where
    by_test : (b : Bool) → is_block_size s e.size ≡ true → IsTrue (list_all (λ (e : Entry). is_block_size s e.size) (freed x es)) → IsTrue (list_all (λ (e : Entry). is_block_size s e.size) (cond b (block Free e.size) e ∷ freed x es))
    by_test true here rest = and_from (is_block_size s e.size) _ here rest
    by_test false here rest = and_from (is_block_size s e.size) _ here rest

lengths-freed : (s : Shape) (x : ℕ) (t u : HandleTable) → AgreeBut x t u → (m : ZoneMap) → IsTrue (list_all (has_owners_length s t) m) → IsTrue (list_all (has_owners_length s u) (freed x m))
lengths-freed s x t u agree [] h = refl
lengths-freed s x t u agree (e ∷ es) h =
    let hs = and_parts (has_owners_length s t e) (list_all (has_owners_length s t) es) h in
    by_test (is_named x e.kind) refl hs.0 (lengths-freed s x t u agree es hs.1)
  where
    by_test : (b : Bool) → is_named x e.kind ≡ b → has_owners_length s t e ≡ true → IsTrue (list_all (has_owners_length s u) (freed x es)) → IsTrue (list_all (has_owners_length s u) (cond b (block Free e.size) e ∷ freed x es))
    by_test true is here rest = rest
    by_test false is here rest = and_from (has_owners_length s u e) _ (has_owners_length-agree s x t u agree e is ∙ here) rest

-- what x doesn't name keeps its address when x is released
pub addresses-released : (s : Shape) (x : ℕ) (test : Kind → Bool) (m : ZoneMap) → test Free ≡ false → ((kind : Kind) → test kind ≡ true → is_named x kind ≡ false) → addresses s test (released x m) ≡ addresses s test m
addresses-released s x test m free others = addresses_from-joined (address_after s []) test (freed x m) free ∙ addresses_from-freed_others x (address_after s []) test free others m

-- what x names is gone once it is released
pub addresses-released_same : (s : Shape) (x : ℕ) (test : Kind → Bool) (m : ZoneMap) → test Free ≡ false → ((kind : Kind) → test kind ≡ true → is_named x kind ≡ true) → addresses s test (released x m) ≡ []
addresses-released_same s x test m free named = addresses_from-joined (address_after s []) test (freed x m) free ∙ addresses_from-freed_same x (address_after s []) test free named m

master_unnamed : (x : ℕ) (kind : Kind) → is_master kind ≡ true → is_named x kind ≡ false
master_unnamed x v1 h = grind arith

-- the slots stay
pub slots-released : (s : Shape) (x : ℕ) (m : ZoneMap) → slots s (released x m) ≡ slots s m
slots-released s x m = slots-same s m (released x m) (addresses-released s x is_master m refl (master_unnamed x))

-- The block of x is free, and x is no pointer any more and no handle with a block.
pub Suits-released : (s : Shape) (x : ℕ) (m : ZoneMap) (t u : HandleTable) → Suits s t m → AgreeBut x t u → is_full u x ≡ false → is_pointer u x ≡ false → (IsTrue (is_handle u x) → Contains (slots s m) x)
    → IsTrue (is_sorted nat_cmp u.live) → Suits s u (released x m)
Suits-released s x m t u suits agree not_full no_pointer slot rise = record {
  apart = free_apart-joined (freed x m);
  sizes = sizes-joined s (freed x m) (sizes-freed s x m suits.sizes);
  lengths = lengths-joined s u (freed x m) (lengths-freed s x t u agree m suits.lengths);
  coherent = record {
    handles = by_number (λ g. length (addresses s (is_handle_block g) (released x m)) ≡ cond (is_full u g) 1 0) x
        (ap length (addresses-released_same s x (is_handle_block x) m refl (named_handle x)) ∙ sym (ap (λ b. cond b 1 0) not_full))
        (λ g apart. ap length (addresses-released s x (is_handle_block g) m refl (other_handle x g apart)) ∙ suits.coherent.handles g ∙ sym (ap (λ o. cond (live_full o) 1 0) (agree.others g apart)));
    pointers = by_number (λ p. contents_addresses s (is_pointer_block p) (released x m) ≡ cond (is_pointer u p) (p ∷ []) []) x
        (contents-same s (is_pointer_block x) [] (released x m) (addresses-released_same s x (is_pointer_block x) m refl (named_pointer x)) ∙ sym (ap (λ b. cond b (x ∷ []) []) no_pointer))
        (λ p apart. contents-same s (is_pointer_block p) m (released x m) (addresses-released s x (is_pointer_block p) m refl (other_pointer x p apart)) ∙ suits.coherent.pointers p ∙ sym (ap (λ o. cond (live_pointer o) (p ∷ []) []) (agree.others p apart)));
    in_slots = by_number (λ g. IsTrue (is_handle u g) → Contains (slots s (released x m)) g) x
        (λ live. subst (λ xs. Contains xs x) (sym (slots-released s x m)) (slot live))
        (λ g apart live. subst (λ xs. Contains xs g) (sym (slots-released s x m)) (suits.coherent.in_slots g (sym (ap live_handle (agree.others g apart)) ∙ live)));
    in_order = rise;
  };
}
