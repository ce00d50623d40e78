-- What a zone map is once one of its blocks is for something else, and what a number that names no block names there.
use Rattle.std.proofs.Common.{◌≡◌, ℕ, ◌+◌, Bool, true, not, cond, [], ◌∷◌, ◌++◌, map, refl, ap, sym, ◌∙◌, arith, IsTrue}
use Rattle.std.specs.Prelude.{slice_index}
use Rattle.std.specs.List.{list_all}
use Rattle.std.proofs.lemmas.List.Folds.{list_all-append}
use Rattle.std.proofs.lemmas.List.{map-append}
use Rattle.std.proofs.lemmas.Bool.{not-true, and_parts, and_from}
use Rattle.mac_base.specs.declared.block.Entry.{Entry}
use Rattle.mac_base.specs.declared.block.Kind.{Kind}
use Rattle.mac_base.specs.declared.block.Kind.TheVariants.{Free, Ptr, Rel}
use Rattle.mac_base.specs.HeadKind.{Shape, head_size}
use Rattle.mac_base.specs.ZoneMap.{ZoneMap, block, is_master, is_named, total_size, address_after, addresses, addresses_from, contents_addresses, contents_of}
use Rattle.mac_base.specs.Suits.{is_handle_block, is_pointer_block, slots}
use Rattle.mac_base.specs.ZoneState.{ZoneState}
use Rattle.zone_laws.proofs.GapAppend.{addresses_from-none}
use Rattle.zone_laws.proofs.Owners.{none_named}
use Rattle.zone_laws.proofs.SuitsTaken.{slots-same, contents-same}
use Rattle.zone_laws.proofs.Maps.{addresses_from-append}
use Rattle.linked_zone.specs.Changes.{freed}

-- where x names no block, none passes a test that only those pass that it names
none_passes : (p : Kind → Bool) (x : ℕ) → ((kind : Kind) → not (is_named x kind) ≡ true → not (p kind) ≡ true) → (m : ZoneMap) → none_named x m ≡ true → IsTrue (list_all (λ (e : Entry). not (p e.kind)) m)
none_passes p x by_kind [] none = refl
none_passes p x by_kind (e ∷ es) none =
    let parts = and_parts (not (is_named x e.kind)) (none_named x es) none in
    and_from (not (p e.kind)) _ (by_kind e.kind parts.0) (none_passes p x by_kind es parts.1)

-- so none is the block of the handle x
pub none_handle : (x : ℕ) (m : ZoneMap) → none_named x m ≡ true → IsTrue (list_all (λ (e : Entry). not (is_handle_block x e.kind)) m)
none_handle x = none_passes (is_handle_block x) x by_kind
  where
    by_kind : (kind : Kind) → not (is_named x kind) ≡ true → not (is_handle_block x kind) ≡ true
    by_kind (Rel g) h = h
    by_kind _ h = refl

-- nor of the pointer x
pub none_pointer : (x : ℕ) (m : ZoneMap) → none_named x m ≡ true → IsTrue (list_all (λ (e : Entry). not (is_pointer_block x e.kind)) m)
none_pointer x = none_passes (is_pointer_block x) x by_kind
  where
    by_kind : (kind : Kind) → not (is_named x kind) ≡ true → not (is_pointer_block x kind) ≡ true
    by_kind (Ptr p) h = h
    by_kind _ h = refl

-- what names no block frees none
pub freed-none : (x : ℕ) (m : ZoneMap) → none_named x m ≡ true → freed x m ≡ m
freed-none x [] none = refl
freed-none x (e ∷ es) none =
    let parts = and_parts (not (is_named x e.kind)) (none_named x es) none in
    ap (λ b. cond b (block Free e.size) e ∷ freed x es) (not-true _ parts.0) ∙ ap (λ es. e ∷ es) (freed-none x es parts.1)

-- to free what x names is to free the one block that it names
pub freed-only : (x : ℕ) (m before : ZoneMap) (e : Entry) (after : ZoneMap) → m ≡ before ++ e ∷ after → is_named x e.kind ≡ true → none_named x before ≡ true → none_named x after ≡ true
    → freed x m ≡ before ++ block Free e.size ∷ after
freed-only x m before e after is named first second =
    ap (freed x) is
    ∙ map-append (λ (e : Entry). cond (is_named x e.kind) (block Free e.size) e) before (e ∷ after)
    ∙ ap (λ m. m ++ freed x (e ∷ after)) (freed-none x before first)
    ∙ ap (λ c. before ++ cond c (block Free e.size) e ∷ freed x after) named
    ∙ ap (λ m. before ++ block Free e.size ∷ m) (freed-none x after second)

-- where x names no block of a map in three parts, it names none before and none after
pub none_named-parts : (x : ℕ) (before : ZoneMap) (e : Entry) (after : ZoneMap) → none_named x (before ++ e ∷ after) ≡ true → (none_named x before ≡ true) × (none_named x after ≡ true)
none_named-parts x before e after none =
    let outer = and_parts (none_named x before) (none_named x (e ∷ after)) (sym (list_all-append _ before (e ∷ after)) ∙ none) in
    (outer.0, (and_parts (not (is_named x e.kind)) (none_named x after) outer.1).1)

-- where the first block that passes is
pub addresses-first : (s : Shape) (test : Kind → Bool) (before : ZoneMap) (e : Entry) (after : ZoneMap) → IsTrue (list_all (λ (e : Entry). not (test e.kind)) before) → test e.kind ≡ true
    → addresses s test (before ++ e ∷ after) ≡ address_after s before ∷ addresses_from ((address_after s [] + total_size before) + e.size) test after
addresses-first s test before e after none passes =
    let here : address_after s [] + total_size before ≡ address_after s before = omega arith in
    addresses_from-append (address_after s []) test before (e ∷ after)
    ∙ ap (λ found. found ++ addresses_from (address_after s [] + total_size before) test (e ∷ after)) (addresses_from-none (address_after s []) test before none)
    ∙ ap (λ b. cond b ((address_after s [] + total_size before) ∷ []) [] ++ addresses_from ((address_after s [] + total_size before) + e.size) test after) passes
    ∙ ap (λ a. a ∷ addresses_from ((address_after s [] + total_size before) + e.size) test after) here

-- and where it alone passes
pub addresses-only : (s : Shape) (test : Kind → Bool) (before : ZoneMap) (e : Entry) (after : ZoneMap) → IsTrue (list_all (λ (e : Entry). not (test e.kind)) before)
    → IsTrue (list_all (λ (e : Entry). not (test e.kind)) after) → test e.kind ≡ true → addresses s test (before ++ e ∷ after) ≡ address_after s before ∷ []
addresses-only s test before e after none_before none_after passes =
    addresses-first s test before e after none_before passes
    ∙ ap (λ found. address_after s before ∷ found) (addresses_from-none ((address_after s [] + total_size before) + e.size) test after none_after)

-- where the contents of the first block begin that x names
pub contents_of-first : (s : Shape) (x : ℕ) (before : ZoneMap) (e : Entry) (after : ZoneMap) → none_named x before ≡ true → is_named x e.kind ≡ true
    → contents_of s x (before ++ e ∷ after) ≡ address_after s before + head_size s.heads
contents_of-first s x before e after none named = ap (λ found. slice_index (map (λ a. a + head_size s.heads) found) 0) (addresses-first s (is_named x) before e after none named)

module _ (z : ZoneState) (before : ZoneMap) (a b : Kind) (n : ℕ) (after : ZoneMap) (was : z.heap.map ≡ before ++ block a n ∷ after) where
  -- what passes both blocks or neither stays
  pub swapped-addresses : (test : Kind → Bool) → test b ≡ test a → addresses z.shape test (before ++ block b n ∷ after) ≡ addresses z.shape test z.heap.map
  swapped-addresses test same =
      addresses_from-append (address_after z.shape []) test before (block b n ∷ after)
      ∙ ap (λ c. addresses_from (address_after z.shape []) test before ++ (cond c ((address_after z.shape [] + total_size before) ∷ []) [] ++ addresses_from ((address_after z.shape [] + total_size before) + n) test after)) same
      ∙ sym (addresses_from-append (address_after z.shape []) test before (block a n ∷ after))
      ∙ ap (addresses z.shape test) (sym was)

  -- the slots stay
  pub swapped-slots : is_master b ≡ is_master a → slots z.shape (before ++ block b n ∷ after) ≡ slots z.shape z.heap.map
  swapped-slots same = slots-same z.shape z.heap.map (before ++ block b n ∷ after) (swapped-addresses is_master same)

  -- the contents of each pointer's block stay
  pub swapped-pointers : (p : ℕ) → is_pointer_block p b ≡ is_pointer_block p a → contents_addresses z.shape (is_pointer_block p) (before ++ block b n ∷ after) ≡ contents_addresses z.shape (is_pointer_block p) z.heap.map
  swapped-pointers p same = contents-same z.shape (is_pointer_block p) z.heap.map (before ++ block b n ∷ after) (swapped-addresses (is_pointer_block p) same)

  -- so do those of each block that x names
  pub swapped-contents : (x : ℕ) → is_named x b ≡ is_named x a → contents_of z.shape x (before ++ block b n ∷ after) ≡ contents_of z.shape x z.heap.map
  swapped-contents x same = ap (λ found. slice_index (map (λ a. a + head_size z.shape.heads) found) 0) (swapped-addresses (is_named x) same)
