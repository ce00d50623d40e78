-- Which blocks a number names, and what their owners want once one of them changes.
use Rattle.std.proofs.Common.{◌≡◌, ℕ, ◌+◌, Bool, true, false, not, ◌||◌, cond, eqb, List, [], ◌∷◌, ◌++◌, refl, ap, ◌∙◌, arith, IsTrue, map}
use Rattle.std.specs.List.{list_all}
use Rattle.std.proofs.lemmas.List.{nil_from_length}
use Rattle.std.proofs.lemmas.Bool.{not-true, and_parts, not_from_false, and_from}
use Rattle.mac_base.specs.declared.block.Entry.{Entry}
use Rattle.mac_base.specs.declared.block.Kind.{Kind}
use Rattle.mac_base.specs.HeadKind.{Shape}
use Rattle.mac_base.specs.ZoneMap.{ZoneMap, is_free, is_named, addresses_from, addresses, address_after}
use Rattle.mac_base.specs.HandleTable.{HandleTable, is_full, is_pointer}
use Rattle.mac_base.specs.Suits.{Suits, is_handle_block, is_pointer_block, has_length, has_owners_length, wanted_length}
use Rattle.zone_laws.proofs.Tables.{AgreeBut}

-- whether x names no block of a map
abbrev pub none_named : ℕ → ZoneMap → Bool
none_named x m = list_all (λ (e : Entry). not (is_named x e.kind)) m

-- a number names the blocks of the handle and those of the pointer
pub not_named : (x : ℕ) (kind : Kind) → is_handle_block x kind ≡ false → is_pointer_block x kind ≡ false → is_named x kind ≡ false
not_named x v1 h p = grind arith

-- x names the block of the handle x
pub named_handle : (x : ℕ) (kind : Kind) → is_handle_block x kind ≡ true → is_named x kind ≡ true
named_handle x v1 h = grind arith

-- x names the block of the pointer x
pub named_pointer : (x : ℕ) (kind : Kind) → is_pointer_block x kind ≡ true → is_named x kind ≡ true
named_pointer x v1 h = grind arith

-- an empty list in two parts, of which the first has an element where a test passes
pub nothing_passes : (b : Bool) (a : ℕ) (rest : List ℕ) → cond b (a ∷ []) [] ++ rest ≡ [] → (b ≡ false) × (rest ≡ [])
nothing_passes true a rest h = absurd (cc h)
nothing_passes false a rest h = (refl, h)

-- where neither a handle x nor a pointer x has a block, x names none
pub none_named-from : (at x : ℕ) (m : ZoneMap) → addresses_from at (is_handle_block x) m ≡ [] → addresses_from at (is_pointer_block x) m ≡ [] → none_named x m ≡ true
none_named-from at x [] h p = refl
none_named-from at x (e ∷ es) h p =
    let hs = nothing_passes (is_handle_block x e.kind) at (addresses_from (at + e.size) (is_handle_block x) es) h in
    let ps = nothing_passes (is_pointer_block x e.kind) at (addresses_from (at + e.size) (is_pointer_block x) es) p in
    and_from _ _ (not_from_false _ (not_named x e.kind hs.0 ps.0)) (none_named-from (at + e.size) x es hs.1 ps.1)

-- only an empty list maps to one
pub no_map : (f : ℕ → ℕ) (xs : List ℕ) → map f xs ≡ [] → xs ≡ []
no_map f [] h = refl
no_map f (x ∷ xs) h = absurd (cc h)

-- no block of a handle or a pointer that has none
pub no_handle_block : (s : Shape) (t : HandleTable) (m : ZoneMap) → Suits s t m → (x : ℕ) → is_full t x ≡ false → addresses s (is_handle_block x) m ≡ []
no_handle_block s t m suits x h = nil_from_length _ (suits.coherent.handles x ∙ ap (λ b. cond b 1 0) h)

-- and a number that is no pointer has none as a pointer
pub no_pointer_block : (s : Shape) (t : HandleTable) (m : ZoneMap) → Suits s t m → (x : ℕ) → is_pointer t x ≡ false → addresses s (is_pointer_block x) m ≡ []
no_pointer_block s t m suits x h = no_map _ _ (suits.coherent.pointers x ∙ ap (λ b. cond b (x ∷ []) []) h)

-- a number that is neither a full handle nor a pointer names no block
pub none_named-suits : (s : Shape) (t : HandleTable) (m : ZoneMap) → Suits s t m → (x : ℕ) → is_full t x ≡ false → is_pointer t x ≡ false → none_named x m ≡ true
none_named-suits s t m suits x full pointer = none_named-from (address_after s []) x m (no_handle_block s t m suits x full) (no_pointer_block s t m suits x pointer)

-- what a block's owner wants changes only where its bytes do
pub wanted_length-agree : (x : ℕ) (old new : HandleTable) → AgreeBut x old new → (kind : Kind) → is_named x kind ≡ false → wanted_length new kind ≡ wanted_length old kind
wanted_length-agree x old new a v4 h = grind arith

-- so whether a block has its owner's length changes only there
pub has_owners_length-agree : (s : Shape) (x : ℕ) (old new : HandleTable) → AgreeBut x old new → (e : Entry) → is_named x e.kind ≡ false → has_owners_length s new e ≡ has_owners_length s old e
has_owners_length-agree s x old new a e h = ap (λ n. is_free e.kind || has_length s e.size n) (wanted_length-agree x old new a e.kind h)

-- so the lengths of a map stay right where x names none of its blocks
pub lengths-agree : (s : Shape) (x : ℕ) (old new : HandleTable) → AgreeBut x old new → (m : ZoneMap) → none_named x m ≡ true → IsTrue (list_all (has_owners_length s old) m) → IsTrue (list_all (has_owners_length s new) m)
lengths-agree s x old new a [] none h = refl
lengths-agree s x old new a (e ∷ es) none h =
    let nones = and_parts (not (is_named x e.kind)) (none_named x es) none in
    let hs = and_parts (has_owners_length s old e) (list_all (has_owners_length s old) es) h in
    and_from (has_owners_length s new e) _ (has_owners_length-agree s x old new a e (not-true _ nones.0) ∙ hs.0) (lengths-agree s x old new a es nones.1 hs.1)

-- the block of another handle is not named x
pub other_handle : (x g : ℕ) → eqb g x ≡ false → (kind : Kind) → is_handle_block g kind ≡ true → is_named x kind ≡ false
other_handle x g apart v3 h = grind arith

-- the block of another pointer is not named x
pub other_pointer : (x p : ℕ) → eqb p x ≡ false → (kind : Kind) → is_pointer_block p kind ≡ true → is_named x kind ≡ false
other_pointer x p apart v3 h = grind arith
