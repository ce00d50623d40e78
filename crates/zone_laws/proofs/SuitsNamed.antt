-- Where a map suits a table: how many blocks a number names, and whether its block stays.
use Rattle.std.proofs.Common.{◌≡◌, ℕ, ◌+◌, ◌≤◌, Bool, true, false, cond, [], ◌∷◌, ◌++◌, length, refl, ap, sym, ◌∙◌, subst, arith, length-append}
use Rattle.std.specs.Prelude.{◌||◌}
use Rattle.std.proofs.lemmas.List.{length-map}
use Rattle.std.proofs.lemmas.Bool.{eqb-true, or_left}
use Rattle.mac_base.specs.declared.block.Entry.{Entry}
use Rattle.mac_base.specs.declared.block.Kind.{Kind}
use Rattle.mac_base.specs.declared.block.Kind.TheVariants.{Free, Master, Ptr, Rel}
use Rattle.mac_base.specs.HeadKind.{Shape}
use Rattle.mac_base.specs.ZoneMap.{ZoneMap, block, is_named, sizes, address_after}
use Rattle.mac_base.specs.HandleTable.{HandleTable, is_full, is_pointer, is_locked}
use Rattle.mac_base.specs.Suits.{Suits, is_handle_block, is_pointer_block}
use Rattle.mac_base.specs.Gap.{is_fixed}
use Rattle.mac_base.specs.Request.{stays}
use Rattle.zone_laws.proofs.GapAppend.{sizes-append, length-addresses_from}
use Rattle.zone_laws.proofs.NamedPlace.{At}

-- the blocks of a number are those of its handle and those of its pointer
pub length-sizes_named : (x : ℕ) (m : ZoneMap) → length (sizes (is_named x) m) ≡ length (sizes (is_handle_block x) m) + length (sizes (is_pointer_block x) m)
length-sizes_named x [] = refl
length-sizes_named x (e ∷ es) = grind (arith, length-sizes_named x es)

-- how many blocks the handle x has
pub length-handle_blocks : (s : Shape) (t : HandleTable) (m : ZoneMap) (x : ℕ) → Suits s t m → length (sizes (is_handle_block x) m) ≡ cond (is_full t x) 1 0
length-handle_blocks s t m x suits = sym (length-addresses_from (address_after s []) (is_handle_block x) m) ∙ suits.coherent.handles x

-- and how many the pointer x
pub length-pointer_blocks : (s : Shape) (t : HandleTable) (m : ZoneMap) (x : ℕ) → Suits s t m → length (sizes (is_pointer_block x) m) ≡ cond (is_pointer t x) 1 0
length-pointer_blocks s t m x suits = grind (arith, length-addresses_from, length-map)

-- how many blocks x names
pub length-sizes_of : (s : Shape) (t : HandleTable) (m : ZoneMap) (x : ℕ) → Suits s t m → length (sizes (is_named x) m) ≡ cond (is_full t x) 1 0 + cond (is_pointer t x) 1 0
length-sizes_of s t m x suits = let all = length-sizes_named x m in let handles = length-handle_blocks s t m x suits in let pointers = length-pointer_blocks s t m x suits in omega arith

-- a handle with a block is no pointer
pub full-no_pointer : (t : HandleTable) (x : ℕ) → is_full t x ≡ true → is_pointer t x ≡ false
full-no_pointer t x h = grind arith

-- a handle with a block, and a pointer, names exactly one block
pub named_once : (s : Shape) (t : HandleTable) (m : ZoneMap) (x : ℕ) → Suits s t m → (is_full t x || is_pointer t x) ≡ true → length (sizes (is_named x) m) ≡ 1
named_once s t m x suits live = grind (arith, full-no_pointer, length-sizes_of)

some_there : (test : Kind → Bool) (a : ZoneMap) (e : Entry) (b : ZoneMap) → test e.kind ≡ true → 1 ≤ length (sizes test (a ++ e ∷ b))
some_there test a e b h =
    let all = ap length (sizes-append test a (e ∷ b)) in
    let parts = length-append (sizes test a) (cond (test e.kind) (e.size ∷ []) [] ++ sizes test b) in
    let one : length (cond (test e.kind) (e.size ∷ []) [] ++ sizes test b) ≡ length (sizes test b) + 1 = ap (λ c. length (cond c (e.size ∷ []) [] ++ sizes test b)) h ∙ omega arith in
    omega arith

one_from : (b : Bool) (n : ℕ) → 1 ≤ n → n ≡ cond b 1 0 → b ≡ true
one_from true n some is = refl
one_from false n some is = absurd (omega arith)

-- the block of x stays exactly where it is a fixed one
pub stays-fixed : (s : Shape) (t : HandleTable) (m : ZoneMap) (x n : ℕ) (front : ZoneMap) (kind : Kind) (back : ZoneMap) → Suits s t m → At x m n front kind back → stays t x ≡ is_fixed t kind
stays-fixed s t m x n front kind back suits at = by_kind kind at.named at.was
  where
    by_kind : (k : Kind) → is_named x k ≡ true → m ≡ front ++ block k n ∷ back → (is_pointer t x || is_locked t x) ≡ is_fixed t k
    by_kind Free named was = absurd (cc named)
    by_kind Master named was = absurd (cc named)
    by_kind (Ptr p) named was = or_left _ _ (one_from (is_pointer t x) (length (sizes (is_pointer_block x) m)) (subst (λ m. 1 ≤ length (sizes (is_pointer_block x) m)) (sym was) (some_there (is_pointer_block x) front (block (Ptr p) n) back named)) (length-pointer_blocks s t m x suits))
    by_kind (Rel g) named was =
        let full = one_from (is_full t x) (length (sizes (is_handle_block x) m)) (subst (λ m. 1 ≤ length (sizes (is_handle_block x) m)) (sym was) (some_there (is_handle_block x) front (block (Rel g) n) back named)) (length-handle_blocks s t m x suits) in
        ap (λ b. b || is_locked t x) (full-no_pointer t x full) ∙ ap (is_locked t) (sym (eqb-true g x named))
