-- The one block that a handle or a pointer names.
use Rattle.std.proofs.Common.{◌≡◌, ℕ, ◌+◌, ◌≤◌, Bool, true, false, cond, List, [], ◌∷◌, ◌++◌, length, refl, ap, sym, ◌∙◌, arith}
use Rattle.std.specs.Prelude.{◌||◌}
use Rattle.std.proofs.lemmas.List.{length-map, nil_from_length}
use Rattle.mac_base.specs.declared.block.Entry.{Entry}
use Rattle.mac_base.specs.declared.block.Kind.TheVariants.{Free}
use Rattle.mac_base.specs.HandleTable.{has_block, is_full, is_pointer}
use Rattle.mac_base.specs.HeadKind.{head_size}
use Rattle.mac_base.specs.Suits.{is_handle_block, is_pointer_block}
use Rattle.mac_base.specs.ZoneMap.{ZoneMap, block, is_named, sizes, addresses, address_after, total_size}
use Rattle.mac_base.specs.ZoneState.{ZoneState}
use Rattle.zone_laws.proofs.GapAppend.{sizes-append, length-addresses_from}
use Rattle.zone_laws.proofs.NamedPlace.{nil-append}
use Rattle.zone_laws.proofs.ReleasedBlocks.{marked, marked-append, marked-none}
use Rattle.zone_laws.proofs.SuitsNamed.{full-no_pointer, length-sizes_named}
use Rattle.linked_zone.specs.Changes.{freed}
use Rattle.linked_zone.specs.Fit.{Fits}

length-two : (xs ys : List ℕ) → length (xs ++ ys) ≡ length xs + length ys
length-two [] ys = omega arith
length-two (x ∷ xs) ys = let rest = length-two xs ys in omega arith

at_most_one : (f p : Bool) → (f ≡ true → p ≡ false) → cond f 1 0 + cond p 1 0 ≤ 1
at_most_one true true h = absurd (cc (h refl))
at_most_one true false h = omega arith
at_most_one false true h = omega arith
at_most_one false false h = omega arith

length-cond : (p : Bool) (x : ℕ) → length (cond p (x ∷ []) []) ≡ cond p 1 0
length-cond true x = refl
length-cond false x = refl

-- a number names as many blocks as it is a handle with a block, or a pointer
count-named : (z : ZoneState) (x : ℕ) → Fits z → length (sizes (is_named x) z.heap.map) ≡ cond (is_full z.heap.table x) 1 0 + cond (is_pointer z.heap.table x) 1 0
count-named z x fits =
    let all = length-sizes_named x z.heap.map in
    let handles = sym (length-addresses_from (address_after z.shape []) (is_handle_block x) z.heap.map) ∙ fits.coherent.handles x in
    let pointers : length (sizes (is_pointer_block x) z.heap.map) ≡ cond (is_pointer z.heap.table x) 1 0 =
    sym (length-addresses_from (address_after z.shape []) (is_pointer_block x) z.heap.map)
    ∙ sym (length-map {A = ℕ} {B = ℕ} (addresses z.shape (is_pointer_block x) z.heap.map) (λ at. at + head_size z.shape.heads))
    ∙ ap (length {A = ℕ}) (fits.coherent.pointers x) ∙ length-cond (is_pointer z.heap.table x) x in
    omega arith

-- no number names two
few-named : (z : ZoneState) (x : ℕ) → Fits z → length (sizes (is_named x) z.heap.map) ≤ 1
few-named z x fits =
    let all = count-named z x fits in
    let most = at_most_one (is_full z.heap.table x) (is_pointer z.heap.table x) (full-no_pointer z.heap.table x) in
    omega arith

-- The one block of x is between others.
pub record NamesOne (x : ℕ) (before after : ZoneMap) : Type 0 where
  pub front : sizes (is_named x) before ≡ []
  pub back : sizes (is_named x) after ≡ []

pub names-one : (z : ZoneState) (x : ℕ) (before : ZoneMap) (e : Entry) (after : ZoneMap) → Fits z → z.heap.map ≡ before ++ e ∷ after → is_named x e.kind ≡ true → NamesOne x before after
names-one z x before e after fits map named =
    let few = few-named z x fits in
    let all = ap (λ m. length (sizes (is_named x) m)) map ∙ ap length (sizes-append (is_named x) before (e ∷ after)) ∙ length-two (sizes (is_named x) before) (sizes (is_named x) (e ∷ after)) in
    let here = ap (λ b. length (cond b (e.size ∷ []) [] ++ sizes (is_named x) after)) named in
    record { front = nil_from_length (sizes (is_named x) before) (omega arith); back = nil_from_length (sizes (is_named x) after) (omega arith) }

some_of : (f p : Bool) → 1 ≤ cond f 1 0 + cond p 1 0 → (f || p) ≡ true
some_of true p h = refl
some_of false true h = refl
some_of false false h = absurd (omega arith)

-- what names a block has one
pub named-owner : (z : ZoneState) (x : ℕ) (before : ZoneMap) (e : Entry) (after : ZoneMap) → Fits z → z.heap.map ≡ before ++ e ∷ after → is_named x e.kind ≡ true → has_block z.heap.table x ≡ true
named-owner z x before e after fits map named =
    let count = count-named z x fits in
    let all = ap (λ m. length (sizes (is_named x) m)) map ∙ ap length (sizes-append (is_named x) before (e ∷ after)) ∙ length-two (sizes (is_named x) before) (sizes (is_named x) (e ∷ after)) in
    let here = ap (λ b. length (cond b (e.size ∷ []) [] ++ sizes (is_named x) after)) named in
    some_of (is_full z.heap.table x) (is_pointer z.heap.table x) (omega arith)

-- to free what x names is to free that block
pub freed-one : (x : ℕ) (m before : ZoneMap) (e : Entry) (after : ZoneMap) → m ≡ before ++ e ∷ after → is_named x e.kind ≡ true → NamesOne x before after → freed x m ≡ before ++ block Free e.size ∷ after
freed-one x m before e after map named one =
    ap (freed x) map ∙ marked-append x before (e ∷ after) ∙ ap (λ m. m ++ marked x (e ∷ after)) (marked-none x before one.front)
    ∙ ap (λ b. before ++ cond b (block Free e.size) e ∷ marked x after) named ∙ ap (λ m. before ++ block Free e.size ∷ m) (marked-none x after one.back)

-- a free block stays one
pub freed-around : (x : ℕ) (m before : ZoneMap) (size : ℕ) (after : ZoneMap) → m ≡ before ++ block Free size ∷ after → freed x m ≡ freed x before ++ block Free size ∷ freed x after
freed-around x m before size after map = ap (freed x) map ∙ marked-append x before (block Free size ∷ after)

not_here : (x : ℕ) (e : Entry) (es : ZoneMap) → is_named x e.kind ≡ true → sizes (is_named x) (e ∷ es) ≡ [] → ⊥
not_here x e es named none = absurd (cc (sym (ap (λ b. cond b (e.size ∷ []) [] ++ sizes (is_named x) es) named) ∙ none))

tail_none : (x : ℕ) (e : Entry) (es : ZoneMap) → sizes (is_named x) (e ∷ es) ≡ [] → sizes (is_named x) es ≡ []
tail_none x e es none = (nil-append (cond (is_named x e.kind) (e.size ∷ []) []) (sizes (is_named x) es) none).1

-- the first block that x names is at one place
pub same-place : (x : ℕ) (a : ZoneMap) (e : Entry) (b : ZoneMap) (c : ZoneMap) (f : Entry) (d : ZoneMap) → a ++ e ∷ b ≡ c ++ f ∷ d → is_named x e.kind ≡ true → is_named x f.kind ≡ true
    → sizes (is_named x) a ≡ [] → sizes (is_named x) c ≡ [] → total_size a ≡ total_size c
same-place x [] e b [] f d is en fn an cn = refl
same-place x [] e b (g ∷ c) f d is en fn an cn = let same : e ≡ g = cc is in absurd (not_here x g c (sym (ap (λ (e : Entry). is_named x e.kind) same) ∙ en) cn)
same-place x (g ∷ a) e b [] f d is en fn an cn = let same : g ≡ f = cc is in absurd (not_here x g a (ap (λ (e : Entry). is_named x e.kind) same ∙ fn) an)
same-place x (g ∷ a) e b (h ∷ c) f d is en fn an cn =
    let same : g ≡ h = cc is in
    let size = ap (λ (e : Entry). e.size) same in
    let rest = same-place x a e b c f d (cc is) en fn (tail_none x g a an) (tail_none x h c cn) in
    omega arith
