-- A block made longer or shorter where it is: without it, the map is as before.
use Rattle.std.proofs.Common.{◌≡◌, ℕ, ◌+◌, ◌-◌, ◌<◌, Bool, true, false, cond, [], ◌∷◌, ◌++◌, refl, ap, sym, ◌∙◌, subst, arith, Some, None, Option}
use Rattle.std.specs.Prelude.{nat_le, nat_lt, map, slice_index, if◌then◌else◌}
use Rattle.std.proofs.lemmas.Bool.{and_left, eq-eqb, leb-true, leb-false}
use Rattle.mac_base.specs.declared.block.Entry.{Entry}
use Rattle.mac_base.specs.declared.block.Kind.{Kind}
use Rattle.mac_base.specs.declared.block.Kind.TheVariants.{Free, Rel}
use Rattle.mac_base.specs.HeadKind.{Shape, head_size, smallest_block}
use Rattle.mac_base.specs.ZoneMap.{ZoneMap, block, is_free, is_named, joined, released, total_size, address_after, addresses_from, contents_of, sizes}
use Rattle.mac_base.specs.Serve.{taken, cut, sized, free_in_front, past_free, resized_in_place, renamed}
use Rattle.zone_laws.proofs.Arranging.{free_is, named-used}
use Rattle.zone_laws.proofs.NamedPlace.{At}
use Rattle.zone_laws.proofs.JoinedBlocks.{joined_to-apart, joined-front, joined-two, join_cases}
use Rattle.zone_laws.proofs.ReleasedBlocks.{marked_block, marked, marked-append, joined-marked_taken, sizes-released}
use Rattle.zone_laws.proofs.OpenedGap.{resized_in_place-At}
use Rattle.zone_laws.proofs.PlacedParts.{option_map-Some}
use Rattle.zone_laws.proofs.Maps.{addresses_from-append}

marked-free : (x : ℕ) (e : Entry) → e.kind ≡ Free → marked_block x e ≡ block Free e.size
marked-free x e free = ap (λ kind. marked_block x (record { size = e.size; kind = kind })) free

-- to mark the blocks of x in a joined map, and join, is to mark and join
pub joined-marked_joined : (x : ℕ) (m : ZoneMap) → joined (marked x (joined m)) ≡ joined (marked x m)
joined-marked_joined x [] = refl
joined-marked_joined x (e ∷ es) = grind (arith, joined-marked_joined x es, join_cases, joined-two, marked, marked-free, marked_block)

-- the free bytes in front, where there are some, are a block
pub free_in_front-is : (b : ZoneMap) → 0 < free_in_front b → b ≡ block Free (free_in_front b) ∷ past_free b
free_in_front-is [] h = absurd (omega arith)
free_in_front-is (e ∷ es) h = elim (is_free e.kind) as (λ c. is_free e.kind ≡ c → 0 < cond c e.size 0 → e ∷ es ≡ block Free (cond c e.size 0) ∷ cond c es (e ∷ es)) [
  | true ↦ λ free h. ap (λ kind. record { size = e.size; kind = kind } ∷ es) (free_is e.kind free)
  | false ↦ λ used h. absurd (omega arith)
] refl h

-- A block of x made k bytes long: without it, the same free bytes.
sized-released : (s : Shape) (k x n : ℕ) (kind : Kind) (b r : ZoneMap) → is_named x kind ≡ true → sized s k (block kind n) b ≡ Some r → joined (marked x r) ≡ joined (block Free n ∷ marked x b)
sized-released s k x n kind b r named h = grind (arith, free_in_front-is, joined-marked_joined, joined-marked_taken, joined-two, leb-false, leb-true, marked, marked-append)

-- a block of x resized where it is: without it, the map is as before
pub released-resized_in_place : (s : Shape) (k x : ℕ) (m : ZoneMap) (n : ℕ) (front : ZoneMap) (kind : Kind) (back new : ZoneMap) → At x m n front kind back → resized_in_place s k x m ≡ Some new → released x new ≡ released x m
released-resized_in_place s k x m n front kind back new at h =
    let found = option_map-Some (λ r. front ++ r) (sized s k (block kind n) back) new (sym (resized_in_place-At s k x m n front kind back at) ∙ h) in
    let r : ZoneMap = found.0 in
    ap (released x) (sym found.2) ∙ ap joined (marked-append x front r) ∙ joined-front (marked x front) (marked x r) (block Free n ∷ marked x back) (sized-released s k x n kind back r at.named found.1)
    ∙ sym (ap (released x) at.was ∙ ap joined (marked-append x front (block kind n ∷ back)) ∙ ap (λ c. joined (marked x front ++ cond c (block Free n) (block kind n) ∷ marked x back)) at.named)

-- blocks that begin with one of this kind
record BeginsWith (kind : Kind) (b : ZoneMap) : Type 0 where
  pub size : ℕ
  pub rest : ZoneMap
  pub is : b ≡ block kind size ∷ rest

begins-taken : (s : Shape) (k n : ℕ) (kind : Kind) (b : ZoneMap) → BeginsWith kind (taken s k kind n ++ b)
begins-taken s k n kind b = elim (nat_lt (n - k) (smallest_block s.heads)) as (λ c. BeginsWith kind (cond c (block kind n ∷ []) (block kind k ∷ block Free (n - k) ∷ []) ++ b)) [
  | true ↦ record { size = n; rest = b; is = refl }
  | false ↦ record { size = k; rest = block Free (n - k) ∷ b; is = refl }
]

begins-joined : (kind : Kind) (b : ZoneMap) → is_free kind ≡ false → BeginsWith kind b → BeginsWith kind (joined b)
begins-joined kind b used w = record { size = w.size; rest = joined w.rest; is = ap joined w.is ∙ joined_to-apart (block kind w.size) (joined w.rest) (and_left _ _ used) }

begins-sized : (s : Shape) (k n : ℕ) (kind : Kind) (b r : ZoneMap) → is_free kind ≡ false → sized s k (block kind n) b ≡ Some r → BeginsWith kind r
begins-sized s k n kind b r used h = elim (nat_le k n) as (λ c. cond c (Some (cut s k (block kind n) b)) (longer (nat_le k (n + free_in_front b))) ≡ Some r → BeginsWith kind r) [
  | true ↦ λ is. subst (BeginsWith kind) (some_same is) (begins-joined kind (taken s k kind n ++ b) used (begins-taken s k n kind b))
  | false ↦ λ is. by_room (nat_le k (n + free_in_front b)) is
] h
  where
    longer : Bool → Option ZoneMap
    longer c = cond c (Some (taken s k kind (n + free_in_front b) ++ past_free b)) None

    some_same : {p q : ZoneMap} → Some p ≡ Some q → p ≡ q
    some_same e = cc e

    by_room : (c : Bool) → longer c ≡ Some r → BeginsWith kind r
    by_room true is = subst (BeginsWith kind) (some_same is) (begins-taken s k (n + free_in_front b) kind (past_free b))
    by_room false none = absurd (cc none)

addresses-none : (at x : ℕ) (m : ZoneMap) → sizes (is_named x) m ≡ [] → addresses_from at (is_named x) m ≡ []
addresses-none at x [] h = refl
addresses-none at x (e ∷ es) h = elim (is_named x e.kind) as (λ c. cond c (e.size ∷ []) [] ++ sizes (is_named x) es ≡ [] → cond c (at ∷ []) [] ++ addresses_from (at + e.size) (is_named x) es ≡ []) [
  | true ↦ λ h. absurd (cc h)
  | false ↦ λ h. addresses-none (at + e.size) x es h
] h

-- where the contents of the block of x begin, where x names none before it
pub contents_of-around : (s : Shape) (x : ℕ) (a : ZoneMap) (e : Entry) (b : ZoneMap) → sizes (is_named x) a ≡ [] → is_named x e.kind ≡ true → contents_of s x (a ++ e ∷ b) ≡ address_after s a + head_size s.heads
contents_of-around s x a e b none named =
    ap (λ ns. slice_index (map (λ at. at + head_size s.heads) ns) 0)
    (addresses_from-append start (is_named x) a (e ∷ b) ∙ ap (λ ns. ns ++ addresses_from (start + total_size a) (is_named x) (e ∷ b)) (addresses-none start x a none) ∙ ap (λ c. cond c ((start + total_size a) ∷ []) [] ++ addresses_from (start + total_size a + e.size) (is_named x) b) named)
    ∙ omega arith
  where
    start : ℕ
    start = address_after s []

-- the contents of a block of x stay where they are where it is resized in its place
pub contents_of-resized_in_place : (s : Shape) (k x : ℕ) (m : ZoneMap) (n : ℕ) (front : ZoneMap) (kind : Kind) (back new : ZoneMap) → At x m n front kind back → resized_in_place s k x m ≡ Some new → contents_of s x new ≡ address_after s front + head_size s.heads
contents_of-resized_in_place s k x m n front kind back new at h =
    let found = option_map-Some (λ r. front ++ r) (sized s k (block kind n) back) new (sym (resized_in_place-At s k x m n front kind back at) ∙ h) in
    let begins = begins-sized s k n kind back found.0 (named-used x kind at.named) found.1 in
    ap (contents_of s x) (sym found.2 ∙ ap (λ r. front ++ r) begins.is) ∙ contents_of-around s x front (block kind begins.size) begins.rest at.none_front at.named

-- where the contents of the one block of x begin
pub contents_of-At : (s : Shape) (x : ℕ) (m : ZoneMap) (n : ℕ) (front : ZoneMap) (kind : Kind) (back : ZoneMap) → At x m n front kind back → contents_of s x m ≡ address_after s front + head_size s.heads
contents_of-At s x m n front kind back at = ap (contents_of s x) at.was ∙ contents_of-around s x front (block kind n) back at.none_front at.named

-- to mark the blocks of two numbers, in either order
marked-twice : (x y : ℕ) (m : ZoneMap) → marked x (marked y m) ≡ marked y (marked x m)
marked-twice x y [] = refl
marked-twice x y (e ∷ es) = grind (arith, marked-twice x y es, marked, marked_block)

-- a block that was under another number, put under x, which named none, and released
marked-renamed : (z x : ℕ) (m : ZoneMap) → sizes (is_named x) m ≡ [] → marked x (renamed z x m) ≡ marked z m
marked-renamed z x [] h = refl
marked-renamed z x (e ∷ es) h = elim (is_named x e.kind) as (λ c. is_named x e.kind ≡ c → cond c (e.size ∷ []) [] ++ sizes (is_named x) es ≡ [] → marked x (renamed z x (e ∷ es)) ≡ marked z (e ∷ es)) [
  | true ↦ λ here h. absurd (cc h)
  | false ↦ λ other h. ap (λ m. marked_block x (if is_named z e.kind then block (Rel x) e.size else e) ∷ m) (marked-renamed z x es h)
      ∙ ap (λ b. b ∷ marked z es) (elim (is_named z e.kind) as (λ c. marked_block x (cond c (block (Rel x) e.size) e) ≡ cond c (block Free e.size) e) [ true ↦ ap (λ c. cond c (block Free e.size) (block (Rel x) e.size)) (eq-eqb x x refl) | false ↦ ap (λ c. cond c (block Free e.size) e) other ])
] refl h

-- the block of x in a new place, under the number z until the old one was released: without it, and without z's, the
-- map in which it was placed
pub released-renamed : (z x : ℕ) (m : ZoneMap) → released x (renamed z x (released x m)) ≡ released x (released z m)
released-renamed z x m = ap joined (marked-renamed z x (released x m) (sizes-released x m)) ∙ joined-marked_joined z (marked x m) ∙ ap joined (marked-twice z x m) ∙ sym (joined-marked_joined x (marked z m))
