-- Where the one block is that a number names, in a map and in a gap.
use Rattle.std.proofs.Common.{◌≡◌, ℕ, ◌+◌, true, false, not, cond, List, [], ◌∷◌, ◌++◌, refl, ap, sym, ◌∙◌, append-nil, append_assoc, arith, sum}
use Rattle.std.specs.Prelude.{◌||◌}
use Rattle.std.proofs.lemmas.List.Elements.{filter-append}
use Rattle.mac_base.specs.declared.block.Entry.{Entry}
use Rattle.mac_base.specs.declared.block.Kind.{Kind}
use Rattle.mac_base.specs.ZoneMap.{ZoneMap, block, free_block, is_free, is_named, free_bytes, sizes}
use Rattle.mac_base.specs.HandleTable.{HandleTable}
use Rattle.mac_base.specs.Gap.{Gap, has_named, ends_with}
use Rattle.mac_base.specs.Arrangement.{used_blocks, put_after, open_at}
use Rattle.mac_base.specs.Request.{size_of}
use Rattle.zone_laws.proofs.GapAppend.{sizes-append}
use Rattle.zone_laws.proofs.GapParts.{IsGap}
use Rattle.zone_laws.proofs.Arranging.{named-used, sizes-used}

-- two lists without an element
pub nil-append : (a b : List ℕ) → a ++ b ≡ [] → (a ≡ []) × (b ≡ [])
nil-append [] b h = (refl, h)
nil-append (x ∷ a) b h = absurd (cc h)

-- a list of one element in three parts, of which the middle one is an element
pub only_one : (a b : List ℕ) (p n : ℕ) → a ++ p ∷ b ≡ n ∷ [] → (a ≡ []) × (p ≡ n) × (b ≡ [])
only_one [] b p n h = (refl, cc h, cc h)
only_one (x ∷ []) b p n h = absurd (cc h)
only_one (x ∷ y ∷ a) b p n h = absurd (cc h)

-- The one block of x in a map: it has n bytes, and is between these.
pub record At (x : ℕ) (m : ZoneMap) (n : ℕ) (front : ZoneMap) (kind : Kind) (back : ZoneMap) : Type 0 where
  pub was : m ≡ front ++ block kind n ∷ back
  pub named : is_named x kind ≡ true
  pub none_front : sizes (is_named x) front ≡ []
  pub none_back : sizes (is_named x) back ≡ []

-- the sizes of the blocks of x, where one is between others
sizes_around : (x : ℕ) (a : ZoneMap) (e : Entry) (b : ZoneMap) → is_named x e.kind ≡ true → sizes (is_named x) (a ++ e ∷ b) ≡ sizes (is_named x) a ++ e.size ∷ sizes (is_named x) b
sizes_around x a e b named = sizes-append (is_named x) a (e ∷ b) ∙ ap (λ c. sizes (is_named x) a ++ (cond c (e.size ∷ []) [] ++ sizes (is_named x) b)) named

-- the one block of x is where a block of x is
pub At-from : (x : ℕ) (m : ZoneMap) (n : ℕ) (a : ZoneMap) (e : Entry) (b : ZoneMap) → sizes (is_named x) m ≡ n ∷ [] → m ≡ a ++ e ∷ b → is_named x e.kind ≡ true → At x m n a e.kind b
At-from x m n a e b once was named =
    let parts = only_one (sizes (is_named x) a) (sizes (is_named x) b) e.size n (sym (sizes_around x a e b named) ∙ ap (sizes (is_named x)) (sym was) ∙ once) in
    record { was = was ∙ ap (λ n. a ++ block e.kind n ∷ b) parts.1; named = named; none_front = parts.0; none_back = parts.2 }

-- the one block of x has the size of x
pub size_of-At : (x : ℕ) (m : ZoneMap) (n : ℕ) → sizes (is_named x) m ≡ n ∷ [] → size_of x m ≡ n
size_of-At x m n once = ap sum once ∙ (let e : 0 + n ≡ n = omega arith in e)

-- the first block that x names
pub record FirstNamed (x : ℕ) (m : ZoneMap) : Type 0 where
  pub front : ZoneMap
  pub block : Entry
  pub back : ZoneMap
  pub was : m ≡ front ++ block ∷ back
  pub named : is_named x block.kind ≡ true
  pub none_front : sizes (is_named x) front ≡ []

-- where x names a block, there is a first one
pub first_named : (x : ℕ) (m : ZoneMap) → has_named x m ≡ true → FirstNamed x m
first_named x [] h = absurd (cc h)
first_named x (e ∷ es) h = elim (is_named x e.kind) as (λ c. is_named x e.kind ≡ c → (c || has_named x es) ≡ true → FirstNamed x (e ∷ es)) [
  | true ↦ λ here _. record { front = []; block = e; back = es; was = refl; named = here; none_front = refl }
  | false ↦ λ other there. let rest = first_named x es there in
      record { front = e ∷ rest.front; block = rest.block; back = rest.back; was = ap (λ m. e ∷ m) rest.was; named = rest.named; none_front = ap (λ c. cond c (e.size ∷ []) [] ++ sizes (is_named x) rest.front) other ∙ rest.none_front }
] refl h

-- what is put after the first block of x is right after it
pub put_after-at : (x : ℕ) (f a : ZoneMap) (e : Entry) (c : ZoneMap) → sizes (is_named x) a ≡ [] → is_named x e.kind ≡ true → put_after x f (a ++ e ∷ c) ≡ a ++ e ∷ (f ++ c)
put_after-at x f [] e c none named = ap (λ b. cond b (e ∷ (f ++ c)) (e ∷ put_after x f c)) named
put_after-at x f (d ∷ a) e c none named =
    elim (is_named x d.kind) as (λ b. cond b (d.size ∷ []) [] ++ sizes (is_named x) a ≡ [] → cond b (d ∷ (f ++ (a ++ e ∷ c))) (d ∷ put_after x f (a ++ e ∷ c)) ≡ d ∷ (a ++ e ∷ (f ++ c))) [
      | true ↦ λ none. absurd (cc none)
      | false ↦ λ none. ap (λ m. d ∷ m) (put_after-at x f a e c none named)
    ] none

-- the blocks in use around one in use
pub used_blocks-around : (a : ZoneMap) (e : Entry) (c : ZoneMap) → is_free e.kind ≡ false → used_blocks (a ++ e ∷ c) ≡ used_blocks a ++ e ∷ used_blocks c
used_blocks-around a e c used = filter-append _ a (e ∷ c) ∙ ap (λ b. used_blocks a ++ cond (not b) (e ∷ used_blocks c) (used_blocks c)) used

-- open at the one block of x: it, and the free bytes right after it
pub open_at-parts : (x : ℕ) (b : ZoneMap) (n : ℕ) (front : ZoneMap) (kind : Kind) (back : ZoneMap) → At x b n front kind back
    → open_at x b ≡ used_blocks front ++ block kind n ∷ (free_block (free_bytes b) ++ used_blocks back)
open_at-parts x b n front kind back at = grind (arith, named-used, put_after-at, sizes-used, used_blocks-around)

-- The one block of x in a gap, with none of x around it.
pub record InGap (x : ℕ) (g : Gap) (n : ℕ) : Type 0 where
  pub front : ZoneMap
  pub kind : Kind
  pub back : ZoneMap
  pub at : At x g.blocks n front kind back
  pub none_before : sizes (is_named x) g.before ≡ []
  pub none_after : sizes (is_named x) g.after ≡ []

-- the one block of x lies in the gap that has it
pub own_gap-parts : (t : HandleTable) (m : ZoneMap) (g : Gap) (x n : ℕ) → IsGap t m g → has_named x g.blocks ≡ true → sizes (is_named x) m ≡ n ∷ [] → InGap x g n
own_gap-parts t m g x n i has once =
    let first = first_named x g.blocks has in
    let whole = At-from x m n (g.before ++ first.front) first.block (first.back ++ g.after) once
    (i.parts ∙ ap (λ b. g.before ++ b ++ g.after) first.was ∙ ap (λ b. b ++ g.after) (sym (append_assoc g.before first.front (first.block ∷ first.back))) ∙ append_assoc (g.before ++ first.front) (first.block ∷ first.back) g.after) first.named in
    let fronts = nil-append (sizes (is_named x) g.before) (sizes (is_named x) first.front) (sym (sizes-append (is_named x) g.before first.front) ∙ whole.none_front) in
    let backs = nil-append (sizes (is_named x) first.back) (sizes (is_named x) g.after) (sym (sizes-append (is_named x) first.back g.after) ∙ whole.none_back) in
    let one = sym (sizes_around x first.front first.block first.back first.named) ∙ ap (sizes (is_named x)) (sym first.was) in
    record {
      front = first.front;
      kind = first.block.kind;
      back = first.back;
      at = At-from x g.blocks n first.front first.block first.back (blocks_once fronts.0 backs.1) first.was first.named;
      none_before = fronts.0;
      none_after = backs.1;
    }
  where
    blocks_once : sizes (is_named x) g.before ≡ [] → sizes (is_named x) g.after ≡ [] → sizes (is_named x) g.blocks ≡ n ∷ []
    blocks_once before after =
        sym (append-nil (sizes (is_named x) g.blocks)) ∙ ap (λ ns. ns ++ sizes (is_named x) g.blocks ++ []) (sym before) ∙ ap (λ ns. sizes (is_named x) g.before ++ sizes (is_named x) g.blocks ++ ns) (sym after)
        ∙ ap (λ ns. ns ++ sizes (is_named x) g.after) (sym (sizes-append (is_named x) g.before g.blocks)) ∙ sym (sizes-append (is_named x) (g.before ++ g.blocks) g.after) ∙ ap (sizes (is_named x)) (sym i.parts) ∙ once

-- what ends with a block of x
record EndsWith (x : ℕ) (b : ZoneMap) : Type 0 where
  pub front : ZoneMap
  pub last : Entry
  pub was : b ≡ front ++ last ∷ []
  pub named : is_named x last.kind ≡ true

ends_with-parts : (x : ℕ) (b : ZoneMap) → ends_with x b ≡ true → EndsWith x b
ends_with-parts x [] h = absurd (cc h)
ends_with-parts x (e ∷ []) h = record { front = []; last = e; was = refl; named = h }
ends_with-parts x (e ∷ f ∷ es) h = let rest = ends_with-parts x (f ∷ es) h in record { front = e ∷ rest.front; last = rest.last; was = ap (λ m. e ∷ m) rest.was; named = rest.named }

-- The one block of x right before a gap.
pub record BeforeGap (x : ℕ) (m : ZoneMap) (g : Gap) (n : ℕ) : Type 0 where
  pub front : ZoneMap
  pub kind : Kind
  pub before : g.before ≡ front ++ block kind n ∷ []
  pub at : At x m n front kind (g.blocks ++ g.after)

-- the one block of x lies right before the gap after it
pub gap_after-parts : (t : HandleTable) (m : ZoneMap) (g : Gap) (x n : ℕ) → IsGap t m g → ends_with x g.before ≡ true → sizes (is_named x) m ≡ n ∷ [] → BeforeGap x m g n
gap_after-parts t m g x n i ends once =
    let last = ends_with-parts x g.before ends in
    let was = i.parts ∙ append_assoc g.before g.blocks g.after ∙ ap (λ b. b ++ (g.blocks ++ g.after)) last.was ∙ append_assoc last.front (last.last ∷ []) (g.blocks ++ g.after) in
    let parts = only_one (sizes (is_named x) last.front) (sizes (is_named x) (g.blocks ++ g.after)) last.last.size n (sym (sizes_around x last.front last.last (g.blocks ++ g.after) last.named) ∙ ap (sizes (is_named x)) (sym was) ∙ once) in
    record {
      front = last.front;
      kind = last.last.kind;
      before = last.was ∙ ap (λ n. last.front ++ block last.last.kind n ∷ []) parts.1;
      at = At-from x m n last.front last.last (g.blocks ++ g.after) once was last.named;
    }
