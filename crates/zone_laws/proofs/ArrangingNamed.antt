-- The arrangements by a block that is named: open at it, and it high.
use Rattle.std.proofs.Common.{◌≡◌, ℕ, ◌+◌, Bool, true, false, not, cond, [], ◌∷◌, ◌++◌, refl, ap, ◌∙◌, append_assoc, append-nil, arith}
use Rattle.std.specs.Prelude.{◌||◌, filter}
use Rattle.std.specs.List.{list_all}
use Rattle.std.proofs.lemmas.Bool.{and_from, and_parts}
use Rattle.std.proofs.lemmas.List.Folds.{list_all-append}
use Rattle.mac_base.specs.declared.block.Entry.{Entry}
use Rattle.mac_base.specs.declared.block.Kind.{Kind}
use Rattle.mac_base.specs.ZoneMap.{ZoneMap, free_block, is_free, is_kind, is_named, total_size, free_size, free_bytes, sizes}
use Rattle.mac_base.specs.Suits.{free_apart}
use Rattle.mac_base.specs.Gap.{has_named}
use Rattle.mac_base.specs.Arrangement.{used_blocks, put_after, open_at, high}
use Rattle.zone_laws.proofs.GapAppend.{free_bytes-append, sizes-append}
use Rattle.zone_laws.proofs.Arranging.{free_is, named-used, is_kind-free, all_used, used_blocks-all_used, list_all-used, has_named-used, sizes-used, total_size-used, free_bytes-all_used, total_size-free_block, free_bytes-free_block, sizes-free_block, list_all-free_block, free_apart-after_used, free_apart-around, IsArrangement}
use Rattle.zone_laws.proofs.Maps.{total_size-append}

-- what is put after the first block that x names, where x names one
total_size-put_after : (x : ℕ) (f b : ZoneMap) → has_named x b ≡ true → total_size (put_after x f b) ≡ total_size f + total_size b
total_size-put_after x f [] h = absurd (cc h)
total_size-put_after x f (e ∷ es) h = elim (is_named x e.kind) as (λ b. (b || has_named x es) ≡ true → total_size (cond b (e ∷ (f ++ es)) (e ∷ put_after x f es)) ≡ total_size f + (e.size + total_size es)) [
  | true ↦ λ here. let all = total_size-append f es in omega arith
  | false ↦ λ after. let rest = total_size-put_after x f es after in omega arith
] h

free_bytes-put_after : (x : ℕ) (f b : ZoneMap) → has_named x b ≡ true → free_bytes (put_after x f b) ≡ free_bytes f + free_bytes b
free_bytes-put_after x f [] h = absurd (cc h)
free_bytes-put_after x f (e ∷ es) h = elim (is_named x e.kind) as (λ b. (b || has_named x es) ≡ true → free_bytes (cond b (e ∷ (f ++ es)) (e ∷ put_after x f es)) ≡ free_bytes f + (free_size e + free_bytes es)) [
  | true ↦ λ here. let all = free_bytes-append f es in omega arith
  | false ↦ λ after. let rest = free_bytes-put_after x f es after in omega arith
] h

sizes-put_after : (test : Kind → Bool) (x : ℕ) (f b : ZoneMap) → sizes test f ≡ [] → sizes test (put_after x f b) ≡ sizes test b
sizes-put_after test x f [] h = refl
sizes-put_after test x f (e ∷ es) h = grind (arith, sizes-put_after test x f es h, sizes-append)

list_all-put_after : (p : Entry → Bool) (x : ℕ) (f b : ZoneMap) → list_all p f ≡ true → list_all p b ≡ true → list_all p (put_after x f b) ≡ true
list_all-put_after p x f [] hf hb = refl
list_all-put_after p x f (e ∷ es) hf hb = let parts = and_parts _ _ hb in elim (is_named x e.kind) as (λ b. list_all p (cond b (e ∷ (f ++ es)) (e ∷ put_after x f es)) ≡ true) [
  | true ↦ and_from _ _ parts.0 (list_all-append p f es ∙ and_from _ _ hf parts.1)
  | false ↦ and_from _ _ parts.0 (list_all-put_after p x f es hf parts.1)
]

free_apart-put_after : (x n : ℕ) (b : ZoneMap) → all_used b ≡ true → free_apart (put_after x (free_block n) b) ≡ true
free_apart-put_after x n [] h = refl
free_apart-put_after x n (e ∷ es) h = let parts = and_parts _ _ h in elim (is_named x e.kind) as (λ b. free_apart (cond b (e ∷ (free_block n ++ es)) (e ∷ put_after x (free_block n) es)) ≡ true) [
  | true ↦ free_apart-around (e ∷ []) es n (and_from _ _ parts.0 refl) parts.1
  | false ↦ free_apart-after_used (e ∷ []) (put_after x (free_block n) es) (and_from _ _ parts.0 refl) ∙ free_apart-put_after x n es parts.1
]

-- open at a block, where it is one of the blocks, is an arrangement
pub open_at-IsArrangement : (h : ℕ) (b : ZoneMap) → has_named h b ≡ true → IsArrangement b (open_at h b)
open_at-IsArrangement h b named =
    let n : ℕ = free_bytes b in
    let there = has_named-used h b ∙ named in
    let total = total_size-put_after h (free_block n) (used_blocks b) there in
    let same = total_size-used b in
    let free = total_size-free_block n in
    let free_total = free_bytes-put_after h (free_block n) (used_blocks b) there in
    let free_used = free_bytes-all_used (used_blocks b) (used_blocks-all_used b) in
    let free_free = free_bytes-free_block n in
    record {
      kept = λ p all free. list_all-put_after p h (free_block n) (used_blocks b) (list_all-free_block p n free) (list_all-used p b all);
      same_sizes = λ k used. sizes-put_after (is_kind k) h (free_block n) (used_blocks b) (sizes-free_block (is_kind k) n (is_kind-free k used)) ∙ sizes-used (is_kind k) b (is_kind-free k used);
      same_total = omega arith;
      same_free = omega arith;
      apart = free_apart-put_after h n (used_blocks b) (used_blocks-all_used b);
    }

-- two kinds that are one
pub is_kind-same : (k l : Kind) → is_kind k l ≡ true → k ≡ l
is_kind-same v0 v1 v2 = grind arith

-- two kinds that a test distinguishes
pub other_kind : (k l : Kind) (q : Kind → Bool) (c : Bool) → q k ≡ not c → q l ≡ c → is_kind k l ≡ false
other_kind k l q c here there = grind arith

-- a filter by kind leaves all blocks of a kind that it lets through
pub sizes-filter_all : (k : Kind) (q : Kind → Bool) (b : ZoneMap) → q k ≡ true → sizes (is_kind k) (filter (λ (e : Entry). q e.kind) b) ≡ sizes (is_kind k) b
sizes-filter_all k q [] h = refl
sizes-filter_all k q (e ∷ es) h = grind (arith, sizes-filter_all k q es h, other_kind)

-- and none of a kind that it holds back
pub sizes-filter_none : (k : Kind) (q : Kind → Bool) (b : ZoneMap) → q k ≡ false → sizes (is_kind k) (filter (λ (e : Entry). q e.kind) b) ≡ []
sizes-filter_none k q [] h = refl
sizes-filter_none k q (e ∷ es) h = grind (arith, sizes-filter_none k q es h, other_kind)

list_all-filter : (p q : Entry → Bool) (b : ZoneMap) → list_all p b ≡ true → list_all p (filter q b) ≡ true
list_all-filter p q [] h = refl
list_all-filter p q (e ∷ es) h = let parts = and_parts _ _ h in elim (q e) as (λ c. list_all p (cond c (e ∷ filter q es) (filter q es)) ≡ true) [
  | true ↦ and_from _ _ parts.0 (list_all-filter p q es parts.1)
  | false ↦ list_all-filter p q es parts.1
]

total_size-filter : (q : Entry → Bool) (b : ZoneMap) → total_size (filter (λ e. not (q e)) b) + total_size (filter q b) ≡ total_size b
total_size-filter q [] = refl
total_size-filter q (e ∷ es) = grind (arith, total_size-filter q es)

all_used-named : (h : ℕ) (b : ZoneMap) → all_used (filter (λ (e : Entry). is_named h e.kind) b) ≡ true
all_used-named h [] = refl
all_used-named h (e ∷ es) = grind (arith, all_used-named h es, all_used, and_from, named-used)

named-used_blocks : (h : ℕ) (b : ZoneMap) → filter (λ (e : Entry). is_named h e.kind) (used_blocks b) ≡ filter (λ (e : Entry). is_named h e.kind) b
named-used_blocks h [] = refl
named-used_blocks h (e ∷ es) = grind (arith, named-used_blocks h es, free_is)

-- the blocks in use but those of h, and those of h
abbrev others_of : ℕ → ZoneMap → ZoneMap
others_of h b = filter (λ (e : Entry). not (is_named h e.kind)) (used_blocks b)

abbrev those_of : ℕ → ZoneMap → ZoneMap
those_of h b = filter (λ (e : Entry). is_named h e.kind) b

sizes-high : (k : Kind) (h : ℕ) (b : ZoneMap) → is_free k ≡ false → sizes (is_kind k) (others_of h b) ++ sizes (is_kind k) (those_of h b) ≡ sizes (is_kind k) b
sizes-high k h b used = elim (is_named h k) as (λ c. is_named h k ≡ c → sizes (is_kind k) (others_of h b) ++ sizes (is_kind k) (those_of h b) ≡ sizes (is_kind k) b) [
  | true ↦ λ named. ap (λ ns. ns ++ sizes (is_kind k) (those_of h b)) (sizes-filter_none k (λ l. not (is_named h l)) (used_blocks b) (ap not named)) ∙ sizes-filter_all k (is_named h) b named
  | false ↦ λ other. ap (λ ns. sizes (is_kind k) (others_of h b) ++ ns) (sizes-filter_none k (is_named h) b other) ∙ append-nil _
      ∙ sizes-filter_all k (λ l. not (is_named h l)) (used_blocks b) (ap not other) ∙ sizes-used (is_kind k) b (is_kind-free k used)
] refl

-- high is an arrangement
pub high-IsArrangement : (h : ℕ) (b : ZoneMap) → IsArrangement b (high h b)
high-IsArrangement h b =
    let n : ℕ = free_bytes b in
    let others : ZoneMap = others_of h b in
    let those : ZoneMap = those_of h b in
    let others_used = list_all-filter (λ e. not (is_free e.kind)) (λ e. not (is_named h e.kind)) (used_blocks b) (used_blocks-all_used b) in
    let those_used = all_used-named h b in
    let total = total_size-append (others ++ free_block n) those in
    let total_front = total_size-append others (free_block n) in
    let parts = total_size-filter (λ e. is_named h e.kind) (used_blocks b) in
    let those_same = ap total_size (named-used_blocks h b) in
    let same = total_size-used b in
    let free = total_size-free_block n in
    let free_total = free_bytes-append (others ++ free_block n) those in
    let free_front = free_bytes-append others (free_block n) in
    let free_others = free_bytes-all_used others others_used in
    let free_those = free_bytes-all_used those those_used in
    let free_free = free_bytes-free_block n in
    record {
      kept = λ p all free. list_all-append p (others ++ free_block n) those
          ∙ and_from _ _ (list_all-append p others (free_block n) ∙ and_from _ _ (list_all-filter p _ (used_blocks b) (list_all-used p b all)) (list_all-free_block p n free)) (list_all-filter p _ b all);
      same_sizes = λ k used. sizes-append (is_kind k) (others ++ free_block n) those ∙ ap (λ ns. ns ++ sizes (is_kind k) those) (sizes-append (is_kind k) others (free_block n)
          ∙ ap (λ ns. sizes (is_kind k) others ++ ns) (sizes-free_block (is_kind k) n (is_kind-free k used)) ∙ append-nil (sizes (is_kind k) others)) ∙ sizes-high k h b used;
      same_total = omega arith;
      same_free = omega arith;
      apart = ap free_apart (append_assoc others (free_block n) those) ∙ free_apart-around others those n others_used those_used;
    }
