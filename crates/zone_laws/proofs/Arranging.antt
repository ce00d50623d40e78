-- What the arrangements of a list of blocks keep: the used blocks, the bytes, the free bytes.
use Rattle.std.proofs.Common.{◌≡◌, ℕ, ◌+◌, Bool, true, false, not, cond, [], ◌∷◌, ◌++◌, refl, ap, sym, ◌∙◌, inl, inr, append-nil, arith}
use Rattle.std.specs.Prelude.{◌&&◌, ◌⊎◌, ◌==◌, IsTrue}
use Rattle.std.specs.List.{list_all}
use Rattle.std.proofs.lemmas.Bool.{and_from, and_parts, not-true}
use Rattle.std.proofs.lemmas.List.Folds.{list_all-append}
use Rattle.std.proofs.lemmas.List.Elements.{filter-append}
use Rattle.mac_base.specs.declared.block.Entry.{Entry}
use Rattle.mac_base.specs.declared.block.Kind.{Kind}
use Rattle.mac_base.specs.declared.block.Kind.TheVariants.{Free}
use Rattle.mac_base.specs.ZoneMap.{ZoneMap, block, free_block, is_free, is_kind, is_named, total_size, free_bytes, sizes}
use Rattle.mac_base.specs.Suits.{free_apart, starts_free}
use Rattle.mac_base.specs.Gap.{has_named}
use Rattle.mac_base.specs.Arrangement.{used_blocks, down, up}
use Rattle.zone_laws.proofs.GapAppend.{free_bytes-append, sizes-append}
use Rattle.zone_laws.proofs.Maps.{total_size-append}

-- a free block's kind
pub free_is : (k : Kind) → is_free k ≡ true → k ≡ Free
free_is v0 h = grind arith

-- a block that is named is not free
pub named-used : (x : ℕ) (k : Kind) → is_named x k ≡ true → is_free k ≡ false
named-used x v1 h = grind arith

-- a free block is not of the kind of a block that is in use
pub is_kind-free : (k : Kind) → is_free k ≡ false → is_kind k Free ≡ false
is_kind-free v0 h = grind arith

-- whether all these blocks are in use
abbrev pub all_used : ZoneMap → Bool
all_used blocks = list_all (λ (e : Entry). not (is_free e.kind)) blocks

-- the blocks in use are in use
pub used_blocks-all_used : (b : ZoneMap) → all_used (used_blocks b) ≡ true
used_blocks-all_used [] = refl
used_blocks-all_used (e ∷ es) = grind (arith, used_blocks-all_used es, and_from)

-- blocks that are all in use
pub used_blocks-same : (b : ZoneMap) → all_used b ≡ true → used_blocks b ≡ b
used_blocks-same [] h = refl
used_blocks-same (e ∷ es) h = let parts = and_parts _ _ h in
    ap (λ b. cond b (e ∷ used_blocks es) (used_blocks es)) parts.0 ∙ ap (λ b. e ∷ b) (used_blocks-same es parts.1)

-- what holds of each block holds of those in use
pub list_all-used : (p : Entry → Bool) (b : ZoneMap) → list_all p b ≡ true → list_all p (used_blocks b) ≡ true
list_all-used p [] h = refl
list_all-used p (e ∷ es) h = let parts = and_parts _ _ h in elim (is_free e.kind) as (λ b. list_all p (cond (not b) (e ∷ used_blocks es) (used_blocks es)) ≡ true) [
  | true ↦ list_all-used p es parts.1
  | false ↦ and_from _ _ parts.0 (list_all-used p es parts.1)
]

-- a block that is named is in use
pub has_named-used : (x : ℕ) (b : ZoneMap) → has_named x (used_blocks b) ≡ has_named x b
has_named-used x [] = refl
has_named-used x (e ∷ es) = grind (arith, has_named-used x es, free_is)

-- the sizes of the blocks that pass a test which no free block passes
pub sizes-used : (test : Kind → Bool) (b : ZoneMap) → test Free ≡ false → sizes test (used_blocks b) ≡ sizes test b
sizes-used test [] h = refl
sizes-used test (e ∷ es) h = grind (arith, sizes-used test es h, free_is)

-- the bytes are those in use and those that are free
pub total_size-used : (b : ZoneMap) → total_size b ≡ total_size (used_blocks b) + free_bytes b
total_size-used [] = refl
total_size-used (e ∷ es) = grind (arith, total_size-used es)

-- blocks in use have no free bytes
pub free_bytes-all_used : (b : ZoneMap) → all_used b ≡ true → free_bytes b ≡ 0
free_bytes-all_used [] h = refl
free_bytes-all_used (e ∷ es) h = let parts = and_parts _ _ h in ap (λ b. cond b e.size 0 + free_bytes es) (not-true _ parts.0) ∙ let rest = free_bytes-all_used es parts.1 in omega arith

-- one free block of n bytes, or none where n is 0, has n bytes
pub total_size-free_block : (n : ℕ) → total_size (free_block n) ≡ n
total_size-free_block n = grind arith

-- they are free
pub free_bytes-free_block : (n : ℕ) → free_bytes (free_block n) ≡ n
free_bytes-free_block n = grind arith

-- it passes no test that a free block fails
pub sizes-free_block : (test : Kind → Bool) (n : ℕ) → test Free ≡ false → sizes test (free_block n) ≡ []
sizes-free_block test n h = grind arith

-- it is not in use
pub used_blocks-free_block : (n : ℕ) → used_blocks (free_block n) ≡ []
used_blocks-free_block n = elim (n == 0) as (λ b. used_blocks (cond b [] (block Free n ∷ [])) ≡ []) [ true ↦ refl | false ↦ refl ]

-- what holds of a free block of n bytes holds of it
pub list_all-free_block : (p : Entry → Bool) (n : ℕ) → (n ≡ 0) ⊎ (p (block Free n) ≡ true) → list_all p (free_block n) ≡ true
list_all-free_block p n (inl none) = ap (λ n. list_all p (free_block n)) none
list_all-free_block p n (inr holds) = elim (n == 0) as (λ b. list_all p (cond b [] (block Free n ∷ [])) ≡ true) [ true ↦ refl | false ↦ and_from _ _ holds refl ]

-- a block in use before others keeps free blocks apart
apart-cons : (e : Entry) (m : ZoneMap) → is_free e.kind ≡ false → free_apart (e ∷ m) ≡ free_apart m
apart-cons e m used = ap (λ b. not (b && starts_free m) && free_apart m) used

-- and so do blocks in use
pub free_apart-after_used : (a b : ZoneMap) → all_used a ≡ true → free_apart (a ++ b) ≡ free_apart b
free_apart-after_used [] b h = refl
free_apart-after_used (e ∷ es) b h = let parts = and_parts _ _ h in apart-cons e (es ++ b) (not-true _ parts.0) ∙ free_apart-after_used es b parts.1

-- blocks in use do not begin with a free one
pub starts_free-all_used : (b : ZoneMap) → all_used b ≡ true → starts_free b ≡ false
starts_free-all_used [] h = refl
starts_free-all_used (e ∷ es) h = not-true _ (and_parts _ _ h).0

-- a free block before others that begin with none
pub free_apart-free_block : (n : ℕ) (c : ZoneMap) → starts_free c ≡ false → free_apart (free_block n ++ c) ≡ free_apart c
free_apart-free_block n c h = grind arith

free_apart-all_used : (b : ZoneMap) → all_used b ≡ true → free_apart b ≡ true
free_apart-all_used b h = ap free_apart (sym (append-nil b)) ∙ free_apart-after_used b [] h

-- free blocks are apart where blocks in use lie on both sides of one
pub free_apart-around : (a c : ZoneMap) (n : ℕ) → all_used a ≡ true → all_used c ≡ true → free_apart (a ++ (free_block n ++ c)) ≡ true
free_apart-around a c n ha hc = free_apart-after_used a (free_block n ++ c) ha ∙ free_apart-free_block n c (starts_free-all_used c hc) ∙ free_apart-all_used c hc

-- An arrangement of blocks: those in use, kind by kind, and the free bytes in one block, if there are any.
pub record IsArrangement (old new : ZoneMap) : Type 0 where
  -- what holds of each block, and of one with all free bytes, holds of each block
  pub kept : (p : Entry → Bool) → list_all p old ≡ true → (free_bytes old ≡ 0) ⊎ (p (block Free (free_bytes old)) ≡ true) → list_all p new ≡ true
  pub same_sizes : (k : Kind) → is_free k ≡ false → sizes (is_kind k) new ≡ sizes (is_kind k) old
  pub same_total : total_size new ≡ total_size old
  pub same_free : free_bytes new ≡ free_bytes old
  pub apart : IsTrue (free_apart new)

-- down keeps the blocks in use, in order
pub used_blocks-down : (b : ZoneMap) → used_blocks (down b) ≡ used_blocks b
used_blocks-down b = filter-append _ (used_blocks b) (free_block (free_bytes b)) ∙ ap (λ c. used_blocks (used_blocks b) ++ c) (used_blocks-free_block (free_bytes b))
    ∙ append-nil (used_blocks (used_blocks b)) ∙ used_blocks-same (used_blocks b) (used_blocks-all_used b)

-- a block with all free bytes, and those in use
module _ (b : ZoneMap) where
  abbrev n : ℕ
  n = free_bytes b

  used : total_size (used_blocks b) + n ≡ total_size b
  used = let same = total_size-used b in omega arith

  none_free : free_bytes (used_blocks b) ≡ 0
  none_free = free_bytes-all_used (used_blocks b) (used_blocks-all_used b)

  -- down is an arrangement
  pub down-IsArrangement : IsArrangement b (down b)
  down-IsArrangement = record {
    kept = λ p h free. list_all-append p (used_blocks b) (free_block n) ∙ and_from _ _ (list_all-used p b h) (list_all-free_block p n free);
    same_sizes = λ k used. sizes-append (is_kind k) (used_blocks b) (free_block n) ∙ ap (λ ns. sizes (is_kind k) (used_blocks b) ++ ns) (sizes-free_block (is_kind k) n (is_kind-free k used))
        ∙ append-nil (sizes (is_kind k) (used_blocks b)) ∙ sizes-used (is_kind k) b (is_kind-free k used);
    same_total = (let all = total_size-append (used_blocks b) (free_block n) in omega (arith, all, total_size-free_block n, used));
    same_free = (let all = free_bytes-append (used_blocks b) (free_block n) in omega (arith, all, free_bytes-free_block n, none_free));
    apart = ap (λ c. free_apart (used_blocks b ++ c)) (sym (append-nil (free_block n))) ∙ free_apart-around (used_blocks b) [] n (used_blocks-all_used b) refl;
  }

  -- up is an arrangement
  pub up-IsArrangement : IsArrangement b (up b)
  up-IsArrangement = record {
    kept = λ p h free. list_all-append p (free_block n) (used_blocks b) ∙ and_from _ _ (list_all-free_block p n free) (list_all-used p b h);
    same_sizes = λ k used. sizes-append (is_kind k) (free_block n) (used_blocks b) ∙ ap (λ ns. ns ++ sizes (is_kind k) (used_blocks b)) (sizes-free_block (is_kind k) n (is_kind-free k used))
        ∙ sizes-used (is_kind k) b (is_kind-free k used);
    same_total = (let all = total_size-append (free_block n) (used_blocks b) in omega (arith, all, total_size-free_block n, used));
    same_free = (let all = free_bytes-append (free_block n) (used_blocks b) in omega (arith, all, free_bytes-free_block n, none_free));
    apart = free_apart-around [] (used_blocks b) n refl (used_blocks-all_used b);
  }
