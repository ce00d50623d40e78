-- The search for the first of the handles that may be purged.
use Rattle.std.proofs.Common.{◌≡◌, ℕ, ◌+◌, ◌<◌, ◌≤◌, true, false, not, cond, List, [], ◌∷◌, ◌++◌, append_assoc, append-nil, refl, ap, sym, ◌∙◌, subst, arith, Some, None}
use Rattle.std.specs.Prelude.{◌&&◌}
use Rattle.std.specs.List.{slice_get}
use Rattle.std.proofs.lemmas.Bool.{and_from, and_parts, not-true}
use Rattle.mac_base.specs.declared.block.Entry.{Entry}
use Rattle.mac_base.specs.declared.block.Kind.{Kind}
use Rattle.mac_base.specs.declared.block.Kind.TheVariants.{Free, Master, Ptr, Rel}
use Rattle.mac_base.specs.Gap.{gap_after, gaps}
use Rattle.mac_base.specs.HandleTable.{HandleTable, is_purgeable}
use Rattle.mac_base.specs.HeadKind.{Shape}
use Rattle.mac_base.specs.Request.{candidates_in, is_among}
use Rattle.mac_base.specs.ZoneMap.{ZoneMap, address_after, block, total_size}
use Rattle.mac_base.specs.ZoneState.{ZoneState}
use Rattle.linked_zone.specs.Fit.{HasSizes}
use Rattle.linked_zone.specs.Places.{EntryAt, SplitAt}
use Rattle.zone_index.specs.Purging.{FirstPurgeable, may_go, none_purgeable}
use Rattle.zone_index.proofs.Sizes.{all_parts}
use Rattle.zone_index.proofs.SomeBytes.{no_bytes, total_size-push}
use Rattle.zone_laws.proofs.GapApart.{sizes_possible}
use Rattle.zone_laws.proofs.GapParts.{gap_after-is}
use Rattle.zone_laws.proofs.Maps.{total_size-append}
use Rattle.zone_heap.specs.Gaps.{IsGapOf}
use Rattle.zone_heap.specs.declared.gap.FoundGap.{FoundGap}
use Rattle.zone_heap.specs.Purge.{BlocksAt, unprotected}

-- blocks that may not be purged add none
candidates-kept : (t : HandleTable) (protected : List ℕ) (a b : ZoneMap) → none_purgeable t a ≡ true → candidates_in t protected (a ++ b) ≡ candidates_in t protected b
candidates-kept t protected [] b kept = refl
candidates-kept t protected (e ∷ es) b kept =
    let parts = and_parts (not (may_go t e.kind)) (none_purgeable t es) kept in
    by_kind e.size e.kind parts.0 (candidates-kept t protected es b parts.1)
  where
    by_kind : (n : ℕ) (kind : Kind) → not (may_go t kind) ≡ true → candidates_in t protected (es ++ b) ≡ candidates_in t protected b → candidates_in t protected (block kind n ∷ (es ++ b)) ≡ candidates_in t protected b
    by_kind n Free kept rest = rest
    by_kind n Master kept rest = rest
    by_kind n (Ptr p) kept rest = rest
    by_kind n (Rel h) kept rest = ap (λ c. cond (c && not (is_among protected h)) (h ∷ candidates_in t protected (es ++ b)) (candidates_in t protected (es ++ b))) (not-true (is_purgeable t h) kept) ∙ rest

-- so where none may be purged there are none
candidates-none : (t : HandleTable) (protected : List ℕ) (a : ZoneMap) → none_purgeable t a ≡ true → candidates_in t protected a ≡ []
candidates-none t protected a kept = ap (candidates_in t protected) (sym (append-nil a)) ∙ candidates-kept t protected a [] kept

-- a block that begins before these end is one of them
block-among : (blocks after passed : ZoneMap) (here : Entry) (more : ZoneMap) → blocks ++ after ≡ passed ++ here ∷ more → total_size passed < total_size blocks → (rest : ZoneMap) × (blocks ≡ passed ++ here ∷ rest)
block-among [] after passed here more is low = absurd (omega arith)
block-among (e ∷ es) after [] here more is low = let same : e ≡ here = cc is in (es, ap (λ f. f ∷ es) same)
block-among (e ∷ es) after (p ∷ passed) here more is low =
    let same : e ≡ p = cc is in
    let others : es ++ after ≡ passed ++ here ∷ more = cc is in
    let bytes = ap (λ (e : Entry). e.size) same in
    let later = block-among es after passed here more others (omega arith) in
    (later.0, ap (λ f. f ∷ es) same ∙ ap (λ m. p ∷ m) later.1)

-- where one begins where they end, or after, they are among those passed
all-passed : (s : Shape) (t : HandleTable) (blocks after passed : ZoneMap) (here : Entry) (more : ZoneMap) → sizes_possible s blocks ≡ true → blocks ++ after ≡ passed ++ here ∷ more → total_size blocks ≤ total_size passed → none_purgeable t passed ≡ true → none_purgeable t blocks ≡ true
all-passed s t [] after passed here more possible is high kept = refl
all-passed s t (e ∷ es) after [] here more possible is high kept = absurd (cc (no_bytes s (e ∷ es) possible (omega arith)))
all-passed s t (e ∷ es) after (p ∷ passed) here more possible is high kept =
    let same : e ≡ p = cc is in
    let others : es ++ after ≡ passed ++ here ∷ more = cc is in
    let bytes = ap (λ (e : Entry). e.size) same in
    let parts = and_parts (not (may_go t p.kind)) (none_purgeable t passed) kept in
    and_from (not (may_go t e.kind)) (none_purgeable t es) (ap (λ (e : Entry). not (may_go t e.kind)) same ∙ parts.0)
    (all-passed s t es after passed here more (all_parts _ (e ∷ []) es possible).1 others (omega arith) parts.1)

-- The blocks from an address on have the same handles that may be purged as all.
pub record Left {start end : ℕ} (z : ZoneState) (protected : List ℕ) (all : BlocksAt z start end) (at : ℕ) : Type 0 where
  pub blocks : BlocksAt z at end
  pub same : candidates_in z.heap.table protected blocks.blocks ≡ candidates_in z.heap.table protected all.blocks

module _ {at end : ℕ} (z : ZoneState) (protected : List ℕ) (b : BlocksAt z at end) where
  -- the address parts the map
  abbrev pub split_left : SplitAt z at
  split_left = record { before = b.before; after = b.blocks ++ b.after; map = b.map; place = b.place }

  -- none may be purged
  pub none_left : none_purgeable z.heap.table (b.blocks ++ b.after) ≡ true → candidates_in z.heap.table protected b.blocks ≡ []
  none_left kept = candidates-none z.heap.table protected b.blocks (all_parts _ b.blocks b.after kept).0

  module _ (next : ℕ) (f : FirstPurgeable z.heap.table (b.blocks ++ b.after) at next) where
    -- as where the first that may be begins at the end or after it
    pub none_below : HasSizes z → end ≤ next → candidates_in z.heap.table protected b.blocks ≡ []
    none_below sizes high =
        let last = b.long in
        let there = f.place in
        let possible = (all_parts _ b.blocks b.after (all_parts _ b.before (b.blocks ++ b.after) (subst (λ m. sizes_possible z.shape m ≡ true) b.map sizes)).1).0 in
        candidates-none z.heap.table protected b.blocks (all-passed z.shape z.heap.table b.blocks b.after f.passed (block (Rel f.handle) f.size) f.after possible f.splits (omega arith) f.kept)

    module _ (low : next < end) where
      -- else it is one of them
      pub among : (rest : ZoneMap) × (b.blocks ≡ f.passed ++ block (Rel f.handle) f.size ∷ rest)
      among = block-among b.blocks b.after f.passed (block (Rel f.handle) f.size) f.after f.splits (let last = b.long in let there = f.place in omega arith)

      pub place_next : next ≡ address_after z.shape (b.before ++ f.passed)
      place_next = let first = b.place in let there = f.place in let all = total_size-append b.before f.passed in omega arith

      pub map_next : z.heap.map ≡ (b.before ++ f.passed) ++ block (Rel f.handle) f.size ∷ (among.0 ++ b.after)
      map_next = b.map ∙ ap (λ m. b.before ++ (m ++ b.after)) among.1 ∙ simp append_assoc

      -- it is there
      abbrev pub entry_next : EntryAt z next
      entry_next = record { before = b.before ++ f.passed; here = block (Rel f.handle) f.size; after = among.0 ++ b.after; map = map_next; place = place_next }

      pub long_next : end ≡ next + f.size + total_size among.0
      long_next = let last = b.long in let there = f.place in let all = ap total_size among.1 ∙ total_size-append f.passed (block (Rel f.handle) f.size ∷ among.0) in omega arith

      -- it ends at the end or below
      pub within_next : next + f.size ≤ end
      within_next = let last = long_next in omega arith

      -- more are after it
      abbrev pub left_next : BlocksAt z (next + f.size) end
      left_next = record {
        before = (b.before ++ f.passed) ++ block (Rel f.handle) f.size ∷ [];
        blocks = among.0;
        after = b.after;
        map = map_next ∙ sym (append_assoc (b.before ++ f.passed) (block (Rel f.handle) f.size ∷ []) (among.0 ++ b.after));
        place = (let here = place_next in let all = total_size-push (b.before ++ f.passed) (block (Rel f.handle) f.size) in omega arith);
        long = long_next;
      }

      candidates_next : candidates_in z.heap.table protected b.blocks ≡ cond (is_among protected f.handle) (candidates_in z.heap.table protected among.0) (f.handle ∷ candidates_in z.heap.table protected among.0)
      candidates_next =
          let left = candidates_in z.heap.table protected among.0 in
          ap (candidates_in z.heap.table protected) among.1 ∙ candidates-kept z.heap.table protected f.passed (block (Rel f.handle) f.size ∷ among.0) f.kept
          ∙ ap (λ c. cond (c && not (is_among protected f.handle)) (f.handle ∷ left) left) f.goes
          ∙ elim (is_among protected f.handle) as (λ c. cond (not c) (f.handle ∷ left) left ≡ cond c left (f.handle ∷ left)) [ true ↦ refl | false ↦ refl ]

      -- it is the first that may be purged
      pub first_next : (h : ℕ) → unprotected protected (Rel f.handle) ≡ Some h → Some h ≡ slice_get (candidates_in z.heap.table protected b.blocks) 0
      first_next h found =
          let left = candidates_in z.heap.table protected among.0 in
          sym (ap (λ hs. slice_get hs 0) candidates_next ∙ elim (is_among protected f.handle) as (λ c. cond c None (Some f.handle) ≡ Some h → slice_get (cond c left (f.handle ∷ left)) 0 ≡ Some h) [
            | true ↦ λ is. absurd (cc is)
            | false ↦ λ is. is
          ] found)

      -- or, where it is protected, that is one after it
      pub others_next : unprotected protected (Rel f.handle) ≡ None → candidates_in z.heap.table protected left_next.blocks ≡ candidates_in z.heap.table protected b.blocks
      others_next none =
          let left = candidates_in z.heap.table protected among.0 in
          sym (candidates_next ∙ elim (is_among protected f.handle) as (λ c. cond c None (Some f.handle) ≡ None → cond c left (f.handle ∷ left) ≡ left) [
            | true ↦ λ is. refl
            | false ↦ λ is. absurd (cc is)
          ] none)

-- all blocks of a zone are between its start and its end
abbrev pub whole_zone : (z : ZoneState) (start end : ℕ) → start ≡ address_after z.shape [] → end ≡ address_after z.shape z.heap.map → BlocksAt z start end
whole_zone z start end first last = record {
  before = [];
  blocks = z.heap.map;
  after = [];
  map = sym (append-nil z.heap.map);
  place = first;
  long = last ∙ (let all : address_after z.shape z.heap.map ≡ start + total_size z.heap.map = omega arith in all);
}

-- and those of the gap right after a block that stays between its ends
abbrev pub blocks_after : (z : ZoneState) (x : ℕ) (found : FoundGap) → (is : IsGapOf z (gap_after x (gaps z.heap.table z.heap.map)) found) → BlocksAt z found.start found.end
blocks_after z x found is =
    let gap = (gap_after-is z.heap.table z.heap.map x is.gap is.is).0 in
    record { before = is.gap.before; blocks = is.gap.blocks; after = is.gap.after; map = gap.parts ∙ append_assoc is.gap.before is.gap.blocks is.gap.after; place = is.start; long = is.end }
