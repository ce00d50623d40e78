-- The gap in which a block can grow, by its addresses.
use Rattle.std.proofs.Common.{◌≡◌, ℕ, ◌+◌, Bool, true, cond, [], ◌∷◌, ◌++◌, length, refl, ap, sym, ◌∙◌, inl, inr, arith, Option, Some, None}
use Rattle.std.specs.Prelude.{◌⊎◌, find, is_some}
use Rattle.std.proofs.lemmas.Bool.{or_cases, eqb-true}
use Rattle.std.proofs.lemmas.List.{length-map}
use Rattle.mac_base.specs.declared.block.Entry.{Entry}
use Rattle.mac_base.specs.declared.block.Kind.{Kind}
use Rattle.mac_base.specs.declared.block.Kind.TheVariants.{Free, Master, Ptr, Rel}
use Rattle.mac_base.specs.Gap.{Gap, gaps, gap_after, ends_with, is_fixed}
use Rattle.mac_base.specs.HandleTable.{HandleTable, live_at, is_locked, is_pointer}
use Rattle.mac_base.specs.HeadKind.{Shape}
use Rattle.mac_base.specs.Request.{stays}
use Rattle.mac_base.specs.Suits.{Coherent, is_handle_block, is_pointer_block}
use Rattle.mac_base.specs.ZoneMap.{ZoneMap, block, addresses, address_after, is_named, sizes, total_size}
use Rattle.mac_base.specs.ZoneState.{ZoneState}
use Rattle.zone_laws.proofs.GapAppend.{length-addresses_from, sizes-append}
use Rattle.zone_laws.proofs.GapParts.{IsGap, gap-IsGap, gap_after-is, ends_fixed as ends_in_fixed}
use Rattle.zone_laws.proofs.GapRoom.{gap_after-found}
use Rattle.zone_laws.proofs.NamedPlace.{At-from, BeforeGap, gap_after-parts, nil-append}
use Rattle.zone_laws.proofs.SuitsNamed.{length-sizes_named}
use Rattle.zone_laws.proofs.Maps.{total_size-append}
use Rattle.zone_laws.proofs.FittingResize.{one_size}
use Rattle.linked_zone.specs.Places.{EntryAt, NamedAt}
use Rattle.zone_index.specs.Gaps.{GapAt as IndexedGap}
use Rattle.zone_heap.specs.Gaps.{Settled, GapAt, IsGapOf}
use Rattle.zone_index.specs.Runs.{RestAt, ends_fixed}
use Rattle.zone_heap.proofs.Laws.{find-contains}
use Rattle.zone_heap.proofs.LoansKept.{no_handle, pointer-no_full, locked-full}
use Rattle.zone_heap.proofs.Owning.{Owned, same_named}
use Rattle.zone_heap.proofs.Settling.{rest_of_gap}
use Rattle.zone_index.proofs.Naming.{named_alone}
use Rattle.zone_index.proofs.SomeBytes.{total_size-push}

-- a gap that a search finds, between its addresses
module _ (z : ZoneState) (test : Gap → Bool) (g : Gap) (found : find test (gaps z.heap.table z.heap.map) ≡ Some g) (start end : ℕ) (place : start ≡ address_after z.shape g.before) (long : end ≡ start + total_size g.blocks) where
  -- is the one that is sought
  pub gap_found : IsGapOf z (find test (gaps z.heap.table z.heap.map)) (record { start = start; end = end })
  gap_found = record { gap = g; is = found; start = place; end = long }

-- the gap of a handle's block
module _ (z : ZoneState) (h at : ℕ) (o : Owned z h at) (start end : ℕ) (start_is : start + total_size (o.place).front ≡ at) (end_is : end ≡ at + (o.size + total_size (o.place).back)) where
  -- begins after what lies before it
  pub place-own : start ≡ address_after z.shape (o.gap).before
  place-own = let here = o.at_is in let all = total_size-append (o.gap).before (o.place).front in omega arith

  -- and is as long as its blocks
  pub long-own : end ≡ start + total_size (o.gap).blocks
  long-own =
      let here = block (o.place).kind o.size in
      let all : total_size (o.gap).blocks ≡ total_size (o.place).front + (o.size + total_size (o.place).back) = ap total_size ((o.place).at).was ∙ total_size-append (o.place).front (here ∷ (o.place).back) in
      omega arith

-- The gap right after a block that stays, and the block's place before it.
pub record Beside (z : ZoneState) (x at : ℕ) : Type 0 where
  pub gap : Gap
  pub found : gap_after x (gaps z.heap.table z.heap.map) ≡ Some gap
  pub size : ℕ
  pub place : BeforeGap x z.heap.map gap size
  pub at_is : at ≡ address_after z.shape place.front

-- the block of what stays is a fixed one
named-fixed : (z : ZoneState) (x : ℕ) (a : ZoneMap) (e : Entry) (b : ZoneMap) (kind : Kind) → Settled z → stays z.heap.table x ≡ true → z.heap.map ≡ a ++ e ∷ b → e.kind ≡ kind → is_named x kind ≡ true → is_fixed z.heap.table kind ≡ true
named-fixed z x a e b Free settled fixed map is named = absurd (cc named)
named-fixed z x a e b Master settled fixed map is named = refl
named-fixed z x a e b (Ptr p) settled fixed map is named = refl
named-fixed z x a e b (Rel g) settled fixed map is named = by_owner (or_cases (is_pointer z.heap.table x) (is_locked z.heap.table x) fixed)
  where
    by_owner : (is_pointer z.heap.table x ≡ true) ⊎ (is_locked z.heap.table x ≡ true) → is_locked z.heap.table g ≡ true
    by_owner (inr locked) = ap (is_locked z.heap.table) (eqb-true g x named) ∙ locked
    by_owner (inl pointer) =
        let none = no_handle z.shape z.heap.table z.heap.map x settled.coherent (pointer-no_full (live_at z.heap.table x) pointer) in
        let parts = nil-append (sizes (is_handle_block x) a) (sizes (is_handle_block x) (e ∷ b)) (sym (sizes-append (is_handle_block x) a (e ∷ b)) ∙ ap (sizes (is_handle_block x)) (sym map) ∙ none) in
        let some : e.size ∷ sizes (is_handle_block x) b ≡ [] = ap (λ c. cond c (e.size ∷ []) [] ++ sizes (is_handle_block x) b) (sym (ap (is_handle_block x) is ∙ named)) ∙ parts.1 in
        absurd (cc some)

-- what stays names just one
stays-once : (s : Shape) (t : HandleTable) (m : ZoneMap) (x : ℕ) → Coherent s t m → stays t x ≡ true → length (sizes (is_named x) m) ≡ 1
stays-once s t m x coherent fixed = by_owner (or_cases (is_pointer t x) (is_locked t x) fixed)
  where
    by_owner : (is_pointer t x ≡ true) ⊎ (is_locked t x ≡ true) → length (sizes (is_named x) m) ≡ 1
    by_owner (inr locked) = named_alone s t m x coherent (locked-full (live_at t x) locked)
    by_owner (inl pointer) =
        let all = length-sizes_named x m in
        let handles = ap length (no_handle s t m x coherent (pointer-no_full (live_at t x) pointer)) in
        let pointers : length (sizes (is_pointer_block x) m) ≡ 1 =
        sym (length-addresses_from (address_after s []) (is_pointer_block x) m) ∙ sym (length-map (addresses s (is_pointer_block x) m) _) ∙ ap length (coherent.pointers x) ∙ ap (λ c. length (cond c (x ∷ []) [])) pointer in
        omega arith

-- a block that stays has a gap right after it
pub beside : (z : ZoneState) (x at : ℕ) → Settled z → stays z.heap.table x ≡ true → NamedAt z x at → Beside z x at
beside z x at settled fixed n = by_gap (gap_after x (gaps z.heap.table z.heap.map)) refl
    (ap (λ m. is_some (gap_after x (gaps z.heap.table m))) n.map ∙ gap_after-found z.heap.table x n.before n.here n.after (named-fixed z x n.before n.here n.after n.here.kind settled fixed n.map refl n.named) n.named)
  where
    by_gap : (o : Option Gap) → gap_after x (gaps z.heap.table z.heap.map) ≡ o → is_some o ≡ true → Beside z x at
    by_gap None found some = absurd (cc some)
    by_gap (Some g) found some =
        let after = gap_after-is z.heap.table z.heap.map x g found in
        let one = one_size (sizes (is_named x) z.heap.map) (stays-once z.shape z.heap.table z.heap.map x settled.coherent fixed) in
        let p : BeforeGap x z.heap.map g one.0 = gap_after-parts z.heap.table z.heap.map g x one.0 after.0 after.1 one.1 in
        let there = p.at in
        let here = At-from x z.heap.map one.0 n.before n.here n.after one.1 n.map n.named in
        record {
          gap = g;
          found = found;
          size = one.0;
          place = p;
          at_is = n.place ∙ ap (address_after z.shape) (same_named x n.before n.here n.after p.front (block p.kind one.0) (g.blocks ++ g.after) (sym n.map ∙ there.was) n.named there.named here.none_front there.none_front);
        }

module _ (z : ZoneState) (x at : ℕ) (b : Beside z x at) where
  -- the block
  abbrev pub entry_beside : EntryAt z at
  entry_beside = record { before = (b.place).front; here = block (b.place).kind b.size; after = (b.gap).blocks ++ (b.gap).after; map = ((b.place).at).was; place = b.at_is }

  -- the gap begins after it
  pub place-beside : at + b.size ≡ address_after z.shape (b.gap).before
  place-beside =
      let here = b.at_is in
      let all : total_size (b.gap).before ≡ total_size (b.place).front + b.size = ap total_size (b.place).before ∙ total_size-push (b.place).front (block (b.place).kind b.size) in
      omega arith

  -- with these blocks
  abbrev pub rest_beside : (start : ℕ) → start ≡ at + b.size → RestAt z start
  rest_beside start is = rest_of_gap z start (record { gap = b.gap; among = find-contains (λ g. ends_with x g.before) (gaps z.heap.table z.heap.map) b.gap b.found; place = is ∙ place-beside })

-- a gap begins after a fixed block, or where the zone's blocks do
pub after_fixed : (t : HandleTable) (m : ZoneMap) → ends_in_fixed t m ≡ true → ends_fixed t m ≡ true
after_fixed t [] h = h
after_fixed t (e ∷ []) h = h
after_fixed t (e ∷ f ∷ es) h = after_fixed t (f ∷ es) h

-- so it has a bound
abbrev pub gap_indexed : (z : ZoneState) (start : ℕ) → GapAt z start → IndexedGap z start
gap_indexed z start at =
    let is : IsGap z.heap.table z.heap.map at.gap = gap-IsGap z.heap.table z.heap.map at.gap at.among in
    record { rest = rest_of_gap z start at; below = after_fixed z.heap.table at.gap.before is.below }
