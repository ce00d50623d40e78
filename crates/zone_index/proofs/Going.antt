-- The first of some blocks that may be purged.
use Rattle.std.proofs.Common.{◌≡◌, ℕ, ◌+◌, ◌≤◌, Bool, true, false, not, [], ◌∷◌, ◌++◌, Option, Some, None, refl, ap, sym, ◌∙◌, subst, inl, inr, arith}
use Rattle.std.specs.Prelude.{IfNone, IfSome, IsTrue}
use Rattle.std.proofs.lemmas.Bool.{and_from, false≢true}
use Rattle.mac_base.specs.declared.block.Kind.{Kind}
use Rattle.mac_base.specs.declared.block.Kind.TheVariants.{Free, Master, Ptr, Rel}
use Rattle.mac_base.specs.HandleTable.{HandleTable, is_purgeable}
use Rattle.mac_base.specs.ZoneMap.{ZoneMap, block, total_size}
use Rattle.mac_base.specs.ZoneState.{ZoneState}
use Rattle.zone_laws.proofs.GapApart.{sizes_possible}
use Rattle.linked_zone.specs.Fit.{HasSizes}
use Rattle.linked_zone.specs.Places.{SplitAt}
use Rattle.zone_index.specs.Marks.{PassesAt}
use Rattle.zone_index.specs.Purging.{FirstPurgeable, may_go, none_purgeable}
use Rattle.zone_index.specs.Search.{NextPassing, NonePassing}
use Rattle.zone_index.proofs.Passing.{HasPassing, none_passing, of-passing, passing-back, passing-below, passing-found, passing-front, passing-split, to-passing}
use Rattle.zone_index.proofs.Sizes.{all_parts}

-- where there is none, none passes
none-stands : (p : Kind → Bool) (m : ZoneMap) → ((n : ℕ) → HasPassing p m n → ⊥) → none_passing p m ≡ true
none-stands p [] none = refl
none-stands p (e ∷ es) none = and_from _ _ (first (p e.kind) refl) (none-stands p es (λ n h. none (e.size + n) (inr (n, refl, h))))
  where
    first : (b : Bool) → p e.kind ≡ b → not (p e.kind) ≡ true
    first true is = absurd (none 0 (inl (refl, is)))
    first false is = ap not is

-- only the block of a handle may be purged
going : (t : HandleTable) (kind : Kind) → may_go t kind ≡ true → (h : ℕ) × (kind ≡ Rel h) × (is_purgeable t h ≡ true)
going t Free is = absurd (false≢true is)
going t Master is = absurd (false≢true is)
going t (Ptr p) is = absurd (false≢true is)
going t (Rel h) is = (h, refl, is)

module _ (z : ZoneState) (sizes : HasSizes z) (from : ℕ) (split : SplitAt z from) where
  abbrev p : Kind → Bool
  p = may_go z.heap.table

  possible : (sizes_possible z.shape split.before ≡ true) × (sizes_possible z.shape split.after ≡ true)
  possible = all_parts _ split.before split.after (ap (sizes_possible z.shape) (sym split.map) ∙ sizes)

  -- one from the address on is among those after
  after-from : (at : ℕ) → PassesAt may_go z at → from ≤ at → (k : ℕ) × (at ≡ from + k) × HasPassing p split.after k
  after-from at f up =
      let n = of-passing may_go z at f in
      let there = n.1 in
      let here = split.place in
      elim (passing-split p split.before split.after n.0 (subst (λ m. HasPassing p m n.0) split.map n.2)) [
        | inl low ↦ let below = passing-below p z.shape split.before n.0 possible.0 low in absurd (omega arith)
        | inr high ↦ (high.0, (let further = high.1 in omega arith), high.2)
      ]

  -- and one among those after is there
  from-after : (k : ℕ) → HasPassing p split.after k → PassesAt may_go z (from + k)
  from-after k h =
      let here = split.place in
      to-passing may_go z (from + k) (total_size split.before + k) (omega arith) (subst (λ m. HasPassing p m (total_size split.before + k)) (sym split.map) (passing-back p split.before split.after _ k refl h))

  pub first-going : (at : ℕ) → NextPassing may_go z from at → FirstPurgeable z.heap.table split.after from at
  first-going at next =
      let k = after-from at next.here next.above in
      let f = passing-found p split.after k.0 k.2 in
      let g = going z.heap.table (f.here).kind f.passes in
      let place : at ≡ from + total_size f.before = let there = k.1 in let here = f.place in omega arith in
      record {
        passed = f.before;
        handle = g.0;
        size = (f.here).size;
        after = f.after;
        splits = f.map ∙ ap (λ kind. f.before ++ block kind (f.here).size ∷ f.after) g.1;
        kept = none-stands p f.before (λ j h.
            let less = passing-below p z.shape f.before j (all_parts _ f.before (f.here ∷ f.after) (ap (sizes_possible z.shape) (sym f.map) ∙ possible.1)).0 h in
            let least = next.first (from + j) (from-after j (subst (λ m. HasPassing p m j) (sym f.map) (passing-front p f.before _ j h))) (omega arith) in
            omega arith);
        goes = g.2;
        place = place;
      }

  pub none-going : NonePassing may_go z from → none_purgeable z.heap.table split.after ≡ true
  none-going none = none-stands p split.after (λ k h. none (from + k) (from-after k h) (omega arith))

-- so it is with what a search found
module _ (z : ZoneState) (sizes : HasSizes z) (from : ℕ) where
  pub some-first : (found : Option ℕ) → IfSome found (NextPassing may_go z from) → IfSome found (λ at. (split : SplitAt z from) → FirstPurgeable z.heap.table split.after from at)
  some-first None h = h
  some-first (Some at) h = λ split. first-going z sizes from split at h

  pub none-passes : (found : Option ℕ) → IfNone found (NonePassing may_go z from) → IfNone found ((split : SplitAt z from) → IsTrue (none_purgeable z.heap.table split.after))
  none-passes None h = λ split. none-going z sizes from split h
  none-passes (Some at) h = h
