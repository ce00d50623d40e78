-- A walk over a zone writes a mark for each block: those that pass a test have one.
use Rattle.std.proofs.Common.{◌≡◌, ℕ, ◌+◌, ◌/◌, ◌<◌, ◌≤◌, Bool, true, false, if◌then◌else◌, List, [], ◌∷◌, ◌++◌, length, set, slice_index, refl, ap, sym, ◌∙◌, subst, append_assoc, inl, inr, arith}
use Rattle.std.specs.Prelude.{◌⊎◌}
use Rattle.std.proofs.lemmas.List.{length-set}
use Rattle.mac_base.specs.declared.block.Entry.{Entry}
use Rattle.mac_base.specs.declared.block.Kind.{Kind}
use Rattle.mac_base.specs.Gap.{is_fixed}
use Rattle.mac_base.specs.HandleTable.{HandleTable}
use Rattle.mac_base.specs.ZoneMap.{ZoneMap, address_after, total_size}
use Rattle.mac_base.specs.ZoneState.{ZoneState}
use Rattle.zone_laws.proofs.GapApart.{sizes_possible}
use Rattle.zone_laws.proofs.Maps.{total_size-append}
use Rattle.linked_zone.specs.Fit.{HasSizes}
use Rattle.linked_zone.specs.Places.{EntryAt, SplitAt}
use Rattle.zone_index.specs.Marks.{AreMarked, PassesAt, place}
use Rattle.zone_index.specs.Purging.{may_go}
use Rattle.zone_index.proofs.Entries.{split-none}
use Rattle.zone_index.proofs.MarksKept.{places-apart, written-read}
use Rattle.zone_index.proofs.Passing.{HasPassing, of-passing, passes-only, passing-below, passing-split}
use Rattle.zone_index.proofs.Sizes.{all_parts}

-- each block below an address that passes has a mark
pub record MarkedBelow (test : HandleTable → Kind → Bool) (z : ZoneState) (at : ℕ) (marks : List ℕ) : Type 0 where
  pub places : length marks ≡ z.shape.limit / 4 + 1
  pub marked : (other : ℕ) → PassesAt test z other → other < at → 1 ≤ slice_index marks (place z.shape other)

module _ (test : HandleTable → Kind → Bool) (z : ZoneState) where
  -- no block is below the first
  pub none_below : (at : ℕ) (marks : List ℕ) → length marks ≡ z.shape.limit / 4 + 1 → at ≡ address_after z.shape [] → MarkedBelow test z at marks
  none_below at marks places first = record { places = places; marked = λ other f low. let there = f.entry.place in absurd (omega arith) }

  -- a block that passes and begins below the end of another is that one, or begins below it
  below-or-here : HasSizes z → (at : ℕ) (e : EntryAt z at) (other : ℕ) → PassesAt test z other → other < at + (e.here).size → (other < at) ⊎ (other ≡ at)
  below-or-here sizes at e other f low =
      let p = test z.heap.table in
      let n = of-passing test z other f in
      let there = n.1 in
      let place = e.place in
      let whole = ap (sizes_possible z.shape) (sym e.map) ∙ sizes in
      elim (passing-split p e.before (e.here ∷ e.after) n.0 (subst (λ m. HasPassing p m n.0) e.map n.2)) [
        | inl front ↦ let below = passing-below p z.shape e.before n.0 (all_parts _ e.before (e.here ∷ e.after) whole).0 front in inl (omega arith)
        | inr back ↦ by_place back.0 back.1 back.2
      ]
    where
      by_place : (k : ℕ) → (of-passing test z other f).0 ≡ total_size e.before + k → HasPassing (test z.heap.table) (e.here ∷ e.after) k → (other < at) ⊎ (other ≡ at)
      by_place k further h =
          let there = (of-passing test z other f).1 in
          let place = e.place in
          elim h [
            | inl here ↦ let first = here.0 in inr (omega arith)
            | inr later ↦ let after = later.1 in absurd (omega arith)
          ]

  -- with the mark of the next block
  pub marked-on : HasSizes z → (at : ℕ) (e : EntryAt z at) (marks : List ℕ) (mark : ℕ) → place z.shape at ≤ z.shape.limit / 4
      → (test z.heap.table (e.here).kind ≡ true → 1 ≤ mark) → MarkedBelow test z at marks → MarkedBelow test z (at + (e.here).size) (set marks (place z.shape at) mark)
  marked-on sizes at e marks mark inside passes below = record {
    places = length-set marks (place z.shape at) mark ∙ below.places;
    marked = λ other f low.
        written-read marks (place z.shape at) (place z.shape other) mark (let whole = below.places in omega arith)
        (λ same. let one = places-apart z at other sizes e f.entry same in passes (passes-only test z sizes e (subst (PassesAt test z) (sym one) f)))
        (λ apart. elim (below-or-here sizes at e other f low) [
          | inl lower ↦ below.marked other f lower
          | inr here ↦ absurd (apart (ap (place z.shape) here))
        ]);
  }

  -- with its mark if it passes, and else as they were
  pub marked-if : HasSizes z → (at : ℕ) (e : EntryAt z at) (marks : List ℕ) → place z.shape at ≤ z.shape.limit / 4 → MarkedBelow test z at marks
      → MarkedBelow test z (at + (e.here).size) (if test z.heap.table (e.here).kind then set marks (place z.shape at) 1 else marks)
  marked-if sizes at e marks inside below = by_test (test z.heap.table (e.here).kind) refl
    where
      by_test : (b : Bool) → test z.heap.table (e.here).kind ≡ b → MarkedBelow test z (at + (e.here).size) (if b then set marks (place z.shape at) 1 else marks)
      by_test true is = marked-on sizes at e marks 1 inside (λ passes. let one : 1 ≤ 1 = omega arith in one) below
      by_test false is = record {
        places = below.places;
        marked = λ other f low. elim (below-or-here sizes at e other f low) [
          | inl lower ↦ below.marked other f lower
          | inr here ↦ (let yes = passes-only test z sizes e (subst (PassesAt test z) here f) in absurd (cc (yes, is)))
        ];
      }

  -- where no block is left all are marked
  pub marked-all : HasSizes z → (at : ℕ) (s : SplitAt z at) (marks : List ℕ) → s.after ≡ [] → MarkedBelow test z at marks → AreMarked test z marks
  marked-all sizes at s marks none below = record {
    places = below.places;
    marked = λ other f.
        let n = of-passing test z other f in
        let there = n.1 in
        let place = s.place in
        let inside = passing-below (test z.heap.table) z.shape z.heap.map n.0 sizes n.2 in
        let all = ap total_size s.map ∙ total_size-append s.before s.after ∙ ap (λ (m : ZoneMap). total_size s.before + total_size m) none in
        below.marked other f (omega arith);
  }

-- ---- the walk

-- the blocks below an address have their marks
pub record Marking (z : ZoneState) (at : ℕ) (marks purgeable : List ℕ) : Type 0 where
  pub split : SplitAt z at
  pub fixed : MarkedBelow is_fixed z at marks
  pub goes : MarkedBelow may_go z at purgeable

module _ (z : ZoneState) (at : ℕ) where
  pub marking-first : (marks purgeable : List ℕ) → length marks ≡ z.shape.limit / 4 + 1 → length purgeable ≡ z.shape.limit / 4 + 1
      → at ≡ address_after z.shape [] → Marking z at marks purgeable
  marking-first marks purgeable fixed goes first = record {
    split = record { before = []; after = z.heap.map; map = refl; place = first };
    fixed = none_below is_fixed z at marks fixed first;
    goes = none_below may_go z at purgeable goes first;
  }

  -- the marks of the block that is there are written
  pub marking-on : HasSizes z → (e : EntryAt z at) (here : Entry) → here ≡ e.here → (p : ℕ) → p ≡ place z.shape at → place z.shape at ≤ z.shape.limit / 4
      → (marks purgeable fixed goes : List ℕ) → fixed ≡ (if is_fixed z.heap.table here.kind then set marks p 1 else marks)
      → goes ≡ (if may_go z.heap.table here.kind then set purgeable p 1 else purgeable) → Marking z at marks purgeable → Marking z (at + here.size) fixed goes
  marking-on sizes e here is p there inside marks purgeable fixed goes fixed_is goes_is m =
      subst (λ (n : Entry). fixed ≡ (if is_fixed z.heap.table n.kind then set marks p 1 else marks) → goes ≡ (if may_go z.heap.table n.kind then set purgeable p 1 else purgeable) → Marking z (at + n.size) fixed goes)
      (sym is) marked fixed_is goes_is
    where
      marked : fixed ≡ (if is_fixed z.heap.table (e.here).kind then set marks p 1 else marks)
          → goes ≡ (if may_go z.heap.table (e.here).kind then set purgeable p 1 else purgeable) → Marking z (at + (e.here).size) fixed goes
      marked fixed_is goes_is =
          let all = total_size-append e.before (e.here ∷ []) in
          let place_is = e.place in
          record {
            split = record { before = e.before ++ e.here ∷ []; after = e.after; map = e.map ∙ sym (append_assoc e.before (e.here ∷ []) e.after); place = omega arith };
            fixed = subst (MarkedBelow is_fixed z (at + (e.here).size)) (sym (fixed_is ∙ ap (λ p. (if is_fixed z.heap.table (e.here).kind then set marks p 1 else marks)) there))
                (marked-if is_fixed z sizes at e marks inside m.fixed);
            goes = subst (MarkedBelow may_go z (at + (e.here).size)) (sym (goes_is ∙ ap (λ p. (if may_go z.heap.table (e.here).kind then set purgeable p 1 else purgeable)) there))
                (marked-if may_go z sizes at e purgeable inside m.goes);
          }

  -- at the zone's end each block that passes has its mark
  pub marking-fixed : (marks purgeable : List ℕ) → HasSizes z → Marking z at marks purgeable → address_after z.shape z.heap.map ≤ at → AreMarked is_fixed z marks
  marking-fixed marks purgeable sizes m end = marked-all is_fixed z sizes at m.split marks (split-none z at m.split sizes end) m.fixed

  pub marking-goes : (marks purgeable : List ℕ) → HasSizes z → Marking z at marks purgeable → address_after z.shape z.heap.map ≤ at → AreMarked may_go z purgeable
  marking-goes marks purgeable sizes m end = marked-all may_go z sizes at m.split purgeable (split-none z at m.split sizes end) m.goes
