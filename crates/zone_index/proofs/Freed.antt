-- Where a block becomes free, marks stay right, and its own is cleared.
use Rattle.std.proofs.Common.{◌≡◌, ℕ, ◌+◌, ◌/◌, ◌≤◌, Bool, false, List, set, slice_index, [], ◌∷◌, ◌++◌, refl, ap, sym, ◌∙◌, subst, inl, inr, arith}
use Rattle.std.specs.Prelude.{if◌then◌else◌}
use Rattle.std.proofs.lemmas.Bool.{false≢true}
use Rattle.std.proofs.lemmas.List.{length-set}
use Rattle.mac_base.specs.declared.block.Kind.{Kind}
use Rattle.mac_base.specs.declared.block.Kind.TheVariants.{Free, Rel}
use Rattle.mac_base.specs.Gap.{is_fixed}
use Rattle.mac_base.specs.HandleTable.{EmptyHandle, bytes_of, is_locked, resized}
use Rattle.mac_base.specs.ZoneMap.{ZoneMap, address_after, block, is_named, total_size}
use Rattle.mac_base.specs.ZoneState.{ZoneState}
use Rattle.zone_laws.proofs.GapApart.{sizes_possible}
use Rattle.zone_laws.proofs.Tables.{eqb_same}
use Rattle.zone_laws.proofs.SuitsReleased.{total_size-freed}
use Rattle.linked_zone.specs.Changes.{freed, relocated, unfixed, without_block}
use Rattle.linked_zone.specs.Fit.{HasSizes}
use Rattle.linked_zone.specs.Places.{BlockOf, EntryAt, FreeAt, NamedAt}
use Rattle.zone_index.specs.Marks.{AreMarked, PassesAt, place}
use Rattle.zone_index.specs.Purging.{may_go}
use Rattle.zone_index.proofs.Passing.{HasPassing, Within, of-passing, passing-back, passing-front, passing-split, passes-only, to-passing}
use Rattle.zone_index.proofs.MarksKept.{cleared-there, places-apart, still-marked, written-read}
use Rattle.zone_index.proofs.MarksReplaced.{freed-gone, passing-freed, passing-replaced}
use Rattle.zone_index.proofs.Rules.{Lives, Rule, fixes, goes, kinds-within, lives-with_bytes, lives-with_live, lives-without}

-- the parts of a map in which the block of x is free
pub freed-append : (x : ℕ) (a b : ZoneMap) → freed x (a ++ b) ≡ freed x a ++ freed x b
freed-append x [] b = refl
freed-append x (e ∷ a) b = ap (λ (m : ZoneMap). (if is_named x e.kind then block Free e.size else e) ∷ m) (freed-append x a b)

module _ (r : Rule) (z : ZoneState) (marks : List ℕ) (are : AreMarked r.test z marks) where
  -- the block of x is free, and no more handles pass
  pub freed-marked : (new : ZoneState) (x at : ℕ) → new.shape ≡ z.shape → Lives r new.heap.table z.heap.table → new.heap.map ≡ freed x z.heap.map → HasSizes z → NamedAt z x at → place z.shape at ≤ z.shape.limit / 4
      → AreMarked r.test new (set marks (place z.shape at) 0)
  freed-marked new x at shape lives map sizes named inside =
      let here = named.place in
      let now = r.test new.heap.table in
      let none = r.free new.heap.table in
      let old = r.test z.heap.table in
      cleared-there r.test z new marks at (total_size named.before) shape sizes (record { before = named.before; here = named.here; after = named.after; map = named.map; place = named.place }) (omega arith) inside
      (λ n h. passing-freed now old (kinds-within r new.heap.table z.heap.table lives) none x z.heap.map n (subst (λ m. HasPassing now m n) map h))
      (λ h. freed-gone now none z.shape x named.before named.here named.after (ap (sizes_possible z.shape) (sym named.map) ∙ sizes) named.named (subst (λ m. HasPassing now m (total_size named.before)) (map ∙ ap (freed x) named.map) h)) are

  pub emptied-marked : (h at : ℕ) → HasSizes z → BlockOf z h at → place z.shape at ≤ z.shape.limit / 4 → AreMarked r.test (without_block h z) (set marks (place z.shape at) 0)
  emptied-marked h at sizes b inside = freed-marked (without_block h z) h at refl (lives-with_live r h EmptyHandle z.heap.table r.empty) refl sizes
      (record { before = b.before; here = block (Rel h) b.size; after = b.after; map = b.map; place = b.place; named = eqb_same h }) inside

  pub unfixed-marked : (p at : ℕ) → HasSizes z → NamedAt z p at → place z.shape at ≤ z.shape.limit / 4 → AreMarked r.test (unfixed p z) (set marks (place z.shape at) 0)
  unfixed-marked p at sizes named inside = freed-marked (unfixed p z) p at refl (lives-without r p z.heap.table) refl sizes named inside

  -- marks of blocks that are free now may stay
  pub unfixed-kept : (p : ℕ) → AreMarked r.test (unfixed p z) marks
  unfixed-kept p =
      let new = unfixed p z in
      still-marked r.test z new marks refl (λ n h. passing-freed (r.test new.heap.table) (r.test z.heap.table) (kinds-within r new.heap.table z.heap.table (lives-without r p z.heap.table)) (r.free new.heap.table) p z.heap.map n h) are

module _ (z : ZoneState) (marks : List ℕ) (are : AreMarked is_fixed z marks) where
  -- the block of an unlocked handle is another
  pub relocated-marked : (h n at : ℕ) (free : FreeAt z at) → is_locked z.heap.table h ≡ false → AreMarked is_fixed (relocated h n z free) marks
  relocated-marked h n at free unlocked =
      let new = relocated h n z free in
      let p = is_fixed new.heap.table in
      let within = kinds-within fixes new.heap.table z.heap.table (lives-with_bytes fixes h (resized n (bytes_of z.heap.table h)) z.heap.table) in
      still-marked is_fixed z new marks refl (λ k f.
      passing-freed p (is_fixed z.heap.table) within refl h z.heap.map k
      (subst (λ m. HasPassing p m k) (sym (ap (freed h) free.map ∙ freed-append h free.before (block Free free.size ∷ free.after)))
      (passing-replaced p p (λ k is. is) refl (freed h free.before) (block Free free.size ∷ []) (block (Rel h) free.size ∷ []) (freed h free.after) refl
      (λ j g. elim g [
        | inl here ↦ absurd (false≢true (sym unlocked ∙ within (Rel h) here.1))
        | inr later ↦ absurd later.2
      ]) k f))) are

-- where the block of a handle is another, its mark goes there
module _ (z : ZoneState) (marks : List ℕ) (are : AreMarked may_go z marks) (sizes : HasSizes z) (h n old at : ℕ) (free : FreeAt z at) (b : BlockOf z h old) (old_inside : place z.shape old ≤ z.shape.limit / 4) (inside : place z.shape at ≤ z.shape.limit / 4) where
  abbrev new : ZoneState
  new = relocated h n z free

  abbrev p : Kind → Bool
  p = may_go new.heap.table

  within : Within p (may_go z.heap.table)
  within = kinds-within goes new.heap.table z.heap.table (lives-with_bytes goes h (resized n (bytes_of z.heap.table h)) z.heap.table)

  abbrev cleared : List ℕ
  cleared = set marks (place z.shape old) 0

  abbrev now : List ℕ
  now = set cleared (place z.shape at) (slice_index marks (place z.shape old))

  abbrev free_entry : EntryAt z at
  free_entry = record { before = free.before; here = block Free free.size; after = free.after; map = free.map; place = free.place }

  abbrev old_entry : EntryAt z old
  old_entry = record { before = b.before; here = block (Rel h) b.size; after = b.after; map = b.map; place = b.place }

  -- another block passed before
  other-block : (other k : ℕ) → other ≡ address_after z.shape [] + k → HasPassing p (freed h free.before ++ block Free free.size ∷ freed h free.after) k → 1 ≤ slice_index now (place z.shape other)
  other-block other k there f =
      let gone = subst (λ m. HasPassing p m k) (sym (ap (freed h) free.map ∙ freed-append h free.before (block Free free.size ∷ free.after))) f in
      let was = to-passing may_go z other k there (passing-freed p (may_go z.heap.table) within refl h z.heap.map k gone) in
      let whole = are.places in
      written-read cleared (place z.shape at) (place z.shape other) _ (let long = length-set marks (place z.shape old) 0 in omega arith)
      (λ same. let is = places-apart z at other sizes free_entry was.entry same in absurd (false≢true (passes-only may_go z sizes free_entry (subst (PassesAt may_go z) (sym is) was))))
      (λ _. written-read marks (place z.shape old) (place z.shape other) 0 (omega arith)
      (λ same.
      let is = places-apart z old other sizes old_entry was.entry same in
      let here = b.place in
      absurd (freed-gone p refl z.shape h b.before (block (Rel h) b.size) b.after (ap (sizes_possible z.shape) (sym b.map) ∙ sizes) (eqb_same h)
      (subst (λ m. HasPassing p (freed h m) (total_size b.before)) b.map (subst (HasPassing p (freed h z.heap.map)) (let i : k ≡ total_size b.before = omega arith in i) gone))))
      (λ _. are.marked other was))

  pub moved-marked : AreMarked may_go new now
  moved-marked = record { places = length-set cleared (place z.shape at) _ ∙ (length-set marks (place z.shape old) 0 ∙ are.places); marked = marked }
    where
      marked : (other : ℕ) → PassesAt may_go new other → 1 ≤ slice_index now (place z.shape other)
      marked other f =
          let k = of-passing may_go new other f in
          elim (passing-split p (freed h free.before) (block (Rel h) free.size ∷ freed h free.after) k.0 k.2) [
            | inl low ↦ other-block other k.0 k.1 (passing-front p (freed h free.before) _ k.0 low)
            | inr up ↦ elim up.2 [
              | inl here ↦
                  let stands : other ≡ at = let there = k.1 in let further = up.1 in let none = here.0 in let place = free.place in let same = total_size-freed h free.before in omega arith in
                  let mark = are.marked old (record { entry = old_entry; passes = within (Rel h) here.1 }) in
                  let whole = are.places in
                  written-read cleared (place z.shape at) (place z.shape other) _ (let long = length-set marks (place z.shape old) 0 in omega arith) (λ _. mark) (λ apart. absurd (apart (ap (place z.shape) stands)))
              | inr later ↦ other-block other k.0 k.1 (passing-back p (freed h free.before) _ k.0 up.0 up.1 (inr later))
            ]
          ]
