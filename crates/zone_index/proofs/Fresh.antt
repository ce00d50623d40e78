-- Where a block becomes one that passes a test, its mark is set.
use Rattle.std.proofs.Common.{◌≡◌, ℕ, ◌+◌, ◌/◌, ◌≤◌, Bool, true, false, not, eqb, List, set, [], ◌∷◌, ◌++◌, Some, refl, ap, sym, ◌∙◌, subst, inl, inr, arith}
use Rattle.std.specs.Prelude.{◌⊎◌}
use Rattle.std.proofs.lemmas.Bool.{and_parts, false≢true, not-true}
use Rattle.mac_base.specs.declared.block.Flags.{Flags}
use Rattle.mac_base.specs.declared.block.Kind.{Kind}
use Rattle.mac_base.specs.declared.block.Kind.TheVariants.{Free, Master, Ptr, Rel}
use Rattle.mac_base.specs.Gap.{is_fixed}
use Rattle.mac_base.specs.HandleTable.{FullHandle, HandleTable, Pointer, bytes_of, is_full, live_at, with_flags, zeros}
use Rattle.mac_base.specs.HeadKind.{head_size}
use Rattle.mac_base.specs.ZoneMap.{ZoneMap, block, is_named, total_size}
use Rattle.mac_base.specs.ZoneState.{ZoneState}
use Rattle.zone_laws.proofs.GapApart.{sizes_possible}
use Rattle.zone_laws.proofs.Owners.{none_named}
use Rattle.zone_laws.proofs.Tables.{AgreeBut, live_at-with_live_same, with_live_agrees}
use Rattle.linked_zone.specs.Changes.{fixed, flagged, with_master}
use Rattle.linked_zone.specs.Fit.{Fits, HasSizes}
use Rattle.linked_zone.specs.Places.{BlockOf, EntryAt, FreeAt}
use Rattle.linked_zone.proofs.ChangeEmptied.{emptied-none_before, emptied-none_after}
use Rattle.zone_index.specs.Marks.{AreMarked, place}
use Rattle.zone_index.proofs.Passing.{HasPassing, passing-back, passing-front, passing-only, passing-split, passing-within}
use Rattle.zone_index.proofs.MarksKept.{OneNew, cleared-there, marked-there}
use Rattle.zone_index.proofs.MarksReplaced.{passing-added}
use Rattle.zone_index.proofs.Rules.{Lives, Rule, fixes, kinds-within, lives-same, lives-with_live}

-- of blocks that h doesn't name those pass that did so, where no other handle does newly
others-within : (r : Rule) (new old : HandleTable) (h : ℕ) → ((y : ℕ) → eqb y h ≡ false → r.live (live_at new y) ≡ true → r.live (live_at old y) ≡ true) → (m : ZoneMap) (n : ℕ) → none_named h m ≡ true → HasPassing (r.test new) m n → HasPassing (r.test old) m n
others-within r new old h others [] n none f = f
others-within r new old h others (e ∷ es) n none f =
    let parts = and_parts (not (is_named h e.kind)) (none_named h es) none in
    elim f [
      | inl here ↦ inl (here.0, by_kind e.kind (not-true _ parts.0) here.1)
      | inr later ↦ inr (later.0, later.1, others-within r new old h others es later.0 parts.1 later.2)
    ]
  where
    by_kind : (k : Kind) → is_named h k ≡ false → r.test new k ≡ true → r.test old k ≡ true
    by_kind Free apart f = absurd (false≢true (sym (r.free new) ∙ f))
    by_kind Master apart f = sym (r.master new old) ∙ f
    by_kind (Ptr p) apart f = sym (r.pointer new old p) ∙ f
    by_kind (Rel y) apart f = r.handle old y ∙ others y apart (sym (r.handle new y) ∙ f)

-- a free block is a fixed one
module _ (z : ZoneState) (marks : List ℕ) (are : AreMarked is_fixed z marks) where
  taken-marked : (new : ZoneState) (at : ℕ) (free : FreeAt z at) (kind : Kind) → new.shape ≡ z.shape → Lives fixes new.heap.table z.heap.table → new.heap.map ≡ free.before ++ block kind free.size ∷ free.after → place z.shape at ≤ z.shape.limit / 4
      → AreMarked is_fixed new (set marks (place z.shape at) 1)
  taken-marked new at free kind shape lives map inside =
      let here = free.place in
      let now = is_fixed new.heap.table in
      let old = is_fixed z.heap.table in
      marked-there is_fixed z new marks at (total_size free.before) shape (omega arith) inside (λ n h.
      subst (λ m. HasPassing old m n ⊎ (n ≡ total_size free.before)) (sym free.map)
      (passing-added now old (kinds-within fixes new.heap.table z.heap.table lives) refl free.before (block Free free.size ∷ []) (block kind free.size ∷ []) free.after refl (λ k f. elim f [
        | inl first ↦ first.0
        | inr later ↦ absurd later.2
      ]) n (subst (λ m. HasPassing now m n) map h))) are

  pub fixed-marked : (n at : ℕ) (free : FreeAt z at) → place z.shape at ≤ z.shape.limit / 4 → AreMarked is_fixed (fixed n z free) (set marks (place z.shape at) 1)
  fixed-marked n at free inside =
      let p = at + head_size z.shape.heads in
      taken-marked (fixed n z free) at free (Ptr p) refl (lives-with_live fixes p (Pointer (zeros n)) z.heap.table refl) refl inside

  pub master-marked : (at : ℕ) (free : FreeAt z at) → place z.shape at ≤ z.shape.limit / 4 → AreMarked is_fixed (with_master z free) (set marks (place z.shape at) 1)
  master-marked at free inside = taken-marked (with_master z free) at free Master refl (lives-same fixes z.heap.table) refl inside

-- a handle has other flags
module _ (r : Rule) (z : ZoneState) (marks : List ℕ) (are : AreMarked r.test z marks) (h at : ℕ) (flags : Flags) (fits : Fits z) (sizes : HasSizes z) (full : is_full z.heap.table h ≡ true) (b : BlockOf z h at) (inside : place z.shape at ≤ z.shape.limit / 4) where
  abbrev new : HandleTable
  new = with_flags h flags z.heap.table

  abbrev passes : Bool
  passes = r.live (Some (FullHandle flags (bytes_of z.heap.table h)))

  agree : AgreeBut h z.heap.table new
  agree = with_live_agrees h (FullHandle flags (bytes_of z.heap.table h)) z.heap.table

  others : (y : ℕ) → eqb y h ≡ false → r.live (live_at new y) ≡ true → r.live (live_at z.heap.table y) ≡ true
  others y apart f = ap r.live (sym (agree.others y apart)) ∙ f

  -- it may pass now
  passing-one : OneNew r.test z (flagged h flags z) (total_size b.before)
  passing-one n f = subst (λ m. HasPassing (r.test z.heap.table) m n ⊎ (n ≡ total_size b.before)) (sym b.map)
      (elim (passing-split (r.test new) b.before (block (Rel h) b.size ∷ b.after) n (subst (λ m. HasPassing (r.test new) m n) b.map f)) [
        | inl low ↦ inl (passing-front (r.test z.heap.table) b.before _ n (others-within r new z.heap.table h others b.before n (emptied-none_before z h fits full at b) low))
        | inr up ↦ elim up.2 [
          | inl here ↦ inr (let none = here.0 in let there = up.1 in omega arith)
          | inr later ↦ inl (passing-back (r.test z.heap.table) b.before _ n up.0 up.1 (inr (later.0, later.1, others-within r new z.heap.table h others b.after later.0 (emptied-none_after z h fits full at b) later.2)))
        ]
      ])

  abbrev entry : EntryAt z at
  entry = record { before = b.before; here = block (Rel h) b.size; after = b.after; map = b.map; place = b.place }

  passes-marked : AreMarked r.test (flagged h flags z) (set marks (place z.shape at) 1)
  passes-marked = let here = b.place in marked-there r.test z (flagged h flags z) marks at (total_size b.before) refl (omega arith) inside passing-one are

  -- it doesn't
  fails-marked : passes ≡ false → AreMarked r.test (flagged h flags z) (set marks (place z.shape at) 0)
  fails-marked fails =
      let here = b.place in
      cleared-there r.test z (flagged h flags z) marks at (total_size b.before) refl sizes entry (omega arith) inside
      (passing-within (r.test new) (r.test z.heap.table) (kinds-within r new z.heap.table (lives-with_live r h (FullHandle flags (bytes_of z.heap.table h)) z.heap.table fails)) z.heap.map)
      (λ f. false≢true (sym fails ∙ (sym (r.handle new h ∙ ap r.live (live_at-with_live_same h (FullHandle flags (bytes_of z.heap.table h)) z.heap.table))
      ∙ passing-only (r.test new) z.shape b.before (block (Rel h) b.size) b.after (ap (sizes_possible z.shape) (sym b.map) ∙ sizes) (subst (λ m. HasPassing (r.test new) m (total_size b.before)) b.map f)))) are

  -- the mark says which
  pub flagged-marked : (mark : ℕ) → (passes ≡ true → mark ≡ 1) → (passes ≡ false → mark ≡ 0) → AreMarked r.test (flagged h flags z) (set marks (place z.shape at) mark)
  flagged-marked mark one none = elim passes as (λ c. passes ≡ c → AreMarked r.test (flagged h flags z) (set marks (place z.shape at) mark)) [
    | true ↦ λ is. subst (λ v. AreMarked r.test (flagged h flags z) (set marks (place z.shape at) v)) (sym (one is)) passes-marked
    | false ↦ λ is. subst (λ v. AreMarked r.test (flagged h flags z) (set marks (place z.shape at) v)) (sym (none is)) (fails-marked is)
  ] refl
