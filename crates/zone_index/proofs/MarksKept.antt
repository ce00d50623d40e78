-- When marks stay right.
use Rattle.std.proofs.Common.{◌≡◌, ℕ, Bool, true, false, eqb, ◌+◌, ◌/◌, ◌<◌, ◌≤◌, List, length, set, slice_index, [], ◌∷◌, refl, ap, sym, ◌∙◌, subst, inl, inr, arith}
use Rattle.std.specs.Prelude.{◌⊎◌}
use Rattle.std.proofs.lemmas.Bool.{false≢true, eqb-true}
use Rattle.std.proofs.lemmas.List.{length-set, get_or-set_same, get_or-set_other}
use Rattle.mac_base.specs.declared.block.Kind.{Kind}
use Rattle.mac_base.specs.HandleTable.{HandleTable}
use Rattle.mac_base.specs.HeadKind.{Shape}
use Rattle.mac_base.specs.ZoneMap.{address_after}
use Rattle.mac_base.specs.ZoneState.{ZoneState}
use Rattle.linked_zone.specs.Fit.{HasSizes}
use Rattle.linked_zone.specs.Places.{EntryAt}
use Rattle.zone_laws.proofs.GapApart.{sizes_possible}
use Rattle.zone_laws.proofs.Tables.{eqb_same}
use Rattle.zone_index.specs.Marks.{place, AreMarked}
use Rattle.zone_index.proofs.Passing.{HasPassing, of-passing, to-passing}
use Rattle.zone_index.proofs.Sizes.{all_parts, even_bytes}

-- what is read once a number is written
pub written-read : (marks : List ℕ) (i j : ℕ) (v : ℕ) → i < length marks → ((i ≡ j → 1 ≤ v)) → ((j ≡ i → ⊥) → 1 ≤ slice_index marks j) → 1 ≤ slice_index (set marks i v) j
written-read marks i j v inside here other = elim (eqb j i) as (λ b. eqb j i ≡ b → 1 ≤ slice_index (set marks i v) j) [
  | true ↦ λ same. let at : j ≡ i = eqb-true j i same in subst (λ j. 1 ≤ slice_index (set marks i v) j) (sym at) (subst (λ n. 1 ≤ n) (sym (get_or-set_same marks i v 0 inside)) (here (sym at)))
  | false ↦ λ apart. let differ : j ≡ i → ⊥ = λ same. false≢true (sym apart ∙ (ap (λ k. eqb k i) same ∙ eqb_same i)) in subst (λ n. 1 ≤ n) (sym (get_or-set_other marks i j v 0 differ)) (other differ)
] refl

-- where blocks have bytes two of them have two places
pub places-apart : (z : ZoneState) (at other : ℕ) → HasSizes z → EntryAt z at → EntryAt z other → place z.shape at ≡ place z.shape other → at ≡ other
places-apart z at other sizes e f same =
    let here = even_bytes z.shape e.before (all_parts _ e.before (e.here ∷ e.after) (ap (sizes_possible z.shape) (sym e.map) ∙ sizes)).0 in
    let there = even_bytes z.shape f.before (all_parts _ f.before (f.here ∷ f.after) (ap (sizes_possible z.shape) (sym f.map) ∙ sizes)).0 in
    let first = e.place in
    let second = f.place in
    omega (arith, here, there, first, second, same)

module _ (test : HandleTable → Kind → Bool) where
  -- each block that passes in the new zone did so in the old one
  abbrev pub NoneNew : ZoneState → ZoneState → Type 0
  NoneNew old new = (n : ℕ) → HasPassing (test new.heap.table) new.heap.map n → HasPassing (test old.heap.table) old.heap.map n

  -- or is so many bytes after the first
  abbrev pub OneNew : ZoneState → ZoneState → ℕ → Type 0
  OneNew old new there = (n : ℕ) → HasPassing (test new.heap.table) new.heap.map n → HasPassing (test old.heap.table) old.heap.map n ⊎ (n ≡ there)

  -- then the marks stay right
  pub still-marked : (old new : ZoneState) (marks : List ℕ) → new.shape ≡ old.shape → NoneNew old new → AreMarked test old marks → AreMarked test new marks
  still-marked old new marks shape none are = record {
    places = are.places ∙ ap (λ (s : Shape). s.limit / 4 + 1) (sym shape);
    marked = λ at f.
        let n = of-passing test new at f in
        subst (λ (s : Shape). 1 ≤ slice_index marks (place s at)) (sym shape) (are.marked at (to-passing test old at n.0 (n.1 ∙ ap (λ s. address_after s [] + n.0) shape) (none n.0 n.2)));
  }

  -- a mark is set where the new one is
  pub marked-there : (old new : ZoneState) (marks : List ℕ) (at n : ℕ) → new.shape ≡ old.shape → at ≡ address_after old.shape [] + n → place old.shape at ≤ old.shape.limit / 4 → OneNew old new n → AreMarked test old marks
      → AreMarked test new (set marks (place old.shape at) 1)
  marked-there old new marks at n shape there inside one are = record {
    places = length-set marks (place old.shape at) 1 ∙ (are.places ∙ ap (λ (s : Shape). s.limit / 4 + 1) (sym shape));
    marked = λ other f.
        let m = of-passing test new other f in
        let stands : other ≡ address_after old.shape [] + m.0 = m.1 ∙ ap (λ s. address_after s [] + m.0) shape in
        subst (λ (s : Shape). 1 ≤ slice_index (set marks (place old.shape at) 1) (place s other)) (sym shape)
        (written-read marks (place old.shape at) (place old.shape other) 1 (let whole = are.places in omega arith) (λ _. omega arith) (λ apart. elim (one m.0 m.2) [
          | inl was ↦ are.marked other (to-passing test old other m.0 stands was)
          | inr new ↦ let same : other ≡ at = omega arith in absurd (apart (ap (place old.shape) same))
        ]));
  }

  -- the mark of a block that doesn't pass is cleared
  pub cleared-there : (old new : ZoneState) (marks : List ℕ) (at n : ℕ) → new.shape ≡ old.shape → HasSizes old → EntryAt old at → at ≡ address_after old.shape [] + n → place old.shape at ≤ old.shape.limit / 4
      → NoneNew old new → (HasPassing (test new.heap.table) new.heap.map n → ⊥) → AreMarked test old marks → AreMarked test new (set marks (place old.shape at) 0)
  cleared-there old new marks at n shape sizes entry there inside none gone are = record {
    places = length-set marks (place old.shape at) 0 ∙ (are.places ∙ ap (λ (s : Shape). s.limit / 4 + 1) (sym shape));
    marked = λ other f.
        let m = of-passing test new other f in
        let stands : other ≡ address_after old.shape [] + m.0 = m.1 ∙ ap (λ s. address_after s [] + m.0) shape in
        let was = to-passing test old other m.0 stands (none m.0 m.2) in
        subst (λ (s : Shape). 1 ≤ slice_index (set marks (place old.shape at) 0) (place s other)) (sym shape)
        (written-read marks (place old.shape at) (place old.shape other) 0 (let whole = are.places in omega arith)
        (λ same. absurd (gone (subst (HasPassing (test new.heap.table) new.heap.map) (let at_one : at ≡ other = places-apart old at other sizes entry was.entry same in let here : m.0 ≡ n = omega arith in here) m.2)))
        (λ apart. are.marked other was));
  }
