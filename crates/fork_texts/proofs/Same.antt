-- Texts in the same places.
use Rattle.std.proofs.Common.{◌≡◌, ℕ, ℤ, true, List, refl, sym, ap, ◌∙◌}
use Rattle.std.specs.Prelude.{◌&&◌, bytes_eq}
use Rattle.std.specs.Ordering.{int_eq}
use Rattle.std.proofs.lemmas.Bool.{and_from, and_parts, eq-eqb, eqb-true, false≢true}
use Rattle.std.proofs.lemmas.Bool.Decides.{Decides-int_eq}
use Rattle.std.proofs.lemmas.Slice.Eq.{bytes_eq-Decides}
use Rattle.fork_change.specs.declared.row.ResourceId.{ResourceId}
use Rattle.fork_texts.specs.declared.entry.Entry.{Entry}
use Rattle.fork_texts.specs.declared.place.Place.{Place}
use Rattle.fork_texts.specs.declared.place.Place.TheVariants.{Name, Whole, Title, Short, Long, Numbered}
use Rattle.fork_texts.specs.Texts.{is_at, same_place}

place_is : (some other : Place) → same_place some other ≡ true → some ≡ other
place_is Name Name same = refl
place_is Whole Whole same = refl
place_is Title Title same = refl
place_is Short Short same = refl
place_is Long Long same = refl
place_is (Numbered n) (Numbered m) same = ap (λ (k : ℕ). Numbered k) (eqb-true n m same)
place_is some other same = absurd (false≢true same)

place_self : (place : Place) → same_place place place ≡ true
place_self Name = refl
place_self Whole = refl
place_self Title = refl
place_self Short = refl
place_self Long = refl
place_self (Numbered n) = eq-eqb n n refl

-- an entry of its parts
abbrev made : List ℕ → ℤ → Place → List ℕ → Entry
made kind id place text = record { what = record { kind = kind; id = id }; place = place; text = text }

-- the same place and the same text are the same entry
pub entry_is : (entry other : Entry) → (is_at entry other && bytes_eq entry.text other.text) ≡ true → entry ≡ other
entry_is entry other same =
    let parts = and_parts (is_at entry other) (bytes_eq entry.text other.text) same in
    let at = and_parts (bytes_eq entry.what.kind other.what.kind && int_eq entry.what.id other.what.id) (same_place entry.place other.place) parts.0 in
    let what = and_parts (bytes_eq entry.what.kind other.what.kind) (int_eq entry.what.id other.what.id) at.0 in
    ap (λ (kind : List ℕ). made kind entry.what.id entry.place entry.text) ((bytes_eq-Decides entry.what.kind other.what.kind).0 what.0)
    ∙ ap (λ (id : ℤ). made other.what.kind id entry.place entry.text) ((Decides-int_eq entry.what.id other.what.id).0 what.1)
    ∙ ap (λ (place : Place). made other.what.kind other.what.id place entry.text) (place_is entry.place other.place at.1)
    ∙ ap (λ (text : List ℕ). made other.what.kind other.what.id other.place text) ((bytes_eq-Decides entry.text other.text).0 parts.1)

-- an entry is where it is
pub at_self : (entry : Entry) → is_at entry entry ≡ true
at_self entry =
    and_from (bytes_eq entry.what.kind entry.what.kind && int_eq entry.what.id entry.what.id) (same_place entry.place entry.place)
    (and_from (bytes_eq entry.what.kind entry.what.kind) (int_eq entry.what.id entry.what.id) ((bytes_eq-Decides entry.what.kind entry.what.kind).1 refl) ((Decides-int_eq entry.what.id entry.what.id).1 refl))
    (place_self entry.place)
