-- A row with other texts.
use Rattle.std.proofs.Common.{◌≡◌, ℕ, ℤ, Bool, List, [], ◌∷◌, ◌++◌, Option, None, Some, Result, Ok, Err, refl, sym, ap, ◌∙◌, subst}
use Rattle.fork_bytes.specs.Rows.{Row}
use Rattle.fork_change.specs.Rows.{id_of}
use Rattle.fork_change.specs.declared.row.ResourceId.{ResourceId}
use Rattle.res_types.specs.declared.value.Part.{Part}
use Rattle.res_types.specs.Bits.{byte_bits}
use Rattle.res_types.specs.Meaning.{decode, encode}
use Rattle.fork_texts.specs.declared.entry.Entry.{Entry}
use Rattle.fork_texts.specs.declared.kinds.TextType.{TextType}
use Rattle.fork_texts.specs.declared.place.Place.TheVariants as places
use Rattle.fork_texts.specs.Kinds.{type_of}
use Rattle.fork_texts.specs.Places.{start}
use Rattle.fork_texts.specs.Putting.{IsRowPut, PutsBytes, PutsParts, after_name, put_name}
use Rattle.fork_texts.specs.Texts.{entries_of, filled, name_entries, texts_in, typed_texts}

-- the texts of bits of a type
abbrev in_bits : ResourceId → TextType → List Bool → List Entry
in_bits what one bits = texts_in what one (decode one.declaration bits)

same_ok : (r : Result (List Bool) ℕ) (a b : List Bool) → r ≡ Ok a → r ≡ Ok b → a ≡ b
same_ok r a b one other = cc

same_parts : (what : ResourceId) (one : TextType) (texts : List Entry) (old a b : List ℕ) (found : Result (List Part) ℕ)
    → PutsParts one texts old a found → PutsParts one texts old b found → in_bits what one (byte_bits a) ≡ in_bits what one (byte_bits b)
same_parts what one texts old a b (Ok found) x y = ap (in_bits what one) (same_ok (encode one.declaration (filled (start one.naming) found texts)) (byte_bits a) (byte_bits b) x y)
same_parts what one texts old a b (Err left) x y = ap (λ (bytes : List ℕ). in_bits what one (byte_bits bytes)) (x ∙ sym y)

-- rows of the same type, id and name have the same texts where their bytes are put so
abbrev typed_in : Option TextType → ResourceId → List ℕ → List Entry
typed_in None what bytes = []
typed_in (Some one) what bytes = in_bits what one (byte_bits bytes)

typed_is : (found : Option TextType) (row : Row) → typed_texts found row ≡ typed_in found (id_of row) row.datum
typed_is None row = refl
typed_is (Some one) row = refl

same_bytes : (found : Option TextType) (what : ResourceId) (texts : List Entry) (old a b : List ℕ) → PutsBytes found texts old a → PutsBytes found texts old b
    → typed_in found what a ≡ typed_in found what b
same_bytes None what texts old a b x y = refl
same_bytes (Some one) what texts old a b x y = same_parts what one texts old a b (decode one.declaration (byte_bits old)) x y

-- the name as a text
abbrev named : ResourceId → Option (List ℕ) → List Entry
named what name = elim name [ None ↦ [] | Some name ↦ record { what = what; place = places.Name; text = name } ∷ [] ]

-- the texts of a row of its parts
abbrev entries_in : List TextType → List ℕ → ℤ → Option (List ℕ) → List ℕ → List Entry
entries_in types kind id name bytes =
    let what : ResourceId = record { kind = kind; id = id } in named what name ++ typed_in (type_of types kind) what bytes

entries_is : (types : List TextType) (row : Row) → entries_of types row ≡ entries_in types row.kind row.id row.name row.datum
unfolding entries_of
entries_is types row = ap (λ (t : List Entry). name_entries row ++ t) (typed_is (type_of types row.kind) row)

-- two rows that are put so have the same texts
pub same_shown : (types : List TextType) (row : Row) (texts : List Entry) (one other : Row)
    → one.kind ≡ row.kind → one.id ≡ row.id → one.name ≡ put_name row.name texts → PutsBytes (type_of types row.kind) (after_name row.name texts) row.datum one.datum
    → other.kind ≡ row.kind → other.id ≡ row.id → other.name ≡ put_name row.name texts → PutsBytes (type_of types row.kind) (after_name row.name texts) row.datum other.datum
    → entries_of types one ≡ entries_of types other
same_shown types row texts one other kind id name bytes kind' id' name' bytes' =
    let what : ResourceId = record { kind = row.kind; id = row.id } in
    let new : Option (List ℕ) = put_name row.name texts in
    let of : (r : Row) → r.kind ≡ row.kind → r.id ≡ row.id → r.name ≡ new → entries_of types r ≡ entries_in types row.kind row.id new r.datum =
    λ r a b c. entries_is types r ∙ ap (λ (k : List ℕ). entries_in types k r.id r.name r.datum) a ∙ ap (λ (i : ℤ). entries_in types row.kind i r.name r.datum) b ∙ ap (λ (n : Option (List ℕ)). entries_in types row.kind row.id n r.datum) c in
    of one kind id name
    ∙ ap (λ (t : List Entry). named what new ++ t) (same_bytes (type_of types row.kind) what (after_name row.name texts) row.datum one.datum other.datum bytes bytes')
    ∙ sym (of other kind' id' name')
