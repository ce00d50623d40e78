-- The texts of resources.
use Rattle.std.specs.Prelude.{◌≡◌, ℕ, ◌==◌, ◌&&◌, Bool, true, false, List, [], ◌∷◌, ◌++◌, drop, bytes_eq, Option, None, Some, Result, Ok, Err}
use Rattle.std.specs.List.{flat_map}
use Rattle.std.specs.Ordering.{int_eq}
use Rattle.fork_bytes.specs.Rows.{Row}
use Rattle.fork_change.specs.Rows.{id_of}
use Rattle.fork_change.specs.declared.row.ResourceId.{ResourceId}
use Rattle.res_types.specs.declared.value.Part.{Part}
use Rattle.res_types.specs.declared.value.Part.TheVariants as parts
use Rattle.res_types.specs.Bits.{byte_bits}
use Rattle.res_types.specs.Meaning.{decode}
use Rattle.fork_texts.specs.declared.entry.Entry.{Entry}
use Rattle.fork_texts.specs.declared.kinds.TextType.{TextType}
use Rattle.fork_texts.specs.declared.place.Before.{Before}
use Rattle.fork_texts.specs.declared.place.Place.{Place}
use Rattle.fork_texts.specs.declared.place.Place.TheVariants as places
use Rattle.fork_texts.specs.Kinds.{type_of}
use Rattle.fork_texts.specs.Places.{after, place_at, start}

-- a part as a text of its resource, if it has a place
abbrev pub shown_part : ResourceId → Option Place → Part → List Entry
shown_part what (Some place) (parts.Text text) = record { what = what; place = place; text = text } ∷ []
shown_part what (Some place) (parts.Number n) = []
shown_part what (Some place) (parts.Elements n) = []
shown_part what (Some place) (parts.Case chosen) = []
shown_part what None part = []

-- the texts among parts, in their order
abbrev pub shown : ResourceId → Before → List Part → List Entry
shown what before [] = []
shown what before (part ∷ others) = shown_part what (place_at before part) part ++ shown what (after before part) others

-- a part with the first of these texts, if there is one
abbrev pub first_put : Part → List Entry → Part
first_put part [] = part
first_put part (first ∷ others) = parts.Text first.text

-- the same, where it has a place; and the texts after that
abbrev pub part_put : Option Place → Part → List Entry → Part
part_put None part texts = part
part_put (Some place) part texts = first_put part texts

abbrev pub texts_left : Option Place → List Entry → List Entry
texts_left None texts = texts
texts_left (Some place) texts = drop 1 texts

-- the parts with these texts, one after the other, where a text has a place; all other parts stay
abbrev pub filled : Before → List Part → List Entry → List Part
filled before [] texts = []
filled before (part ∷ others) texts =
    part_put (place_at before part) part texts ∷ filled (after before part) others (texts_left (place_at before part) texts)

-- the name of a row as a text
abbrev pub name_entries : Row → List Entry
name_entries row = elim row.name [ None ↦ [] | Some name ↦ record { what = id_of row; place = places.Name; text = name } ∷ [] ]

-- the texts of parts, if there are some
abbrev pub texts_in : ResourceId → TextType → Result (List Part) ℕ → List Entry
texts_in what one (Ok found) = shown what (start one.naming) found
texts_in what one (Err left) = []

-- the texts of a row of a type
abbrev pub typed_texts : Option TextType → Row → List Entry
typed_texts None row = []
typed_texts (Some one) row = texts_in (id_of row) one (decode one.declaration (byte_bits row.datum))

-- the name and the texts of a row
unfoldable pub entries_of : List TextType → Row → List Entry
entries_of types row = name_entries row ++ typed_texts (type_of types row.kind) row

-- parts are there
abbrev pub is_there : Result (List Part) ℕ → Bool
is_there (Ok found) = true
is_there (Err left) = false

-- whether the bytes of a row are of its type, if that is one of these
abbrev pub typed : Option TextType → Row → Bool
typed None row = true
typed (Some one) row = is_there (decode one.declaration (byte_bits row.datum))

unfoldable pub is_typed : List TextType → Row → Bool
is_typed types row = typed (type_of types row.kind) row

-- whether places are the same
abbrev pub same_place : Place → Place → Bool
same_place places.Name places.Name = true
same_place places.Whole places.Whole = true
same_place places.Title places.Title = true
same_place places.Short places.Short = true
same_place places.Long places.Long = true
same_place (places.Numbered n) (places.Numbered m) = n == m
same_place some other = false

-- whether a text is where another one is
abbrev pub is_at : Entry → Entry → Bool
is_at entry other = (bytes_eq entry.what.kind other.what.kind && int_eq entry.what.id other.what.id) && same_place entry.place other.place
