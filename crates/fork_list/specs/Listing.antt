-- Resources as text.
use Rattle.std.specs.Prelude.{ℕ, ℤ, ◌^◌, ◌-◌, ◌==◌, ◌&&◌, ◌||◌, Bool, not, nat_lt, if◌then◌else◌, List, [], ◌∷◌, ◌++◌, length, drop, slice_index, codes, bytes_eq, Option, None, Some}
use Rattle.std.specs.List.{find, flat_map, list_all, list_any}
use Rattle.std.specs.Fmt.{decimal, format_spec, styled_decimal, styled_signed_decimal}
use Rattle.mac_base.specs.declared.resource.ResAttrs.{ResAttrs}
use Rattle.mac_base.specs.declared.resource.Resource.{Resource}
use Rattle.fork_list.specs.declared.letters.Letters.{Letters}
use Rattle.fork_list.specs.Quoted.{escaped, quoted}
use Rattle.fork_list.specs.Attributes.{attributes_text}

-- the byte of a type at a place: a blank is padding where only blanks follow, but not in the first place, and else
-- `\x20`
abbrev pub cell_text : Letters → List ℕ → ℕ → List ℕ
cell_text letters kind at = let byte = slice_index kind at in
    if byte == 32 then (if nat_lt 0 at && list_all (λ byte. byte == 32) (drop at kind) then 32 ∷ [] else codes "\\x20")
    else escaped letters 39 byte

-- a type as a column
abbrev pub kind_text : Letters → List ℕ → List ℕ
kind_text letters kind = cell_text letters kind 0 ++ (cell_text letters kind 1 ++ (cell_text letters kind 2 ++ cell_text letters kind 3))

-- a name, with a space before it; nothing where there is none
abbrev pub name_text : Letters → Option (List ℕ) → List ℕ
name_text letters None = []
name_text letters (Some name) = 32 ∷ quoted letters 34 name

-- that a resource is compressed, with its length unpacked, and a space before; nothing of another one
abbrev pub unpacked_text : Option ℕ → List ℕ
unpacked_text None = []
unpacked_text (Some length) = codes " compressed:" ++ decimal length

-- a type, an id and a count of bytes to the right of columns, attributes, a name if there is one, and whether it is
-- compressed
abbrev pub cells_text : Letters → List ℕ → ℤ → ℕ → ResAttrs → Option (List ℕ) → Option ℕ → List ℕ
cells_text letters kind id count attributes name unpacked = kind_text letters kind ++ (32 ∷ (styled_signed_decimal (format_spec 32 3 0 6 (2 ^ 64 - 1)) id
    ++ (32 ∷ (styled_decimal (format_spec 32 3 0 8 (2 ^ 64 - 1)) count
    ++ (32 ∷ (attributes_text attributes.0 ++ (name_text letters name ++ unpacked_text unpacked)))))))

-- a row: its type, its id, how many bytes it has, its attributes, its name, and how many bytes it has unpacked
abbrev pub row_text : {X : Type 0} → (X → ℕ) → (ℕ → X → Option ℕ) → Letters → Resource X → List ℕ
row_text size unpacked letters row =
    cells_text letters row.kind row.id (size row.datum) row.attributes row.name (unpacked row.attributes.0 row.datum)

-- whether a type is one of these, where none are named for all
abbrev pub is_chosen : List (List ℕ) → List ℕ → Bool
is_chosen kinds kind = length kinds == 0 || list_any (λ one. bytes_eq one kind) kinds

-- whether a row has a type, and the first of these types that none has
abbrev pub has_kind : {X : Type 0} → List (Resource X) → List ℕ → Bool
has_kind rows kind = list_any (λ row. bytes_eq row.kind kind) rows

abbrev pub absent_kind : {X : Type 0} → List (List ℕ) → List (Resource X) → Option (List ℕ)
absent_kind kinds rows = find (λ kind. not (has_kind rows kind)) kinds

-- the line of a row, if its type is chosen
abbrev pub row_line : {X : Type 0} → (X → ℕ) → (ℕ → X → Option ℕ) → Letters → List (List ℕ) → Resource X → List ℕ
row_line size unpacked letters kinds row = if is_chosen kinds row.kind then row_text size unpacked letters row ++ 10 ∷ [] else []

-- a line for each row of these types
abbrev pub listing : {X : Type 0} → (X → ℕ) → (ℕ → X → Option ℕ) → Letters → List (List ℕ) → List (Resource X) → List ℕ
listing size unpacked letters kinds rows = flat_map (row_line size unpacked letters kinds) rows
