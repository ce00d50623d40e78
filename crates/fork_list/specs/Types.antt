-- Types as text.
use Rattle.std.specs.Prelude.{ℕ, ◌-◌, ◌^◌, ◌&&◌, Bool, true, not, if◌then◌else◌, List, [], ◌∷◌, ◌++◌, count_by, bytes_eq, Option, None, Some}
use Rattle.std.specs.Fmt.{format_spec, styled_decimal}
use Rattle.mac_base.specs.declared.resource.Resource.{Resource}
use Rattle.fork_list.specs.declared.letters.Letters.{Letters}
use Rattle.fork_list.specs.Listing.{is_chosen, kind_text}

-- whether a row after one of this type, or after none, is the first of its own
abbrev pub begins_type : Option (List ℕ) → List ℕ → Bool
begins_type None kind = true
begins_type (Some before) kind = not (bytes_eq before kind)

-- the line of a type at a row after one of this type: the type, and so many rows
abbrev pub counted_line : Letters → List (List ℕ) → Option (List ℕ) → List ℕ → ℕ → List ℕ
counted_line letters kinds before kind count =
    if begins_type before kind && is_chosen kinds kind
    then kind_text letters kind ++ (32 ∷ (styled_decimal (format_spec 32 3 0 6 (2 ^ 64 - 1)) count ++ 10 ∷ []))
    else []

-- the same, with how many of these rows have it
abbrev pub type_line : {X : Type 0} → Letters → List (List ℕ) → List (Resource X) → Option (List ℕ) → List ℕ → List ℕ
type_line letters kinds all before kind = counted_line letters kinds before kind (count_by (λ row. bytes_eq row.kind kind) all)

-- a line for each type of the last rows, where the row before them has this type
abbrev pub type_lines : {X : Type 0} → Letters → List (List ℕ) → List (Resource X) → Option (List ℕ) → List (Resource X) → List ℕ
type_lines letters kinds all before [] = []
type_lines letters kinds all before (row ∷ rows) = type_line letters kinds all before row.kind ++ type_lines letters kinds all (Some row.kind) rows
