-- Names of resources, compared as the Macintosh compares them: letters that differ only in case are the same, and those
-- that differ in their diacritical marks aren't.
use Rattle.std.specs.Prelude.{ℕ, Bool, false, ◌==◌, ◌&&◌, List, slice_index}
use Rattle.std.specs.Cmp.Lexicographic.{pointwise}
use Rattle.std.specs.Option.{option_map_or}
use Rattle.res_table.specs.declared.names.TheConstants.{CAPITALS}
use Rattle.res_table.specs.declared.row.Row.{Row}
use Rattle.res_table.specs.Rows.{is_of_type}

-- the capital of a byte
abbrev pub capital : ℕ → ℕ
capital byte = slice_index CAPITALS byte

-- whether two bytes have the same capital
abbrev pub is_same_letter : ℕ → ℕ → Bool
is_same_letter first second = capital first == capital second

-- whether two names are the same, but for the case of letters
abbrev pub is_same_name : List ℕ → List ℕ → Bool
is_same_name first second = pointwise is_same_letter first second

-- whether a row has the type, and a name that is this one but for the case of letters
abbrev pub is_named : {D : Type 0} → List ℕ → List ℕ → Row D → Bool
is_named kind name r = is_of_type kind r && option_map_or (is_same_name name) r.resource.name false
