-- Names as they are compared: byte by byte, or as the File Manager does.
use Rattle.std.specs.Prelude.{ℕ, Bool, ◌==◌, List, slice_index}
use Rattle.std.specs.Cmp.Lexicographic.{pointwise}
use Rattle.hfs_volume.specs.declared.name.Name.{Name}
use Rattle.hfs_volume.specs.Names.{name_bytes}
use Rattle.volume_names.specs.declared.letters.Rule.{Rule}
use Rattle.volume_names.specs.declared.letters.Rule.TheVariants.{Bytes, Letters}
use Rattle.volume_names.specs.declared.letters.TheConstants.{WEIGHTS}

-- whether two bytes are the same: equal, or of one weight
abbrev pub is_same_byte : Rule → ℕ → ℕ → Bool
is_same_byte Bytes first second = first == second
is_same_byte Letters first second = slice_index WEIGHTS first == slice_index WEIGHTS second

-- whether texts are the same: as long, with the same bytes
abbrev pub is_same_text : Rule → List ℕ → List ℕ → Bool
is_same_text rule first second = pointwise (is_same_byte rule) first second

-- whether a path of names has these texts
abbrev pub is_same_path : Rule → List Name → List (List ℕ) → Bool
is_same_path rule path texts = pointwise (λ name text. is_same_text rule (name_bytes name) text) path texts
