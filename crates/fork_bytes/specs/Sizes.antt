-- Which rows fit a fork, by how many bytes each has.
use Rattle.std.specs.Prelude.{ℕ, ◌+◌, ◌≤◌, List, [], ◌∷◌, length}
use Rattle.mac_base.specs.declared.resource.Resource.{Resource}
use Rattle.fork_bytes.specs.declared.layout.Header.{Header}
use Rattle.fork_bytes.specs.declared.layout.Limits.{Limits}
use Rattle.fork_bytes.specs.Written.{names_offset, names_text, NamesFit, PlacesFit}

-- how many bytes a datum stands for
abbrev pub text_length : {X : Type 0} → (X → List ℕ) → X → ℕ
text_length text datum = length (text datum)

-- how many bytes the data have, where the datum of each row stands for so many
abbrev pub data_size : {X : Type 0} → (X → ℕ) → List (Resource X) → ℕ
data_size long [] = 0
data_size long (row ∷ rows) = 4 + long row.datum + data_size long rows

-- how many bytes the map has
abbrev pub map_size : {X : Type 0} → List (Resource X) → ℕ
map_size rows = names_offset rows + length (names_text rows)

-- the header of their fork
abbrev pub sized_header : {X : Type 0} → (X → ℕ) → List (Resource X) → Header
sized_header long rows = record {
  data_offset = 256;
  map_offset = 256 + data_size long rows;
  data_length = data_size long rows;
  map_length = map_size rows;
}

-- the rows fit a fork: not too many, offsets that two bytes hold, places that three do, and not too many bytes
pub record FitSizesWithin {X : Type 0} (limits : Limits) (long : X → ℕ) (rows : List (Resource X)) : Type 0 where
  pub few_rows : length rows ≤ limits.rows
  pub lists : names_offset rows ≤ 65535
  pub names : NamesFit 0 rows
  pub places : PlacesFit long 0 rows
  pub few_bytes : data_size long rows ≤ limits.bytes
  pub whole : 256 + data_size long rows + map_size rows ≤ limits.fork
