-- Whether resources fit a fork. Nothing here looks at their bytes.
use Rattle.std.specs.Prelude.{ℕ, ◌+◌, Bool, true, ◌&&◌, nat_le, List, [], ◌∷◌, length}
use Rattle.std.specs.Option.{option_map_or}
use Rattle.fork_bytes.specs.Fork.{max_rows}
use Rattle.fork_bytes.specs.Rows.{Row}
use Rattle.fork_bytes.specs.Written.{names_offset, name_text}

-- whether two bytes hold the offset of each name, where the first is at this one
abbrev pub names_fit : ℕ → List Row → Bool
names_fit at [] = true
names_fit at (row ∷ rows) = option_map_or (λ name. nat_le at 65534) row.name true && names_fit (at + length (name_text row.name)) rows

-- whether the rows fit a fork: not too many, and two bytes hold each offset
abbrev pub rows_fit : List Row → Bool
rows_fit rows = nat_le (length rows) max_rows && (nat_le (names_offset rows) 65535 && names_fit 0 rows)
