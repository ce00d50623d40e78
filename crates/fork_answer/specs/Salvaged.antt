-- The table of what can be read of a damaged fork.
use Rattle.std.specs.Prelude.{ℕ, ◌+◌, ◌<◌, ◌⊎◌, if◌then◌else◌, List, [], ◌∷◌, ◌++◌, length, map, filter, filter_map, flat_map, sum_by, bytes_eq, Option, None, Some}
use Rattle.std.specs.List.{list_any}
use Rattle.fork_bytes.specs.Fork.{extra_of, format_limits}
use Rattle.fork_bytes.specs.declared.table.Table.{Table}
use Rattle.fork_salvage.specs.declared.found.FoundRow.{FoundRow}
use Rattle.fork_salvage.specs.declared.salvage.Item.{Item}
use Rattle.fork_salvage.specs.declared.salvage.Item.TheVariants as item
use Rattle.fork_salvage.specs.Salvage.{attributes_found, items}
use Rattle.fork_salvage.specs.Laws.{row_of}

-- the resource that an item is, if it can be read
abbrev pub found_in : Item → Option FoundRow
found_in (item.Row found) = Some found
found_in (item.Lost lost) = None
found_in item.More = None
found_in (item.Run span) = None

-- the resources that can be read, in the order of the map
abbrev pub readable : List ℕ → List FoundRow
readable fork = filter_map found_in (items fork)

-- the type of a resource
abbrev pub kind_of : FoundRow → List ℕ
kind_of found = found.kind

-- the types of a list that aren't among these, each once, where it is first
abbrev pub each_once : List (List ℕ) → List (List ℕ) → List (List ℕ)
each_once seen [] = []
each_once seen (kind ∷ kinds) = if list_any (λ one. bytes_eq one kind) seen then each_once seen kinds else kind ∷ each_once (seen ++ kind ∷ []) kinds

-- the resources of a type, in their order
abbrev pub found_of_type : List FoundRow → List ℕ → List FoundRow
found_of_type rows kind = filter (λ row. bytes_eq row.kind kind) rows

-- the resources with those of each type together, in the order of the first of each
abbrev pub found_grouped : List FoundRow → List FoundRow
found_grouped rows = flat_map (found_of_type rows) (each_once [] (map kind_of rows))

-- the table of these resources of a fork
abbrev pub table_with : List ℕ → List FoundRow → Table
table_with fork rows = record {
  rows = map (row_of fork) (found_grouped rows);
  extra = extra_of fork;
  map_attributes = attributes_found fork;
}

-- the table of what can be read
abbrev pub salvaged_table : List ℕ → Table
salvaged_table fork = table_with fork (readable fork)

-- how many bytes resources have, each with its four bytes of length
abbrev pub byte_count : List FoundRow → ℕ
byte_count rows = sum_by (λ (row : FoundRow). 4 + row.bytes.length) rows

-- more can be read than the format can say of one fork: too many resources, or too many bytes of them
abbrev pub IsTooMuch : List ℕ → Type 0
IsTooMuch fork = (format_limits.rows < length (readable fork)) ⊎ (format_limits.bytes < byte_count (readable fork))
