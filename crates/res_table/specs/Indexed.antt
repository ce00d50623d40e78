-- The keys by which rows are found, the pairs of those that have one, and the types of rows.
use Rattle.std.specs.Prelude.{ℕ, ◌≤◌, ◌+◌, ◌/◌, ◌%◌, List, [], ◌∷◌, Option, Some, option_map, ◌≡◌, map}
use Rattle.std.specs.Int.{w16, w32, cast_signed, to_be_bytes}
use Rattle.res_table.specs.declared.row.Row.{Row}
use Rattle.res_table.specs.declared.keyed.Pair.{Pair}
use Rattle.res_table.specs.Keyed.{key_of_handle, key_of_resource, with_key}
use Rattle.res_table.specs.Rows.{name_size}

-- the key of a row's handle, if it has one
abbrev pub handle_key : {D : Type 0} → Row D → Option ℕ
handle_key r = option_map key_of_handle r.handle

-- the key of a row's type and id
abbrev pub resource_key : {D : Type 0} → Row D → Option ℕ
resource_key r = Some (key_of_resource r.resource.kind r.resource.id)

-- the pairs of rows, of which the first is here
abbrev pub pairs_from : {D : Type 0} → (Row D → Option ℕ) → ℕ → List (Row D) → List Pair
pairs_from key at [] = []
pairs_from key at (r ∷ rows) = with_key (key r) at (pairs_from key (at + 1) rows)

-- the pairs of all rows of a file
abbrev pub pairs_of : {D : Type 0} → (Row D → Option ℕ) → List (Row D) → List Pair
pairs_of key rows = pairs_from key 0 rows

-- the type and the id of a row can be read from their key again
abbrev pub IsTold : {D : Type 0} → Row D → Type 0
IsTold r = (to_be_bytes w32 (key_of_resource r.resource.kind r.resource.id / 65536) ≡ r.resource.kind)
    × (cast_signed w16 (key_of_resource r.resource.kind r.resource.id % 65536) ≡ r.resource.id)

-- a name takes at most this many bytes in a fork, with its byte of length
abbrev pub most_name_size : ℕ
most_name_size = 256

-- what is known of each row of a file: its key can be read again, and its name is short
abbrev pub IsKept : {D : Type 0} → Row D → Type 0
IsKept r = IsTold r × (name_size r ≤ most_name_size)

-- the types of rows
abbrev pub kinds_of : {D : Type 0} → List (Row D) → List (List ℕ)
kinds_of rows = map (λ r. r.resource.kind) rows
