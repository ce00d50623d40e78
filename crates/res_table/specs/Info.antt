-- Another id and another name for a resource.
use Rattle.std.specs.Prelude.{ℤ, ℕ, List, Option}
use Rattle.std.specs.Option.{option_or}
use Rattle.res_table.specs.declared.row.Row.{Row}

-- the row with this id, and with this name where one is given
abbrev pub with_info : {D : Type 0} → ℤ → Option (List ℕ) → Row D → Row D
with_info id name r = record r { resource = record (r.resource) { id = id; name = option_or name r.resource.name } }
