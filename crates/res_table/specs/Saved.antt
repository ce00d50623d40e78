-- What is saved of rows: the table of a fork.
use Rattle.std.specs.Prelude.{ℕ, List, [], map}
use Rattle.mac_base.specs.declared.resource.Resource.{Resource}
use Rattle.fork_bytes.specs.declared.table.Table.{Table}
use Rattle.fork_bytes.specs.declared.layout.TypeCount.{TypeCount}
use Rattle.fork_bytes.specs.Written.{types_of, Fits}
use Rattle.res_table.specs.declared.row.Row.{Row}
use Rattle.res_table.specs.Attributes.{unmarked}
pub use Rattle.res_table.specs.Kinds.{kind_of}

-- the resource of a row as it is saved, where this gives the bytes of its datum: without the handle, and not changed
abbrev pub saved_row : {D : Type 0} → (D → List ℕ) → Row D → Resource (List ℕ)
saved_row text r = record {
  kind = r.resource.kind;
  id = r.resource.id;
  name = r.resource.name;
  attributes = unmarked r.resource.attributes;
  datum = text r.resource.datum;
}

-- the resources of rows as they are saved
abbrev pub saved_rows : {D : Type 0} → (D → List ℕ) → List (Row D) → List (Resource (List ℕ))
saved_rows text rows = map (saved_row text) rows

-- the table that is saved of rows, extra bytes and the attributes of the map
abbrev pub saved : {D : Type 0} → (D → List ℕ) → List ℕ → ℕ → List (Row D) → Table
saved text extra map_attributes rows = record { rows = saved_rows text rows; extra = extra; map_attributes = map_attributes }

-- the resources of rows, as if they had no bytes
abbrev pub bare : {D : Type 0} → List (Row D) → List (Resource (List ℕ))
bare rows = saved_rows (λ _. []) rows

-- the types of rows in the order of their first rows, each with how many rows of it are together
abbrev pub row_types : {D : Type 0} → List (Row D) → List TypeCount
row_types rows = types_of (bare rows)

-- the table of these rows fits a fork, whatever the bytes of its data
abbrev pub RowsFit : {D : Type 0} → List (Row D) → Type 0
RowsFit {D} rows = (text : D → List ℕ) (extra : List ℕ) (map_attributes : ℕ) → Fits (saved text extra map_attributes rows)
