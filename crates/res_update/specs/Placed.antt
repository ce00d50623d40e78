-- Rows that keep where their bytes are in the fork, and the same rows with these bytes.
use Rattle.std.specs.Prelude.{ℕ, ◌+◌, ◌≤◌, ◌++◌, List, length, take, drop, replicate, map, All}
use Rattle.fork_bytes.specs.declared.place.Place.{Place}
use Rattle.fork_bytes.specs.Fork.{max_fork}
use Rattle.res_table.specs.declared.row.Row.{Row}
use Rattle.res_table.specs.declared.chain.ResourceTable.{ResourceTable}
use Rattle.res_update.specs.Changes.{FileRow, FileTable}

-- the bytes at a place of a fork; where the fork ends before the place does, zeros follow
abbrev pub bytes_on : List ℕ → Place → List ℕ
bytes_on fork place = take place.length (drop place.offset fork ++ replicate place.length 0)

-- a row with the bytes at its place
abbrev pub row_on : List ℕ → Row Place → FileRow
row_on fork r = record {
  resource = record {
    kind = r.resource.kind;
    id = r.resource.id;
    name = r.resource.name;
    attributes = r.resource.attributes;
    datum = bytes_on fork r.resource.datum;
  };
  handle = r.handle;
}

-- rows with the bytes at their places
abbrev pub rows_on : List ℕ → List (Row Place) → List FileRow
rows_on fork rows = map (row_on fork) rows

-- a table with the bytes at the places of its rows
abbrev pub table_on : List ℕ → ResourceTable Place → FileTable
table_on fork table = record { rows = rows_on fork table.rows; extra = table.extra; map_attributes = table.map_attributes }

-- a place lies within the fork
abbrev pub IsInside : List ℕ → Place → Type 0
IsInside fork place = place.offset + place.length ≤ length fork

-- a place ends where the longest fork does at the latest
abbrev pub IsNear : Place → Type 0
IsNear place = place.offset + place.length ≤ max_fork

-- the places of rows lie within the fork
abbrev pub AreInside : List ℕ → List (Row Place) → Type 0
AreInside fork rows = All (λ r. IsInside fork r.resource.datum) rows

-- the places of rows end where the longest fork does at the latest
abbrev pub AreNear : List (Row Place) → Type 0
AreNear rows = All (λ r. IsNear r.resource.datum) rows

-- where a store is honest it is ready, and the places of the rows lie within its fork
abbrev pub Holds : {S : Type 0} → (S → List ℕ) → (S → Type 0) → (S → Type 0) → List (Row Place) → S → Type 0
Holds fork is_ready is_honest rows store = is_honest store → is_ready store × AreInside (fork store) rows
