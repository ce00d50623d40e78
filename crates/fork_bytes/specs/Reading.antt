-- What is said of the parts of a fork, each by itself.
use Rattle.std.specs.Prelude.{◌≡◌, ℕ, ◌+◌, ◌*◌, ◌<◌, ◌≤◌, List, length, map, ⊤, IfSome, slice_index, sum_by}
use Rattle.fork_bytes.specs.declared.fault.Condition.{Condition}
use Rattle.fork_bytes.specs.declared.fault.Condition.TheVariants.{Parts, Types, References, RowCount, Names, Places, ByteCount}
use Rattle.fork_bytes.specs.declared.fault.ForkFault.{ForkFault}
use Rattle.fork_bytes.specs.declared.fault.ForkFault.TheVariants.{EndOfFile, BadMap, HostFull}
use Rattle.fork_bytes.specs.declared.layout.Header.{Header}
use Rattle.fork_bytes.specs.declared.layout.Limits.{Limits}
use Rattle.fork_bytes.specs.Rows.{Row, MapRow}
use Rattle.fork_bytes.specs.Fork.{bytes_at, header_of, data_of, map_of, type_list, type_count, TypeEntry, Reference, name_place, entries_of, references_in, map_row, map_rows, datum_length, max_fork, HasTypes, HasReferences, HasFewRowsWithin, HasNames, rank}
use Rattle.mac_base.specs.declared.resource.Resource.{Resource}
use Rattle.fork_bytes.specs.declared.place.Place.{Place}
use Rattle.fork_bytes.specs.declared.types.TypeList.{TypeList}
use Rattle.fork_bytes.specs.declared.types.TypeEntry as found

-- all bytes of a map's names are before this place
abbrev pub names_end : ℕ
names_end = 131326

-- a resource with the place of its bytes
abbrev pub PlacedRow : Type 0
PlacedRow = Resource Place

-- a row of the map with the place of its bytes, of which there are so many: they are after their length in the data
abbrev pub placed : Header → ℕ → MapRow → PlacedRow
placed header count row = record {
  kind = row.kind;
  id = row.id;
  name = row.name;
  attributes = row.attributes;
  datum = record { offset = header.data_offset + row.datum + 4; length = count };
}

-- a row of the map with the place of its bytes in a fork
abbrev pub placed_row : List ℕ → MapRow → PlacedRow
placed_row fork row = placed (header_of fork) (datum_length (data_of fork) row.datum) row

-- the rows of a fork with the places of their bytes
abbrev pub placed_rows : List ℕ → List PlacedRow
placed_rows fork = map (placed_row fork) (map_rows (map_of fork))

-- a row with the bytes at its place
abbrev pub row_at : List ℕ → PlacedRow → Row
row_at fork row = record {
  kind = row.kind;
  id = row.id;
  name = row.name;
  attributes = row.attributes;
  datum = bytes_at row.datum.length row.datum.offset fork;
}

-- the bytes of a row lie within the fork
abbrev pub IsWithin : List ℕ → PlacedRow → Type 0
IsWithin fork row = row.datum.offset + row.datum.length ≤ length fork

-- the rows have at most so many bytes together, with four of length for each
abbrev pub AreFewBytesWithin : ℕ → List PlacedRow → Type 0
AreFewBytesWithin most rows = sum_by (λ (row : PlacedRow). 4 + row.datum.length) rows ≤ most

abbrev pub AreFewBytes : List PlacedRow → Type 0
AreFewBytes = AreFewBytesWithin max_fork

-- what each condition says of a map alone
abbrev pub MapHoldsWithin : Limits → Condition → List ℕ → Type 0
MapHoldsWithin limits Parts resource_map = ⊤
MapHoldsWithin limits Types resource_map = HasTypes resource_map
MapHoldsWithin limits References resource_map = HasReferences resource_map
MapHoldsWithin limits RowCount resource_map = HasFewRowsWithin limits resource_map
MapHoldsWithin limits Names resource_map = HasNames resource_map
MapHoldsWithin limits Places resource_map = ⊤
MapHoldsWithin limits ByteCount resource_map = ⊤

-- the bytes are a map: all conditions of a map hold
abbrev pub IsMapWithin : Limits → List ℕ → Type 0
IsMapWithin limits resource_map = (condition : Condition) → MapHoldsWithin limits condition resource_map

-- the condition doesn't hold of the map, and those before it do
pub record MapFailsFirstWithin (limits : Limits) (resource_map : List ℕ) (condition : Condition) : Type 0 where
  pub fails : MapHoldsWithin limits condition resource_map → ⊥
  pub before : (other : Condition) → rank other < rank condition → MapHoldsWithin limits other resource_map

-- what a fault says of a map
abbrev pub RefusesMapWithin : Limits → List ℕ → ForkFault → Type 0
RefusesMapWithin limits resource_map EndOfFile = ⊥
RefusesMapWithin limits resource_map (BadMap condition) = MapFailsFirstWithin limits resource_map condition
RefusesMapWithin limits resource_map HostFull = ⊤

-- a fault is of this condition, and then this holds; or the host has no memory
abbrev pub FaultsAt : Condition → Type 0 → ForkFault → Type 0
FaultsAt condition P EndOfFile = ⊥
FaultsAt condition P (BadMap other) = (other ≡ condition) × P
FaultsAt condition P HostFull = ⊤

-- a type list as the map has it, which lies within the map
pub record IsTypeList (resource_map : List ℕ) (list : TypeList) : Type 0 where
  pub offset : list.offset ≡ type_list resource_map
  pub count : list.count ≡ type_count resource_map
  pub inside : list.offset + 2 + 8 * list.count ≤ length resource_map
  pub header : 28 ≤ length resource_map

-- an entry that was found, as the fork's definitions have it
abbrev pub entry_of : found.TypeEntry → TypeEntry
entry_of entry = record { kind = entry.kind; count = entry.count; start = entry.start }

-- the types of the type list
abbrev pub kinds_of : List ℕ → List (List ℕ)
kinds_of resource_map = map (λ (entry : TypeEntry). entry.kind) (entries_of resource_map)

-- the rows of an entry
abbrev pub rows_in : List ℕ → TypeEntry → List MapRow
rows_in resource_map entry = map (map_row resource_map) (references_in entry)

-- the name of a reference lies within the map
abbrev pub HasName : List ℕ → Reference → Type 0
HasName resource_map reference =
    IfSome (name_place resource_map reference.place) (λ at. at + 1 + slice_index resource_map at ≤ length resource_map)

-- the bytes of a row lie within the data, and so does their length before them
abbrev pub HasDatum : List ℕ → MapRow → Type 0
HasDatum resource_data row =
    (row.datum + 4 ≤ length resource_data) × (row.datum + 4 + datum_length resource_data row.datum ≤ length resource_data)
