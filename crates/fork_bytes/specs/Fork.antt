-- Which bytes are a resource fork, and which table they stand for.
use Rattle.std.specs.Prelude.{◌≡◌, ◌≢◌, ℕ, zero, suc, ◌+◌, ◌*◌, ◌/◌, ◌%◌, min, max, ◌<◌, ◌≤◌, ◌==◌, if◌then◌else◌, List, [], ◌∷◌, ◌++◌, length, map, take, drop, replicate, slice_index, sum_by, Option, None, Some, IfSome, AllPairs, ⊤}
use Rattle.std.specs.List.{flat_map, AllByRecursion}
use Rattle.std.specs.Int.{w16, cast_signed}
use Rattle.byteorder.specs.Endian.{big_number}
use Rattle.fork_bytes.specs.declared.fault.Condition.{Condition}
use Rattle.fork_bytes.specs.declared.fault.Condition.TheVariants.{Parts, Types, References, RowCount, Names, Places, ByteCount}
use Rattle.fork_bytes.specs.declared.fault.ForkFault.{ForkFault}
use Rattle.fork_bytes.specs.declared.fault.ForkFault.TheVariants.{EndOfFile, BadMap, HostFull}
use Rattle.fork_bytes.specs.declared.layout.Header.{Header}
use Rattle.fork_bytes.specs.declared.layout.Limits.{Limits}
use Rattle.fork_bytes.specs.declared.layout.Lists.{Lists}
use Rattle.fork_bytes.specs.declared.layout.Lists.TheVariants.{MayOverlap, HaveRoom}
use Rattle.fork_bytes.specs.Rows.{Row, MapRow}
use Rattle.fork_bytes.specs.declared.table.Table.{Table}

-- the number in n bytes at an offset, the highest first
abbrev pub number_at : ℕ → ℕ → List ℕ → ℕ
number_at n at bytes = big_number n (drop at bytes)

-- n bytes at an offset
abbrev pub bytes_at : ℕ → ℕ → List ℕ → List ℕ
bytes_at n at bytes = take n (drop at bytes)

-- a count that is written less one, so that $FFFF is none
abbrev pub count_at : ℕ → List ℕ → ℕ
count_at at bytes = (number_at 2 at bytes + 1) % 65536

-- the header of a fork
abbrev pub header_of : List ℕ → Header
header_of fork = record {
  data_offset = number_at 4 0 fork;
  map_offset = number_at 4 4 fork;
  data_length = number_at 4 8 fork;
  map_length = number_at 4 12 fork;
}

-- the data and the map, where the header says that they are
abbrev pub data_of : List ℕ → List ℕ
data_of fork = bytes_at (header_of fork).data_length (header_of fork).data_offset fork

abbrev pub map_of : List ℕ → List ℕ
map_of fork = bytes_at (header_of fork).map_length (header_of fork).map_offset fork

-- the map's attributes, and where the type list and the name list are in the map
abbrev pub attributes_of : List ℕ → ℕ
attributes_of resource_map = number_at 2 22 resource_map

abbrev pub type_list : List ℕ → ℕ
type_list resource_map = number_at 2 24 resource_map

abbrev pub name_list : List ℕ → ℕ
name_list resource_map = number_at 2 26 resource_map

-- how many types the type list has
abbrev pub type_count : List ℕ → ℕ
type_count resource_map = count_at (type_list resource_map) resource_map

-- so many places, each at this distance after the one before
abbrev pub places : ℕ → ℕ → ℕ → List ℕ
places zero at distance = []
places (suc count) at distance = at ∷ places count (at + distance) distance

-- an entry of the type list: a type, how many references it has, and where in the map they are
pub record TypeEntry : Type 0 where
  pub kind : List ℕ
  pub count : ℕ
  pub start : ℕ

-- the entry at a place of the map
abbrev pub entry_at : List ℕ → ℕ → TypeEntry
entry_at resource_map at = record {
  kind = bytes_at 4 at resource_map;
  count = count_at (at + 4) resource_map;
  start = type_list resource_map + number_at 2 (at + 6) resource_map;
}

-- the entries of the type list
abbrev pub entries_of : List ℕ → List TypeEntry
entries_of resource_map = map (entry_at resource_map) (places (type_count resource_map) (type_list resource_map + 2) 8)

-- a reference: its type, and where in the map it is
pub record Reference : Type 0 where
  pub kind : List ℕ
  pub place : ℕ

-- the references of an entry, of 12 bytes each
abbrev pub references_in : TypeEntry → List Reference
references_in entry = map (λ at. record { kind = entry.kind; place = at }) (places entry.count entry.start 12)

-- the references in the order of types
abbrev pub references_of : List ℕ → List Reference
references_of resource_map = flat_map references_in (entries_of resource_map)

-- where in the map a reference's name is, unless it has none
abbrev pub name_place : List ℕ → ℕ → Option ℕ
name_place resource_map at = let offset = number_at 2 (at + 2) resource_map in
    if offset == 65535 then None else Some (name_list resource_map + offset)

-- the name at a place, a byte of length and the bytes
abbrev pub name_at : List ℕ → Option ℕ → Option (List ℕ)
name_at resource_map None = None
name_at resource_map (Some at) = Some (bytes_at (slice_index resource_map at) (at + 1) resource_map)

-- the row of a reference
abbrev pub map_row : List ℕ → Reference → MapRow
map_row resource_map reference = let at = reference.place in record {
  kind = reference.kind;
  id = cast_signed w16 (number_at 2 at resource_map);
  name = name_at resource_map (name_place resource_map at);
  attributes = record { 0 = slice_index resource_map (at + 4) };
  datum = number_at 3 (at + 5) resource_map;
}

-- the rows that the map lists
abbrev pub map_rows : List ℕ → List MapRow
map_rows resource_map = map (map_row resource_map) (references_of resource_map)

-- how many bytes the resource has whose datum is at an offset of the data
abbrev pub datum_length : List ℕ → ℕ → ℕ
datum_length resource_data datum = number_at 4 datum resource_data

-- a row of the map with its bytes, which are after their length
abbrev pub row_with : List ℕ → MapRow → Row
row_with resource_data row = record {
  kind = row.kind;
  id = row.id;
  name = row.name;
  attributes = row.attributes;
  datum = bytes_at (datum_length resource_data row.datum) (row.datum + 4) resource_data;
}

-- the 240 bytes after the header; those past the end are zero
abbrev pub extra_of : List ℕ → List ℕ
extra_of fork = take 240 (drop 16 fork ++ replicate 240 0)

-- the table of a fork, field by field
abbrev pub table_of : List ℕ → Table
table_of fork = record {
  rows = map (row_with (data_of fork)) (map_rows (map_of fork));
  extra = extra_of fork;
  map_attributes = attributes_of (map_of fork);
}

-- the most bytes of a fork, and the most rows, for macheap
abbrev pub max_fork : ℕ
max_fork = 4194304

abbrev pub max_rows : ℕ
max_rows = 8192

-- how much is read of a fork, by macheap
abbrev pub macheap_limits : Limits
macheap_limits = record { fork = max_fork; rows = max_rows; lists = MayOverlap; bytes = max_fork }

-- the most bytes of all resources of a fork, those of their lengths among them: a bound of this project's own
abbrev pub max_bytes : ℕ
max_bytes = 268435456

-- how much the format can say: a place in the fork has 4 bytes, and one in the data 3, where so many rows begin that have
-- no bytes in common; each row has 12 bytes of the map
abbrev pub format_limits : Limits
format_limits = record { fork = 4294967295; rows = 4194304; lists = HaveRoom; bytes = max_bytes }

-- the most rows of a map of so many bytes, of which there are at most so many in any map
abbrev pub rows_by : Lists → ℕ → ℕ → ℕ
rows_by MayOverlap rows map_length = rows
rows_by HaveRoom rows map_length = min rows (map_length / 12)

abbrev pub most_rows : Limits → ℕ → ℕ
most_rows limits map_length = rows_by limits.lists limits.rows map_length

-- the most bytes of all rows where the data have so many: rows that share bytes have no more than the data, or than
-- macheap reads
abbrev pub bytes_by : Lists → ℕ → ℕ → ℕ
bytes_by MayOverlap bytes data_length = bytes
bytes_by HaveRoom bytes data_length = min bytes (max max_fork data_length)

abbrev pub most_bytes : Limits → ℕ → ℕ
most_bytes limits data_length = bytes_by limits.lists limits.bytes data_length

-- The parts lie within a fork of so many bytes.
pub record HasPartsWithin (limits : Limits) (fork_length : ℕ) (header : Header) : Type 0 where
  pub small : fork_length ≤ limits.fork
  pub whole_data : header.data_offset + header.data_length ≤ fork_length
  pub whole_map : header.map_offset + header.map_length ≤ fork_length
  pub map_header : 28 ≤ header.map_length

-- The type list lies within the map, and no type is in it twice.
pub record HasTypes (resource_map : List ℕ) : Type 0 where
  pub count : type_list resource_map + 2 ≤ length resource_map
  pub entries : type_list resource_map + 2 + 8 * type_count resource_map ≤ length resource_map
  pub distinct : AllPairs (λ (a b : TypeEntry). a.kind ≢ b.kind) (entries_of resource_map)

-- Each reference lies within the map.
abbrev pub HasReferences : List ℕ → Type 0
HasReferences resource_map = AllByRecursion (λ (r : Reference). r.place + 12 ≤ length resource_map) (references_of resource_map)

-- There are not too many rows.
abbrev pub HasFewRowsWithin : Limits → List ℕ → Type 0
HasFewRowsWithin limits resource_map = length (references_of resource_map) ≤ most_rows limits (length resource_map)

-- Each name lies within the map.
abbrev pub HasNames : List ℕ → Type 0
HasNames resource_map = AllByRecursion (λ (r : Reference).
    IfSome (name_place resource_map r.place) (λ at. at + 1 + slice_index resource_map at ≤ length resource_map)) (references_of resource_map)

-- The bytes of each row lie within the data, and so does their length before them.
abbrev pub HasData : List ℕ → List MapRow → Type 0
HasData resource_data rows = AllByRecursion (λ (r : MapRow).
    (r.datum + 4 ≤ length resource_data) × (r.datum + 4 + datum_length resource_data r.datum ≤ length resource_data)) rows

-- All rows together have not too many bytes, those of the lengths among them.
abbrev pub HasFewBytesWithin : Limits → List ℕ → List MapRow → Type 0
HasFewBytesWithin limits resource_data rows = sum_by (λ (r : MapRow). 4 + datum_length resource_data r.datum) rows ≤ most_bytes limits (length resource_data)

-- what each condition says of a fork
abbrev pub HoldsWithin : Limits → Condition → List ℕ → Type 0
HoldsWithin limits Parts fork = HasPartsWithin limits (length fork) (header_of fork)
HoldsWithin limits Types fork = HasTypes (map_of fork)
HoldsWithin limits References fork = HasReferences (map_of fork)
HoldsWithin limits RowCount fork = HasFewRowsWithin limits (map_of fork)
HoldsWithin limits Names fork = HasNames (map_of fork)
HoldsWithin limits Places fork = HasData (data_of fork) (map_rows (map_of fork))
HoldsWithin limits ByteCount fork = HasFewBytesWithin limits (data_of fork) (map_rows (map_of fork))

-- the bytes are a fork: they have a header, and all conditions hold
pub record IsForkWithin (limits : Limits) (fork : List ℕ) : Type 0 where
  pub header : 16 ≤ length fork
  pub holds : (condition : Condition) → HoldsWithin limits condition fork

-- the bytes stand for the table
abbrev pub StandsForWithin : Limits → List ℕ → Table → Type 0
StandsForWithin limits fork table = IsForkWithin limits fork × (table ≡ table_of fork)

-- how many conditions are looked at before this one
abbrev pub rank : Condition → ℕ
rank Parts = 0
rank Types = 1
rank References = 2
rank RowCount = 3
rank Names = 4
rank Places = 5
rank ByteCount = 6

-- the condition doesn't hold, and those before it do
pub record FailsFirstWithin (limits : Limits) (fork : List ℕ) (condition : Condition) : Type 0 where
  pub fails : HoldsWithin limits condition fork → ⊥
  pub before : (other : Condition) → rank other < rank condition → HoldsWithin limits other fork

-- what a fault says of the bytes
abbrev pub RefusesWithin : Limits → List ℕ → ForkFault → Type 0
RefusesWithin limits fork EndOfFile = length fork < 16
RefusesWithin limits fork (BadMap condition) = (16 ≤ length fork) × FailsFirstWithin limits fork condition
RefusesWithin limits fork HostFull = ⊤

-- the same, as macheap reads forks
abbrev pub HasParts : ℕ → Header → Type 0
HasParts = HasPartsWithin macheap_limits

abbrev pub Holds : Condition → List ℕ → Type 0
Holds = HoldsWithin macheap_limits

abbrev pub IsFork : List ℕ → Type 0
IsFork = IsForkWithin macheap_limits

abbrev pub StandsFor : List ℕ → Table → Type 0
StandsFor = StandsForWithin macheap_limits

abbrev pub Refuses : List ℕ → ForkFault → Type 0
Refuses = RefusesWithin macheap_limits
