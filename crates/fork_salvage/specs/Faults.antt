-- All faults of a fork, each with its place.
use Rattle.std.specs.Prelude.{ℕ, ◌+◌, ◌-◌, ◌*◌, ◌==◌, ◌&&◌, nat_le, nat_lt, if◌then◌else◌, List, [], ◌++◌, length, option_map, option_to_list, Option, None, Some, Result, Ok, Err, bytes_eq, slice_index, take}
use Rattle.std.specs.List.{flat_map, find}
use Rattle.fork_bytes.specs.Fork.{map_of, name_list, number_at, places, type_list, type_count, Reference, format_limits}
use Rattle.fork_salvage.specs.declared.place.Gap.{Gap}
use Rattle.fork_salvage.specs.declared.place.Span.{Span}
use Rattle.fork_salvage.specs.declared.fault.Fault.{Fault}
use Rattle.fork_salvage.specs.declared.fault.Fault.TheVariants as fault
use Rattle.fork_salvage.specs.declared.entry.Types.{Types}
use Rattle.fork_salvage.specs.declared.entry.ReferenceList.{ReferenceList}
use Rattle.fork_salvage.specs.Salvage.{bytes_found, map_in, may_be_told, most_listed, parts_at, references, told_list, told_plan}
use Rattle.fork_salvage.specs.Fault.{bad_row, excess_of}
use Rattle.fork_salvage.specs.declared.plan.Plan.{Plan}
use Rattle.fork_salvage.specs.declared.reference.Loss.{Loss}
use Rattle.fork_salvage.specs.declared.reference.Loss.TheVariants as loss

-- what is missing of so many bytes at a place of a part
abbrev pub gap_of : Span → ℕ → ℕ → Option Gap
gap_of part at wanted = if nat_lt part.length (at + wanted) then Some (record { place = part.start + at; wanted = wanted; left = part.length - at }) else None

-- the fork as one part
abbrev pub whole : List ℕ → Span
whole fork = record { start = 0; length = length fork }

-- the faults of the header
abbrev pub header_fault : List ℕ → Option Fault
header_fault fork = option_map fault.Header (gap_of (whole fork) 0 16)

abbrev pub too_long : List ℕ → Option Fault
too_long fork = if nat_lt format_limits.fork (length fork) then Some (fault.TooLong (length fork)) else None

abbrev pub data_fault : List ℕ → Option Fault
data_fault fork = let bytes = (parts_at 0 fork).«data» in option_map fault.Data (gap_of (whole fork) bytes.start bytes.length)

abbrev pub map_fault : List ℕ → Option Fault
map_fault fork = let resource_map = (parts_at 0 fork).map in option_map fault.Map (gap_of (whole fork) resource_map.start resource_map.length)

abbrev pub map_header_fault : Span → Option Fault
map_header_fault map_part = option_map fault.MapHeader (gap_of map_part 0 28)

-- the parts that a header says: what of them ends outside
abbrev pub parts_faults : List ℕ → List Fault
parts_faults fork = option_to_list (too_long fork) ++ option_to_list (data_fault fork) ++ option_to_list (map_fault fork) ++ option_to_list (map_header_fault (parts_at 0 fork).map)

-- the first of so many entries, from one on, that has this type
abbrev pub earlier_type : List ℕ → Types → List ℕ → List ℕ → Option ℕ
earlier_type resource_map types kind indices = find (λ k. bytes_eq (told_list resource_map types k).kind kind) indices

-- a type that is in an earlier entry too
abbrev pub same_type : Span → List ℕ → Types → ℕ → Option Fault
same_type map_part resource_map types i = let kind = (told_list resource_map types i).kind in let start = map_part.start + types.place + 2 in
    option_map (λ first. fault.SameType (record { kind = kind; first = start + 8 * first; second = start + 8 * i }))
    (earlier_type resource_map types kind (places i 0 1))

-- the references of an entry end outside of the map, if there are some
abbrev pub list_fault : Span → ReferenceList → Option Fault
list_fault map_part list = if list.count == 0 then None
    else option_map (λ gap. fault.References (record { kind = list.kind; gap = gap })) (gap_of map_part list.start (12 * list.count))

-- the faults of an entry of the type list
abbrev pub entry_faults : Span → List ℕ → Types → ℕ → List Fault
entry_faults map_part resource_map types i =
    option_to_list (same_type map_part resource_map types i) ++ option_to_list (list_fault map_part (told_list resource_map types i))

-- the faults of the entries from one on
abbrev pub entries_faults : Span → List ℕ → Types → ℕ → List Fault
entries_faults map_part resource_map types i = flat_map (entry_faults map_part resource_map types) (places (types.count - i) i 1)

-- the type list ends outside of the map
abbrev pub types_fault : Span → List ℕ → Option Fault
types_fault map_part resource_map =
    if nat_lt map_part.length (type_list resource_map + 2) then option_map fault.TypeCount (gap_of map_part (type_list resource_map) 2)
    else option_map fault.TypeList (gap_of map_part (type_list resource_map + 2) (8 * type_count resource_map))

-- the fault of the name of a reference
abbrev pub name_fault : List ℕ → Plan → Reference → Option Fault
name_fault fork plan reference =
    let resource_map = map_in fork plan in let offset = number_at 2 (reference.place + 2) resource_map in let start = name_list resource_map + offset in
    if offset == 65535 then None
    else option_map (λ gap. fault.Name (bad_row fork reference gap)) (gap_of plan.map start (1 + slice_index resource_map start))

-- the fault of the bytes of a reference, of which this was found
abbrev pub bytes_fault : List ℕ → Reference → Result Span Loss → Option Fault
bytes_fault fork reference (Ok bytes) = None
bytes_fault fork reference (Err (loss.Reference gap)) = None
bytes_fault fork reference (Err (loss.Length gap)) = Some (fault.Length (bad_row fork reference gap))
bytes_fault fork reference (Err (loss.Bytes gap)) = Some (fault.Bytes (bad_row fork reference gap))

-- the faults of a reference; one that ends outside of the map has none of its own: its list has
abbrev pub row_faults : List ℕ → Plan → Reference → List Fault
row_faults fork plan reference =
    if nat_lt (length (map_in fork plan)) (reference.place + 12) then []
    else option_to_list (name_fault fork plan reference) ++ option_to_list (bytes_fault fork reference (bytes_found fork plan reference.place))

-- the faults of so many references, from the first on
abbrev pub rows_faults : List ℕ → Plan → ℕ → List Fault
rows_faults fork plan most = flat_map (row_faults fork plan) (take most (references fork plan))

-- there are too many references
abbrev pub count_fault : List ℕ → Option Fault
count_fault fork = let excess = excess_of fork in if nat_lt excess.most excess.count then Some (fault.RowCount excess) else None

-- the faults of the lists of a map that lies within the fork, as its type list does: no more references are looked at
-- than the map has room for
abbrev pub lists_faults : List ℕ → Plan → List Fault
lists_faults fork plan =
    entries_faults plan.map (map_in fork plan) plan.types 0 ++ option_to_list (count_fault fork) ++ rows_faults fork plan (most_listed fork plan)

-- the fault of a type list, if the map lies within the fork and has a header
abbrev pub map_faults : List ℕ → List Fault
map_faults fork = let resource_map = (parts_at 0 fork).map in
    if nat_le (resource_map.start + resource_map.length) (length fork) && nat_le 28 resource_map.length
    then option_to_list (types_fault resource_map (map_of fork)) else []

-- the faults of all that can be looked at: nothing after a part that ends outside is
abbrev pub found_faults : List ℕ → List Fault
found_faults fork =
    if nat_lt (length fork) 16 then option_to_list (header_fault fork)
    else parts_faults fork ++ (if may_be_told fork then lists_faults fork (told_plan fork) else map_faults fork)
