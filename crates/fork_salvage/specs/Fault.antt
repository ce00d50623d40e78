-- The first fault of a fork, with its place.
use Rattle.std.specs.Prelude.{◌≡◌, ◌≢◌, ℕ, ◌+◌, ◌-◌, ◌*◌, ◌<◌, ◌≤◌, List, [], ◌∷◌, ◌++◌, length, slice_index, sum_by}
use Rattle.std.specs.List.{AllByRecursion}
use Rattle.std.specs.Int.{w16, cast_signed}
use Rattle.fork_bytes.specs.declared.fault.Condition.TheVariants as of
use Rattle.fork_bytes.specs.declared.fault.ForkFault.{ForkFault}
use Rattle.fork_bytes.specs.declared.fault.ForkFault.TheVariants.{EndOfFile, BadMap}
use Rattle.fork_bytes.specs.Fork.{number_at, bytes_at, header_of, map_of, data_of, type_list, name_list, type_count, Reference, entry_at, references_of, map_row, datum_length, format_limits, most_rows, most_bytes}
use Rattle.fork_bytes.specs.Reading.{HasName, HasDatum}
use Rattle.fork_salvage.specs.declared.place.Gap.{Gap}
use Rattle.fork_salvage.specs.declared.fault.BadRow.{BadRow}
use Rattle.fork_salvage.specs.declared.fault.BadList.{BadList}
use Rattle.fork_salvage.specs.declared.fault.SameType.{SameType}
use Rattle.fork_salvage.specs.declared.fault.Excess.{Excess}
use Rattle.fork_salvage.specs.declared.fault.Fault.{Fault}
use Rattle.fork_salvage.specs.declared.fault.Fault.TheVariants as fault

-- what the reader says of a fault
abbrev pub refusal_of : Fault → ForkFault
refusal_of (fault.Header gap) = EndOfFile
refusal_of (fault.TooLong count) = BadMap of.Parts
refusal_of (fault.Data gap) = BadMap of.Parts
refusal_of (fault.Map gap) = BadMap of.Parts
refusal_of (fault.MapHeader gap) = BadMap of.Parts
refusal_of (fault.TypeCount gap) = BadMap of.Types
refusal_of (fault.TypeList gap) = BadMap of.Types
refusal_of (fault.SameType same) = BadMap of.Types
refusal_of (fault.References list) = BadMap of.References
refusal_of (fault.RowCount excess) = BadMap of.RowCount
refusal_of (fault.Name row) = BadMap of.Names
refusal_of (fault.Length row) = BadMap of.Places
refusal_of (fault.Bytes row) = BadMap of.Places
refusal_of (fault.ByteCount row) = BadMap of.ByteCount

-- x is the first of the elements of which this doesn't hold
pub record IsFirst {X : Type 0} (P : X → Type 0) (xs : List X) (x : X) : Type 0 where
  pub before : List X
  pub after : List X
  pub split : xs ≡ before ++ x ∷ after
  pub hold : AllByRecursion P before
  pub fails : P x → ⊥

-- so many bytes are wanted at a place of a part, which begins at an offset of the fork and ends before they do
abbrev pub IsGap : ℕ → ℕ → ℕ → ℕ → Gap → Type 0
IsGap start size at wanted gap = (size < at + wanted) × (gap ≡ record { place = start + at; wanted = wanted; left = size - at })

-- a row of a reference, with what is missing
abbrev pub bad_row : List ℕ → Reference → Gap → BadRow
bad_row fork reference gap = record {
  kind = reference.kind;
  id = cast_signed w16 (number_at 2 reference.place (map_of fork));
  reference = (header_of fork).map_offset + reference.place;
  gap = gap;
}

-- where the datum of a reference is in the data, and its name in the map
abbrev pub datum_place : List ℕ → Reference → ℕ
datum_place fork reference = number_at 3 (reference.place + 5) (map_of fork)

abbrev pub name_start : List ℕ → Reference → ℕ
name_start fork reference = name_list (map_of fork) + number_at 2 (reference.place + 2) (map_of fork)

-- where in the map an entry of the type list is
abbrev pub entry_place : List ℕ → ℕ → ℕ
entry_place resource_map i = type_list resource_map + 2 + 8 * i

-- the references of an entry end within the map, if there are some
abbrev pub EndsWithin : List ℕ → ℕ → Type 0
EndsWithin resource_map i = let entry = entry_at resource_map (entry_place resource_map i) in
    0 < entry.count → entry.start + 12 * entry.count ≤ length resource_map

-- the entry is the first of which they don't
pub record IsFirstOutside (resource_map : List ℕ) (i : ℕ) : Type 0 where
  pub inside : i < type_count resource_map
  pub some : 0 < (entry_at resource_map (entry_place resource_map i)).count
  pub before : (k : ℕ) → k < i → EndsWithin resource_map k

-- the entry has the type of an earlier one, and of the entries before it no two have one type
pub record IsSecond (resource_map : List ℕ) (first second : ℕ) : Type 0 where
  pub order : first < second
  pub inside : second < type_count resource_map
  pub same : bytes_at 4 (entry_place resource_map first) resource_map ≡ bytes_at 4 (entry_place resource_map second) resource_map
  pub before : (i j : ℕ) → i < j → j < second → bytes_at 4 (entry_place resource_map i) resource_map ≢ bytes_at 4 (entry_place resource_map j) resource_map

-- so many bytes are wanted of the data at a datum; its length is there, and its bytes aren't
abbrev pub datum_gap : List ℕ → Reference → ℕ → Gap → Type 0
datum_gap fork reference wanted gap = IsGap (header_of fork).data_offset (length (data_of fork)) (datum_place fork reference) wanted gap

abbrev pub bytes_gap : List ℕ → Reference → Gap → Type 0
bytes_gap fork reference gap =
    let size = length (data_of fork) in let datum = datum_place fork reference in let count = datum_length (data_of fork) datum in
    (datum + 4 ≤ size) × (size < datum + 4 + count) × (gap ≡ record { place = (header_of fork).data_offset + datum; wanted = count; left = size - (datum + 4) })

-- a reference has its bytes
abbrev pub HasBytes : List ℕ → Reference → Type 0
HasBytes fork reference = HasDatum (data_of fork) (map_row (map_of fork) reference)

-- the bytes of the resources of some references, each with its four bytes of length
abbrev pub bytes_up_to : List ℕ → List Reference → ℕ
bytes_up_to fork references = sum_by (λ (r : Reference). 4 + datum_length (data_of fork) (datum_place fork r)) references

-- a type that is there twice, at the first entry that repeats one, in a type list that lies within the map
pub record IsSameType (fork : List ℕ) (same : SameType) : Type 0 where
  pub first : ℕ
  pub second : ℕ
  pub within : type_list (map_of fork) + 2 + 8 * type_count (map_of fork) ≤ length (map_of fork)
  pub is : IsSecond (map_of fork) first second
  pub kind : same.kind ≡ bytes_at 4 (entry_place (map_of fork) second) (map_of fork)
  pub first_place : same.first ≡ (header_of fork).map_offset + entry_place (map_of fork) first
  pub second_place : same.second ≡ (header_of fork).map_offset + entry_place (map_of fork) second

-- a list of references that ends outside of the map, the first one
pub record IsBadList (fork : List ℕ) (list : BadList) : Type 0 where
  pub index : ℕ
  pub first : IsFirstOutside (map_of fork) index
  pub kind : list.kind ≡ (entry_at (map_of fork) (entry_place (map_of fork) index)).kind
  pub gap : let entry = entry_at (map_of fork) (entry_place (map_of fork) index) in
      IsGap (header_of fork).map_offset (length (map_of fork)) entry.start (12 * entry.count) list.gap

-- a resource of the first reference of which this doesn't hold, and that is what is missing of it
pub record IsBadRow (fork : List ℕ) (P : Reference → Type 0) (Missing : Reference → Gap → Type 0) (row : BadRow) : Type 0 where
  pub reference : Reference
  pub first : IsFirst P (references_of (map_of fork)) reference
  pub told : row ≡ bad_row fork reference row.gap
  pub missing : Missing reference row.gap

-- what is missing of a name, with its byte of length
abbrev pub name_gap : List ℕ → Reference → Gap → Type 0
name_gap fork reference gap = let start = name_start fork reference in
    IsGap (header_of fork).map_offset (length (map_of fork)) start (1 + slice_index (map_of fork) start) gap

-- the bytes of the references before this one are few enough, and with its own they aren't
pub record IsBadSum (fork : List ℕ) (row : BadRow) : Type 0 where
  pub before : List Reference
  pub reference : Reference
  pub after : List Reference
  pub split : references_of (map_of fork) ≡ before ++ reference ∷ after
  pub few : bytes_up_to fork before ≤ most_bytes format_limits (length (data_of fork))
  pub many : most_bytes format_limits (length (data_of fork)) < bytes_up_to fork (before ++ reference ∷ [])
  pub told : row ≡ bad_row fork reference row.gap
  pub gap : row.gap ≡ record {
    place = (header_of fork).data_offset + datum_place fork reference;
    wanted = bytes_up_to fork (before ++ reference ∷ []);
    left = most_bytes format_limits (length (data_of fork));
  }

-- how many references a fork has, how long its map is, and how many are read of such a map
abbrev pub excess_of : List ℕ → Excess
excess_of fork = let size = length (map_of fork) in
    record { count = length (references_of (map_of fork)); map_length = size; most = most_rows format_limits size }

-- a fork isn't too long; the same, and its data lies within it; the same, and so does its map
abbrev pub IsShort : List ℕ → Type 0
IsShort fork = length fork ≤ format_limits.fork

abbrev pub HasDataWithin : List ℕ → Type 0
HasDataWithin fork = IsShort fork × ((header_of fork).data_offset + (header_of fork).data_length ≤ length fork)

abbrev pub HasBothWithin : List ℕ → Type 0
HasBothWithin fork = HasDataWithin fork × ((header_of fork).map_offset + (header_of fork).map_length ≤ length fork)

-- what a fault says of the fork: something ends outside, and nothing of the same condition that is looked at before it
abbrev pub IsFault : List ℕ → Fault → Type 0
IsFault fork (fault.Header gap) = IsGap 0 (length fork) 0 16 gap
IsFault fork (fault.TooLong count) = (format_limits.fork < count) × (count ≡ length fork)
IsFault fork (fault.Data gap) = IsShort fork × IsGap 0 (length fork) (header_of fork).data_offset (header_of fork).data_length gap
IsFault fork (fault.Map gap) = HasDataWithin fork × IsGap 0 (length fork) (header_of fork).map_offset (header_of fork).map_length gap
IsFault fork (fault.MapHeader gap) = HasBothWithin fork × IsGap (header_of fork).map_offset (header_of fork).map_length 0 28 gap
IsFault fork (fault.TypeCount gap) = IsGap (header_of fork).map_offset (length (map_of fork)) (type_list (map_of fork)) 2 gap
IsFault fork (fault.TypeList gap) = (type_list (map_of fork) + 2 ≤ length (map_of fork))
    × IsGap (header_of fork).map_offset (length (map_of fork)) (type_list (map_of fork) + 2) (8 * type_count (map_of fork)) gap
IsFault fork (fault.SameType same) = IsSameType fork same
IsFault fork (fault.References list) = IsBadList fork list
IsFault fork (fault.RowCount excess) = (excess.most < excess.count) × (excess ≡ excess_of fork)
IsFault fork (fault.Name row) = IsBadRow fork (HasName (map_of fork)) (name_gap fork) row
IsFault fork (fault.Length row) = IsBadRow fork (HasBytes fork) (λ reference gap. datum_gap fork reference 4 gap) row
IsFault fork (fault.Bytes row) = IsBadRow fork (HasBytes fork) (bytes_gap fork) row
IsFault fork (fault.ByteCount row) = IsBadSum fork row
