-- What reading and writing are to each other.
use Rattle.std.specs.Prelude.{◌≡◌, ◌≢◌, ℕ, ◌≤◌, ◌<◌, List, length, IfSome, FitsSigned, AllPairs, slice_index}
use Rattle.std.specs.List.{AllByRecursion}
use Rattle.std.specs.Int.{w16}
use Rattle.fork_bytes.specs.declared.layout.Limits.{Limits}
use Rattle.fork_bytes.specs.declared.layout.TypeCount.{TypeCount}
use Rattle.fork_bytes.specs.declared.table.Table.{Table}
use Rattle.mac_base.specs.declared.resource.Resource.{Resource}
use Rattle.fork_bytes.specs.Rows.{Row}
use Rattle.fork_bytes.specs.Fork.{max_fork, macheap_limits, format_limits, StandsFor, StandsForWithin}
use Rattle.fork_bytes.specs.Written.{types_of, data_text, written, PlacesFit, Fits, FitsWithin, IsSmallWithin}

-- rows of one type are together
abbrev pub IsGrouped : List Row → Type 0
IsGrouped rows = AllPairs (λ (a b : TypeCount). a.kind ≢ b.kind) (types_of rows)

-- what each row is but for its datum: four bytes of type, numbers in range, and a name of 255 bytes at most
pub record IsRow {X : Type 0} (row : Resource X) : Type 0 where
  pub kind : length row.kind ≡ 4
  pub id : FitsSigned w16 row.id
  pub name : IfSome row.name (λ name. length name ≤ 255)
  pub attributes : row.attributes.0 < 256

-- what each table is
pub record IsTable (table : Table) : Type 0 where
  pub rows : AllByRecursion IsRow table.rows
  pub grouped : IsGrouped table.rows
  pub extra : length table.extra ≡ 240
  pub map_attributes : table.map_attributes < 65536

-- what is written is read again: the written form of a table that fits stands for it
abbrev pub IsReadAgain : Type 0
IsReadAgain = (table : Table) → IsTable table → Fits table → length (written table) ≤ max_fork → StandsFor (written table) table

-- the same within any limits that the format can say
abbrev pub IsReadAgainWithin : Type 0
IsReadAgainWithin = (limits : Limits) (table : Table) → limits.fork ≤ format_limits.fork → limits.bytes ≤ format_limits.bytes →
    IsTable table → FitsWithin limits table → IsSmallWithin limits table → StandsForWithin limits (written table) table

-- each datum begins where three bytes can say, in data of so many bytes: in all that macheap writes
abbrev pub ArePlacesLow : Type 0
ArePlacesLow = (rows : List Row) → length (data_text rows) ≤ 16777216 → PlacesFit length 0 rows

-- no bytes stand for two tables
abbrev pub StandsForOne : Type 0
StandsForOne = (fork : List ℕ) (a b : Table) → StandsFor fork a → StandsFor fork b → a ≡ b

-- numbers below 256
abbrev pub AreBytes : List ℕ → Type 0
AreBytes bytes = (k : ℕ) → slice_index bytes k < 256

-- the rows of one type are together in what bytes stand for
abbrev pub IsReadGroupedWithin : Limits → Type 0
IsReadGroupedWithin limits = (fork : List ℕ) (table : Table) → StandsForWithin limits fork table → IsGrouped table.rows

-- what bytes stand for is a table, which may be written again
abbrev pub IsReadWholeWithin : Limits → Type 0
IsReadWholeWithin limits = (fork : List ℕ) (table : Table) → AreBytes fork → StandsForWithin limits fork table → IsTable table

-- the same, as macheap reads forks
abbrev pub IsReadGrouped : Type 0
IsReadGrouped = IsReadGroupedWithin macheap_limits

abbrev pub IsReadWhole : Type 0
IsReadWhole = IsReadWholeWithin macheap_limits
