-- What C learns of the bytes of a resource fork.
use Rattle.std.specs.Prelude.{◌≡◌, ◌⊎◌, ℕ, ℤ, pos, ◌==◌, if◌then◌else◌, List, [], length, Option, Some, None, is_some, option_map, unwrap_or, Result, Ok, Err}
use Rattle.std.specs.List.{slice_get, slice_index}
use Rattle.std.specs.Option.{ok_or}
use Rattle.mac_base.specs.Codes.{code_of, minus}
use Rattle.mac_base.specs.declared.error.OsErr.{OsErr}
use Rattle.mac_base.specs.declared.error.OsErr.TheVariants.{EofErr, MapReadErr, MemFullErr, ParamErr, ResNotFound}
use Rattle.fork_bytes.specs.declared.fault.ForkFault.{ForkFault}
use Rattle.fork_bytes.specs.declared.fault.ForkFault.TheVariants.{EndOfFile, BadMap, HostFull}
use Rattle.fork_bytes.specs.Fork.{IsFork, Refuses, table_of}
use Rattle.fork_bytes.specs.Over.{IsOver}
use Rattle.fork_bytes.specs.Rows.{Row}
use Rattle.fork_bytes.specs.declared.table.Table.{Table}
use Rattle.fork_c.specs.declared.given.MfExtra.{MfExtra}
use Rattle.fork_c.specs.declared.rows.MfRow.{MfRow}
use Rattle.fork_c.specs.declared.rows.MfType.{MfType}

-- the code of a fork that has more bytes or resources than macheap reads, which no call of a Macintosh gives
abbrev pub too_big : ℤ
too_big = minus 1001

-- The code of a fault of the bytes: eofErr; that they have more than macheap reads, exactly where they do, and else
-- mapReadErr; or memFullErr.
abbrev pub IsCodeOf : List ℕ → ForkFault → ℤ → Type 0
IsCodeOf fork EndOfFile code = code ≡ code_of EofErr
IsCodeOf fork (BadMap condition) code = (IsOver fork × (code ≡ too_big)) ⊎ ((¬ IsOver fork) × (code ≡ code_of MapReadErr))
IsCodeOf fork HostFull code = code ≡ code_of MemFullErr

-- The bytes aren't read as a fork, and this is the code of a fault that they have.
abbrev pub IsRefused : List ℕ → ℤ → Type 0
IsRefused fork code = (fault : ForkFault) × Refuses fork fault × IsCodeOf fork fault code

-- what is found is shown; else there is the refusal's code, and what was there stays
abbrev pub Shows : {A : Type 0} → Result A OsErr → ℤ → A → A → Type 0
Shows (Ok found) code before shown = (code ≡ pos 0) × (shown ≡ found)
Shows (Err refusal) code before shown = (code ≡ code_of refusal) × (shown ≡ before)

-- C is shown what is found in the rows of the fork that the bytes are; where they aren't read as one, what was there
-- stays.
abbrev pub IsShown : {A : Type 0} → (List Row → Result A OsErr) → List ℕ → ℤ → A → A → Type 0
IsShown of fork code before shown = (IsFork fork × Shows (of (table_of fork).rows) code before shown) ⊎ (IsRefused fork code × (shown ≡ before))

-- a type as its four bytes
abbrev pub shown_type : List ℕ → MfType
shown_type kind = record { first = slice_index kind 0; second = slice_index kind 1; third = slice_index kind 2; fourth = slice_index kind 3 }

-- the bytes of a resource's name, none where it has none
abbrev pub name_of : Row → List ℕ
name_of row = unwrap_or row.name []

-- a resource as C is shown it: what it is called, how it is treated, and how many bytes its name and its data have
abbrev pub shown_row : Row → MfRow
shown_row row = record {
  kind = shown_type row.kind;
  id = row.id;
  attributes = row.attributes.0;
  has_name = is_some row.name;
  name_length = length (name_of row);
  data_length = length row.datum;
}

-- how many resources there are
abbrev pub count_in : List Row → Result ℕ OsErr
count_in rows = Ok (length rows)

-- one of them as C is shown it, or resNotFound
abbrev pub shown_in : ℕ → List Row → Result MfRow OsErr
shown_in index rows = ok_or (option_map shown_row (slice_get rows index)) ResNotFound

-- bytes, where C has room for just as many, or paramErr
abbrev pub sized : ℕ → List ℕ → Result (List ℕ) OsErr
sized count bytes = if length bytes == count then Ok bytes else Err ParamErr

-- some bytes of a resource, where there is one, or resNotFound
abbrev pub bytes_in : (Row → List ℕ) → ℕ → Option Row → Result (List ℕ) OsErr
bytes_in of count None = Err ResNotFound
bytes_in of count (Some row) = sized count (of row)

-- the bytes of one's name
abbrev pub name_in : ℕ → ℕ → List Row → Result (List ℕ) OsErr
name_in index count rows = bytes_in name_of count (slice_get rows index)

-- the data of one
abbrev pub data_in : ℕ → ℕ → List Row → Result (List ℕ) OsErr
data_in index count rows = bytes_in (λ (row : Row). row.datum) count (slice_get rows index)

-- what a table has beside its rows
abbrev pub extra_of : Table → MfExtra
extra_of table = record { bytes = table.extra; map_attributes = table.map_attributes }

-- C is shown what the fork that the bytes are has beside its rows; where they aren't read as one, what was there stays.
abbrev pub IsExtraShown : List ℕ → ℤ → MfExtra → MfExtra → Type 0
IsExtraShown fork code before shown = (IsFork fork × (code ≡ pos 0) × (shown ≡ extra_of (table_of fork))) ⊎ (IsRefused fork code × (shown ≡ before))
