-- The table of a fork that C gives, and what C learns of the fork that is written for it.
use Rattle.std.specs.Prelude.{◌≡◌, ◌⊎◌, ℕ, ℤ, ◌==◌, ◌&&◌, ◌||◌, not, nat_le, Bool, true, if◌then◌else◌, List, [], ◌∷◌, length, take, drop, Option, Some, None, option_map, Result, Ok, bytes_eq}
use Rattle.std.specs.List.{list_any}
use Rattle.mac_base.specs.Codes.{minus}
use Rattle.mac_base.specs.declared.error.OsErr.{OsErr}
use Rattle.fork_bytes.specs.declared.table.Table.{Table}
use Rattle.fork_bytes.specs.Fork.{StandsFor}
use Rattle.fork_bytes.specs.Rows.{Row}
use Rattle.fork_bytes.specs.Written.{IsTooBig, written}
use Rattle.fork_c.specs.declared.given.MfExtra.{MfExtra}
use Rattle.fork_c.specs.declared.rows.MfRow.{MfRow}
use Rattle.fork_c.specs.declared.rows.MfType.{MfType}
use Rattle.fork_c.specs.Told.{Shows}

-- a type of four bytes
abbrev pub type_given : MfType → List ℕ
type_given kind = kind.first ∷ kind.second ∷ kind.third ∷ kind.fourth ∷ []

-- whether the bytes of a row's name and of its data begin these; a name has 255 bytes at most, and none where the row
-- has no name
abbrev pub has_parts : MfRow → List ℕ → List ℕ → Bool
has_parts row names contents = nat_le row.name_length (if row.has_name then 255 else 0) && nat_le row.name_length (length names) && nat_le row.data_length (length contents)

-- the row with this name and these data
abbrev pub row_given : MfRow → List ℕ → List ℕ → Row
row_given row name datum = record {
  kind = type_given row.kind;
  id = row.id;
  name = if row.has_name then Some name else None;
  attributes = record { 0 = row.attributes };
  datum = datum;
}

-- the rows of these, whose names and data follow one another; none where bytes of a name or a datum are missing, or
-- some are left over
abbrev pub rows_given : List MfRow → List ℕ → List ℕ → Option (List Row)
rows_given [] names contents = if (length names == 0) && (length contents == 0) then Some [] else None
rows_given (row ∷ rows) names contents =
    if has_parts row names contents
    then option_map (λ (others : List Row). row_given row (take row.name_length names) (take row.data_length contents) ∷ others) (rows_given rows (drop row.name_length names) (drop row.data_length contents))
    else None

-- whether a row of this type may be before these: the first of them has the type, or none has
abbrev pub may_precede : List ℕ → List Row → Bool
may_precede kind [] = true
may_precede kind (first ∷ others) = bytes_eq first.kind kind || not (list_any (λ (row : Row). bytes_eq row.kind kind) others)

-- whether rows of one type are together
abbrev pub are_grouped : List Row → Bool
are_grouped [] = true
are_grouped (row ∷ rows) = may_precede row.kind rows && are_grouped rows

-- the table with these rows, where those of one type are together
abbrev pub table_given : MfExtra → Option (List Row) → Option Table
table_given extra None = None
table_given extra (Some rows) = if are_grouped rows then Some (record { rows = rows; extra = extra.bytes; map_attributes = extra.map_attributes }) else None

-- the bytes are the written form of the table that is given, and stand for it
abbrev pub IsForkOf : Option Table → List ℕ → Type 0
IsForkOf None fork = ⊥
IsForkOf (Some table) fork = StandsFor fork table × (fork ≡ written table)

-- No fork is written: no table is given (paramErr), it is too big (dskFulErr), or the host has no memory (memFullErr).
abbrev pub IsUnwritten : Option Table → ℤ → Type 0
IsUnwritten None code = (code ≡ minus 50) ⊎ (code ≡ minus 108)
IsUnwritten (Some table) code = (IsTooBig table × (code ≡ minus 34)) ⊎ (code ≡ minus 108)

-- C is shown something of the fork that is written for the table it gives; where none is, what was there stays.
abbrev pub IsWritten : {A : Type 0} → (List ℕ → Result A OsErr) → Option Table → ℤ → A → A → Type 0
IsWritten of table code before shown = ((fork : List ℕ) × IsForkOf table fork × Shows (of fork) code before shown) ⊎ (IsUnwritten table code × (shown ≡ before))

-- how many bytes there are
abbrev pub size_of : List ℕ → Result ℕ OsErr
size_of fork = Ok (length fork)
