-- Forks that are known byte by byte.
use Rattle.std.proofs.Common.{◌≡◌, ℕ, ◌+◌, ◌*◌, lit≤, List, [], ◌∷◌, ◌++◌, length, Some, None, refl, codes, replicate, pos, negsuc, eqb, arith}
use Rattle.std.specs.Prelude.{filter, not}
use Rattle.std.specs.Char.{digit_value}
use Rattle.fork_bytes.specs.declared.fault.Condition.{Condition}
use Rattle.fork_bytes.specs.declared.fault.Condition.TheVariants.{Parts, Types, References, RowCount, Names, Places, ByteCount}
use Rattle.fork_bytes.specs.Rows.{Row}
use Rattle.fork_bytes.specs.declared.table.Table.{Table}
use Rattle.fork_bytes.specs.Fork.{table_of, Holds, StandsFor}
use Rattle.fork_bytes.specs.Written.{written}

-- the bytes of hexadecimal digits, two digits for each
abbrev pairs : List ℕ → List ℕ
pairs [] = []
pairs (odd ∷ []) = []
pairs (high ∷ low ∷ digits) = (16 * digit_value high + digit_value low) ∷ pairs digits

-- the same, where spaces may be between the digits
abbrev hex : List ℕ → List ℕ
hex digits = pairs (filter (λ digit. not (eqb digit 32)) digits)

-- a table with these rows
abbrev with_rows : List Row → Table
with_rows rows = record { rows = rows; extra = replicate 240 0; map_attributes = 0 }

-- no rows
abbrev empty_fork : List ℕ
empty_fork =
    hex (codes "00000100 00000100 00000000 0000001E") ++ replicate 240 0
    ++ hex (codes "00000100 00000100 00000000 0000001E 00000000 0000 0000 001C 001E FFFF")

empty_is_written : written (with_rows []) ≡ empty_fork
empty_is_written = refl

empty_is_286 : length empty_fork ≡ 286
empty_is_286 = refl

empty_holds : (condition : Condition) → Holds condition empty_fork
empty_holds Parts = record { small = lit≤ tt; whole_data = lit≤ tt; whole_map = lit≤ tt; map_header = lit≤ tt }
empty_holds Types = record { count = lit≤ tt; entries = lit≤ tt; distinct = λ i j d below within. absurd (omega arith) }
empty_holds References = tt
empty_holds RowCount = lit≤ tt
empty_holds Names = tt
empty_holds Places = tt
empty_holds ByteCount = lit≤ tt

empty_stands : StandsFor empty_fork (with_rows [])
empty_stands = (record { header = lit≤ tt; holds = empty_holds }, refl)

-- one row: "Hi"
abbrev hi : Row
hi = record { kind = codes "TEXT"; id = pos 128; name = None; attributes = record { 0 = 0 }; datum = codes "Hi" }

abbrev hi_map : List ℕ
hi_map = hex (codes "00000100 00000106 00000006 00000032 00000000 0000 0000 001C 0032 0000 54455854 0000 000A 0080 FFFF 00 000000 00000000")

abbrev hi_fork : List ℕ
hi_fork = hex (codes "00000100 00000106 00000006 00000032") ++ replicate 240 0 ++ hex (codes "00000002 4869") ++ hi_map

hi_is_written : written (with_rows (hi ∷ [])) ≡ hi_fork
hi_is_written = refl

hi_is_312 : length hi_fork ≡ 312
hi_is_312 = refl

hi_is_read : table_of hi_fork ≡ with_rows (hi ∷ [])
hi_is_read = refl

-- the map before the data
abbrev map_first : List ℕ
map_first = hex (codes "00000132 00000100 00000006 00000032") ++ replicate 240 0 ++ hi_map ++ hex (codes "00000002 4869")

map_first_holds : (condition : Condition) → Holds condition map_first
map_first_holds Parts = record { small = lit≤ tt; whole_data = lit≤ tt; whole_map = lit≤ tt; map_header = lit≤ tt }
map_first_holds Types = record { count = lit≤ tt; entries = lit≤ tt; distinct = λ i j d below within. absurd (omega arith) }
map_first_holds References = (lit≤ tt, tt)
map_first_holds RowCount = lit≤ tt
map_first_holds Names = (tt, tt)
map_first_holds Places = ((lit≤ tt, lit≤ tt), tt)
map_first_holds ByteCount = lit≤ tt

map_first_stands : StandsFor map_first (with_rows (hi ∷ []))
map_first_stands = (record { header = lit≤ tt; holds = map_first_holds }, refl)

-- two rows with one type and one id
abbrev letter : List ℕ → Row
letter bytes = record { kind = codes "TEXT"; id = pos 5; name = None; attributes = record { 0 = 0 }; datum = bytes }

abbrev letters_fork : List ℕ
letters_fork =
    hex (codes "00000100 0000010A 0000000A 0000003E") ++ replicate 240 0
    ++ hex (codes "00000001 61 00000001 62")
    ++ hex (codes "00000100 0000010A 0000000A 0000003E 00000000 0000 0000 001C 003E 0000 54455854 0001 000A")
    ++ hex (codes "0005 FFFF 00 000000 00000000 0005 FFFF 00 000005 00000000")

letters_are_written : written (with_rows (letter (codes "a") ∷ letter (codes "b") ∷ [])) ≡ letters_fork
letters_are_written = refl

letters_are_328 : length letters_fork ≡ 328
letters_are_328 = refl

letters_are_read : table_of letters_fork ≡ with_rows (letter (codes "a") ∷ letter (codes "b") ∷ [])
letters_are_read = refl

-- a row with a name, an id below 0 and the attributes without a name
abbrev named : Row
named = record { kind = codes "STR "; id = negsuc 0; name = Some (codes "ab"); attributes = record { 0 = 129 }; datum = codes "Hi" }

abbrev named_fork : List ℕ
named_fork =
    hex (codes "00000100 00000106 00000006 00000035") ++ replicate 240 0 ++ hex (codes "00000002 4869")
    ++ hex (codes "00000100 00000106 00000006 00000035 00000000 0000 0000 001C 0032 0000 53545220 0000 000A FFFF 0000 81 000000 00000000 02 6162")

named_is_written : written (with_rows (named ∷ [])) ≡ named_fork
named_is_written = refl

named_is_315 : length named_fork ≡ 315
named_is_315 = refl

named_is_read : table_of named_fork ≡ with_rows (named ∷ [])
named_is_read = refl
