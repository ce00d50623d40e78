-- A fork as a whole.
use Rattle.std.proofs.Common.{◌≡◌, ℕ, ◌≤◌, List, length, map, subst, sym, ap, ◌∙◌, arith}
use Rattle.fork_bytes.specs.declared.fault.Condition.TheVariants.{Parts, Places}
use Rattle.fork_bytes.specs.declared.layout.Header.{Header}
use Rattle.fork_bytes.specs.declared.layout.Limits.{Limits}
use Rattle.fork_bytes.specs.declared.table.Table.{Table}
use Rattle.fork_bytes.specs.Rows.{Row}
use Rattle.fork_bytes.specs.Fork.{bytes_at, header_of, map_of, map_rows, table_of, extra_of, attributes_of, HasPartsWithin, IsForkWithin, StandsForWithin}
use Rattle.fork_bytes.specs.Reading.{placed_rows, row_at}
use Rattle.fork_bytes.proofs.Placing.{rows_are_at, length-part}

-- the rows of the table are the placed rows with the bytes at their places
pub rows_of_table : (limits : Limits) (fork : List ℕ) → IsForkWithin limits fork → (table_of fork).rows ≡ map (row_at fork) (placed_rows fork)
rows_of_table limits fork is = rows_are_at fork (is.holds Parts).whole_data (map_rows (map_of fork)) (is.holds Places)

-- a table by its parts
pub table_is : (fork : List ℕ) (rows : List Row) (extra : List ℕ) (attributes : ℕ) → rows ≡ (table_of fork).rows → extra ≡ extra_of fork → attributes ≡ attributes_of (map_of fork) →
    (let made : Table = record { rows = rows; extra = extra; map_attributes = attributes } in made) ≡ table_of fork
table_is fork rows extra attributes same after marks =
    ap (λ (r : List Row). record { rows = r; extra = extra; map_attributes = attributes }) same
    ∙ ap (λ (e : List ℕ). record { rows = (table_of fork).rows; extra = e; map_attributes = attributes }) after
    ∙ ap (λ (n : ℕ). record { rows = (table_of fork).rows; extra = extra_of fork; map_attributes = n }) marks

-- the parts of a table that stand for the fork
pub stands : (limits : Limits) (fork : List ℕ) (rows : List Row) (extra : List ℕ) (attributes : ℕ) → IsForkWithin limits fork → rows ≡ map (row_at fork) (placed_rows fork) →
    extra ≡ extra_of fork → attributes ≡ attributes_of (map_of fork) → StandsForWithin limits fork (record { rows = rows; extra = extra; map_attributes = attributes })
stands limits fork rows extra attributes is same after marks = (is, table_is fork rows extra attributes (same ∙ sym (rows_of_table limits fork is)) after marks)

-- what a header that was read says of the fork
pub parts_of_fork : (limits : Limits) (fork : List ℕ) (header : Header) → header ≡ header_of fork → HasPartsWithin limits (length fork) header → HasPartsWithin limits (length fork) (header_of fork)
parts_of_fork limits fork header is parts = let P : Header → Type 0 = HasPartsWithin limits (length fork) in subst P is parts

-- the map's bytes
pub map_is : (fork : List ℕ) (header : Header) → header ≡ header_of fork → (bytes : List ℕ) → bytes ≡ bytes_at header.map_length header.map_offset fork → bytes ≡ map_of fork
map_is fork header is bytes cut = cut ∙ ap (λ (h : Header). bytes_at h.map_length h.map_offset fork) is

pub map_is_long : (limits : Limits) (fork : List ℕ) (header : Header) → header ≡ header_of fork → HasPartsWithin limits (length fork) header → (bytes : List ℕ) →
    bytes ≡ bytes_at header.map_length header.map_offset fork → 28 ≤ length bytes
map_is_long limits fork header is parts bytes cut =
    let long = ap (λ (xs : List ℕ). length xs) cut ∙ length-part header.map_length header.map_offset fork parts.whole_map in
    let least = parts.map_header in omega arith
