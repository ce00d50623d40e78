-- The data that were written are read again.
use Rattle.std.proofs.Common.{◌≡◌, ℕ, ◌+◌, ◌≤◌, List, [], ◌∷◌, ◌++◌, length, map, refl, ap, ◌∙◌, arith}
use Rattle.std.specs.Prelude.{sum_by}
use Rattle.std.proofs.lemmas.List.{append_assoc, length-append}
use Rattle.std.proofs.lemmas.List.Sums.{sum_by-cons}
use Rattle.byteorder.specs.Endian.{big_bytes}
use Rattle.fork_bytes.specs.Rows.{Row, MapRow}
use Rattle.fork_bytes.specs.Fork.{number_at, bytes_at, datum_length, row_with, HasData}
use Rattle.fork_bytes.specs.Written.{datum, data_text}
use Rattle.fork_bytes.proofs.Steps.{length-data, length-big_bytes}
use Rattle.fork_bytes.proofs.ReadBack.{number_in, bytes_in, after, length-after}

-- a row as the map lists it, where its datum is at this place
abbrev pub row_at : ℕ → Row → MapRow
row_at place row = record { kind = row.kind; id = row.id; name = row.name; attributes = row.attributes; datum = place }

-- rows as the map lists them, where the first datum is at this place
abbrev pub rows_for : ℕ → List Row → List MapRow
rows_for place [] = []
rows_for place (row ∷ rows) = row_at place row ∷ rows_for (place + length (datum row)) rows

-- the length of a row's bytes is before them
length_is : (parts before rest : List ℕ) (place : ℕ) (row : Row) → parts ≡ before ++ (datum row ++ rest) → length before ≡ place →
    length row.datum ≤ 268435456 → datum_length parts place ≡ length row.datum
length_is parts before rest place row is long few =
    let size = big_bytes 4 (length row.datum) in
    ap (number_at 4 place) (is ∙ ap (λ (xs : List ℕ). before ++ xs) (append_assoc size row.datum rest))
    ∙ number_in 4 (length row.datum) place before (row.datum ++ rest) long (omega arith)

-- a row's bytes
bytes_are : (parts before rest : List ℕ) (place : ℕ) (row : Row) → parts ≡ before ++ (datum row ++ rest) → length before ≡ place →
    length row.datum ≤ 268435456 → row_with parts (row_at place row) ≡ row
bytes_are parts before rest place row is long few =
    let size = big_bytes 4 (length row.datum) in
    let split = is ∙ ap (λ (xs : List ℕ). before ++ xs) (append_assoc size row.datum rest) in
    let after_size = after parts before size (row.datum ++ rest) split in
    let with : List ℕ → Row = λ bytes. record { kind = row.kind; id = row.id; name = row.name; attributes = row.attributes; datum = bytes } in
    ap (λ (n : ℕ). with (bytes_at n (place + 4) parts)) (length_is parts before rest place row is long few)
    ∙ ap (λ (xs : List ℕ). with (bytes_at (length row.datum) (place + 4) xs)) after_size
    ∙ ap with (bytes_in (length row.datum) (place + 4) (before ++ size) row.datum rest (length-after place 4 before size long refl) refl)

-- the first row's data, and those of the others
data_split : (parts before rest : List ℕ) (row : Row) (rows : List Row) → parts ≡ before ++ (data_text (row ∷ rows) ++ rest) → parts ≡ before ++ (datum row ++ (data_text rows ++ rest))
data_split parts before rest row rows is = is ∙ ap (λ (xs : List ℕ). before ++ xs) (append_assoc (datum row) (data_text rows) rest)

-- all rows
pub rows_with_data : (parts before rest : List ℕ) (place : ℕ) (rows : List Row) → parts ≡ before ++ (data_text rows ++ rest) → length before ≡ place →
    length (data_text rows) ≤ 268435456 → map (row_with parts) (rows_for place rows) ≡ rows
rows_with_data parts before rest place [] is long few = refl
rows_with_data parts before rest place (row ∷ rows) is long few =
    let split = data_split parts before rest row rows is in
    let whole = length-data row rows in
    let one = bytes_are parts before (data_text rows ++ rest) place row split long (omega arith) in
    let others = rows_with_data parts (before ++ datum row) rest (place + length (datum row)) rows (after parts before (datum row) (data_text rows ++ rest) split)
    (length-after place (length (datum row)) before (datum row) long refl) (omega arith) in
    ap (λ (r : Row). r ∷ map (row_with parts) (rows_for (place + length (datum row)) rows)) one ∙ ap (λ (rs : List Row). row ∷ rs) others

-- the data of each row lie within
pub data_within : (parts before rest : List ℕ) (place : ℕ) (rows : List Row) → parts ≡ before ++ (data_text rows ++ rest) → length before ≡ place →
    length (data_text rows) ≤ 268435456 → HasData parts (rows_for place rows)
data_within parts before rest place [] is long few = tt
data_within parts before rest place (row ∷ rows) is long few =
    let split = data_split parts before rest row rows is in
    let whole = length-data row rows in
    let size = length_is parts before (data_text rows ++ rest) place row split long (omega arith) in
    let all = ap (λ (xs : List ℕ). length xs) split ∙ length-append before (datum row ++ (data_text rows ++ rest)) in
    let one = length-append (datum row) (data_text rows ++ rest) in
    let own = length-append (big_bytes 4 (length row.datum)) row.datum in
    let four = length-big_bytes 4 (length row.datum) in (
      (omega arith, omega arith),
      data_within parts (before ++ datum row) rest (place + length (datum row)) rows (after parts before (datum row) (data_text rows ++ rest) split)
          (length-after place (length (datum row)) before (datum row) long refl) (omega arith),
    )

-- together they are all data
pub data_count : (parts before rest : List ℕ) (place : ℕ) (rows : List Row) → parts ≡ before ++ (data_text rows ++ rest) → length before ≡ place →
    length (data_text rows) ≤ 268435456 → sum_by (λ (r : MapRow). 4 + datum_length parts r.datum) (rows_for place rows) ≡ length (data_text rows)
data_count parts before rest place [] is long few = refl
data_count parts before rest place (row ∷ rows) is long few =
    let split = data_split parts before rest row rows is in
    let whole = length-data row rows in
    let size = length_is parts before (data_text rows ++ rest) place row split long (omega arith) in
    let others = data_count parts (before ++ datum row) rest (place + length (datum row)) rows (after parts before (datum row) (data_text rows ++ rest) split)
    (length-after place (length (datum row)) before (datum row) long refl) (omega arith) in
    let sum = sum_by-cons (λ (r : MapRow). 4 + datum_length parts r.datum) (row_at place row) (rows_for (place + length (datum row)) rows) in
    omega arith
