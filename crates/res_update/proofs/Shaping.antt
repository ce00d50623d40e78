-- Rows with bytes of the same lengths: their forks differ in the data alone.
use Rattle.std.proofs.Common.{◌≡◌, refl, sym, ap, ◌∙◌, arith, ℕ, suc, ◌+◌, ◌*◌, List, [], ◌∷◌, ◌++◌, length, Bool, true, false, ◌&&◌}
use Rattle.std.specs.Prelude.{nat_le}
use Rattle.std.specs.Option.{option_map_or}
use Rattle.std.proofs.lemmas.List.{length-append, length-replicate}
use Rattle.byteorder.specs.Endian.{big_bytes}
use Rattle.mac_base.specs.HandleTable.{HandleTable}
use Rattle.fork_bytes.specs.declared.layout.Header.{Header}
use Rattle.fork_bytes.specs.declared.layout.TypeCount.{TypeCount}
use Rattle.fork_bytes.specs.declared.table.Table.{Table}
use Rattle.fork_bytes.specs.Rows as forks
use Rattle.fork_bytes.specs.Fork.{max_fork}
use Rattle.fork_bytes.specs.Written.{types_of, counted_before, count_bytes, entries_text, types_text, names_offset, datum, data_text, name_text, names_text, reference_text, references_text, header_for, header_text, map_header_text, front_text, map_text, written}
use Rattle.fork_bytes.proofs.Steps.{length-data, length-big_bytes}
use Rattle.fork_bytes.specs.declared.place.Place.{Place}
use Rattle.res_table.specs.declared.row.Row.{Row}
use Rattle.res_table.specs.declared.chain.ResourceTable.{ResourceTable}
use Rattle.res_table.specs.Saved.{saved_row}
use Rattle.res_update.specs.Fitting.{rows_fit, names_fit}
use Rattle.res_update.specs.declared.selection.Selection.{Selection}
use Rattle.res_update.specs.Drafts.{is_selected, row_bytes, draft_bytes, rows_with, fits_as_fork, new_places}
use Rattle.res_update.proofs.PlaceBytes.{length-on}
use Rattle.res_update.proofs.Saving.{new_bytes, final_bytes}

-- the bytes of each row are as many by both, where the first row has this index
abbrev pub AreAlike : (ℕ → Row Place → List ℕ) → (ℕ → Row Place → List ℕ) → ℕ → List (Row Place) → Type 0
AreAlike text other at [] = Unit {0}
AreAlike text other at (r ∷ rows) = (length (text at r) ≡ length (other at r)) × AreAlike text other (at + 1) rows

-- zeros are as many as the bytes that are kept
row_alike : (fork : List ℕ) (t : HandleTable) (r : Row Place) (b : Bool) → length (row_bytes t b r) ≡ length (new_bytes fork t b r)
row_alike fork t r true = refl
row_alike fork t r false = length-replicate r.resource.datum.length 0 ∙ sym (length-on fork r.resource.datum)

pub are_alike : (fork : List ℕ) (t : HandleTable) (s : Selection) (rows : List (Row Place)) (at : ℕ) → AreAlike (draft_bytes t s) (final_bytes fork t s) at rows
are_alike fork t s [] at = tt
are_alike fork t s (r ∷ rows) at = (row_alike fork t r (is_selected s at r), are_alike fork t s rows (at + 1))

-- what looks at no bytes
pub same_types : (f g : ℕ → Row Place → List ℕ) (at : ℕ) (rows : List (Row Place)) → types_of (rows_with f at rows) ≡ types_of (rows_with g at rows)
same_types f g at [] = refl
same_types f g at (r ∷ rows) = ap (counted_before r.resource.kind 1) (same_types f g (at + 1) rows)

pub same_names : (f g : ℕ → Row Place → List ℕ) (at : ℕ) (rows : List (Row Place)) → names_text (rows_with f at rows) ≡ names_text (rows_with g at rows)
same_names f g at [] = refl
same_names f g at (r ∷ rows) = ap (λ (xs : List ℕ). name_text r.resource.name ++ xs) (same_names f g (at + 1) rows)

pub same_fit : (f g : ℕ → Row Place → List ℕ) (at next : ℕ) (rows : List (Row Place)) → names_fit next (rows_with f at rows) ≡ names_fit next (rows_with g at rows)
same_fit f g at next [] = refl
same_fit f g at next (r ∷ rows) =
    ap (λ (b : Bool). option_map_or (λ (name : List ℕ). nat_le next 65534) r.resource.name true && b) (same_fit f g (at + 1) (next + length (name_text r.resource.name)) rows)

pub same_count : (f : ℕ → Row Place → List ℕ) (at : ℕ) (rows : List (Row Place)) → length (rows_with f at rows) ≡ length rows
same_count f at [] = refl
same_count f at (r ∷ rows) = ap suc (same_count f (at + 1) rows)

pub same_offset : (f g : ℕ → Row Place → List ℕ) (at : ℕ) (rows : List (Row Place)) → names_offset (rows_with f at rows) ≡ names_offset (rows_with g at rows)
same_offset f g at rows =
    let types = ap (λ (ts : List TypeCount). length ts) (same_types f g at rows) in
    let one = same_count f at rows in let other = same_count g at rows in omega arith

-- what looks at their lengths alone
pub same_long : (f g : ℕ → Row Place → List ℕ) (at : ℕ) (rows : List (Row Place)) → AreAlike f g at rows → length (data_text (rows_with f at rows)) ≡ length (data_text (rows_with g at rows))
same_long f g at [] alike = refl
same_long f g at (r ∷ rows) alike =
    let here = alike.0 in let others = same_long f g (at + 1) rows alike.1 in
    let one = length-data (saved_row (λ (_ : Place). f at r) r) (rows_with f (at + 1) rows) in
    let other = length-data (saved_row (λ (_ : Place). g at r) r) (rows_with g (at + 1) rows) in omega arith

datum_long : (row : forks.Row) → length (datum row) ≡ 4 + length row.datum
datum_long row =
    let whole = length-append (big_bytes 4 (length row.datum)) row.datum in
    let four = length-big_bytes 4 (length row.datum) in omega arith

same_references : (f g : ℕ → Row Place → List ℕ) (at next place : ℕ) (rows : List (Row Place)) → AreAlike f g at rows
    → references_text next place (rows_with f at rows) ≡ references_text next place (rows_with g at rows)
same_references f g at next place [] alike = refl
same_references f g at next place (r ∷ rows) alike =
    let one = saved_row (λ (_ : Place). f at r) r in let other = saved_row (λ (_ : Place). g at r) r in
    let long : length (datum one) ≡ length (datum other) = datum_long one ∙ ap (λ (n : ℕ). 4 + n) alike.0 ∙ sym (datum_long other) in
    let after = next + length (name_text r.resource.name) in
    ap (λ (n : ℕ). reference_text next place one ++ references_text after (place + n) (rows_with f (at + 1) rows)) long
    ∙ ap (λ (xs : List ℕ). reference_text next place one ++ xs) (same_references f g (at + 1) after (place + length (datum other)) rows alike.1)

-- the same numbers are the same header
same_header : (f g : ℕ → Row Place → List ℕ) (at : ℕ) (rows : List (Row Place)) → AreAlike f g at rows → header_for (rows_with f at rows) ≡ header_for (rows_with g at rows)
same_header f g at rows alike =
    let long = same_long f g at rows alike in let offset = same_offset f g at rows in
    let names = ap (λ (xs : List ℕ). length xs) (same_names f g at rows) in
    let F = rows_with f at rows in let G = rows_with g at rows in
    ap (λ (n : ℕ). record { data_offset = 256; map_offset = 256 + n; data_length = n; map_length = names_offset F + length (names_text F) }) long
    ∙ ap (λ (n : ℕ). record { data_offset = 256; map_offset = 256 + length (data_text G); data_length = length (data_text G); map_length = n + length (names_text F) }) offset
    ∙ ap (λ (n : ℕ). record { data_offset = 256; map_offset = 256 + length (data_text G); data_length = length (data_text G); map_length = names_offset G + n }) names

-- the table of such rows
abbrev pub table_with : (ℕ → Row Place → List ℕ) → ResourceTable Place → Table
table_with f table = record { rows = rows_with f 0 table.rows; extra = table.extra; map_attributes = table.map_attributes }

pub same_front : (f g : ℕ → Row Place → List ℕ) (table : ResourceTable Place) → AreAlike f g 0 table.rows → front_text (table_with f table) ≡ front_text (table_with g table)
same_front f g table alike = ap (λ (h : Header). header_text h ++ table.extra) (same_header f g 0 table.rows alike)

pub same_map : (f g : ℕ → Row Place → List ℕ) (table : ResourceTable Place) → AreAlike f g 0 table.rows → map_text (table_with f table) ≡ map_text (table_with g table)
same_map f g table alike =
    let F = rows_with f 0 table.rows in let G = rows_with g 0 table.rows in let marks = table.map_attributes in
    let header = map_header_text (header_for G) marks (names_offset G) in
    ap (λ (h : Header). map_header_text h marks (names_offset F) ++ (types_text F ++ (references_text 0 0 F ++ names_text F))) (same_header f g 0 table.rows alike)
    ∙ ap (λ (n : ℕ). map_header_text (header_for G) marks n ++ (types_text F ++ (references_text 0 0 F ++ names_text F))) (same_offset f g 0 table.rows)
    ∙ ap (λ (types : List TypeCount). header ++ ((count_bytes (length types) ++ entries_text (2 + 8 * length types) types) ++ (references_text 0 0 F ++ names_text F))) (same_types f g 0 table.rows)
    ∙ ap (λ (xs : List ℕ). header ++ (types_text G ++ (xs ++ names_text F))) (same_references f g 0 0 0 table.rows alike)
    ∙ ap (λ (xs : List ℕ). header ++ (types_text G ++ (references_text 0 0 G ++ xs))) (same_names f g 0 table.rows)

-- only the data differ
pub written_with : (f g : ℕ → Row Place → List ℕ) (table : ResourceTable Place) → AreAlike f g 0 table.rows
    → written (table_with f table) ≡ front_text (table_with g table) ++ (data_text (rows_with f 0 table.rows) ++ map_text (table_with g table))
written_with f g table alike =
    ap (λ (xs : List ℕ). xs ++ (data_text (rows_with f 0 table.rows) ++ map_text (table_with f table))) (same_front f g table alike)
    ∙ ap (λ (xs : List ℕ). front_text (table_with g table) ++ (data_text (rows_with f 0 table.rows) ++ xs)) (same_map f g table alike)

pub same_length : (f g : ℕ → Row Place → List ℕ) (table : ResourceTable Place) → AreAlike f g 0 table.rows → length (written (table_with f table)) ≡ length (written (table_with g table))
same_length f g table alike =
    let front = front_text (table_with g table) in let last = map_text (table_with g table) in
    let F = data_text (rows_with f 0 table.rows) in let G = data_text (rows_with g 0 table.rows) in
    let one = ap (λ (xs : List ℕ). length xs) (written_with f g table alike) ∙ length-append front (F ++ last) in let one_rest = length-append F last in
    let other = length-append front (G ++ last) in let other_rest = length-append G last in
    let long = same_long f g 0 table.rows alike in omega arith

-- both fit, or neither does
pub same_fits : (f g : ℕ → Row Place → List ℕ) (table : ResourceTable Place) → AreAlike f g 0 table.rows → fits_as_fork (table_with f table) ≡ fits_as_fork (table_with g table)
same_fits f g table alike =
    let rows = table.rows in
    ap (λ (n : ℕ). (nat_le n 8192 && (nat_le (names_offset (rows_with f 0 rows)) 65535 && names_fit 0 (rows_with f 0 rows))) && nat_le (length (written (table_with f table))) max_fork)
    (same_count f 0 rows ∙ sym (same_count g 0 rows))
    ∙ ap (λ (n : ℕ). (nat_le (length (rows_with g 0 rows)) 8192 && (nat_le n 65535 && names_fit 0 (rows_with f 0 rows))) && nat_le (length (written (table_with f table))) max_fork) (same_offset f g 0 rows)
    ∙ ap (λ (b : Bool). (nat_le (length (rows_with g 0 rows)) 8192 && (nat_le (names_offset (rows_with g 0 rows)) 65535 && b)) && nat_le (length (written (table_with f table))) max_fork) (same_fit f g 0 0 rows)
    ∙ ap (λ (n : ℕ). rows_fit (rows_with g 0 rows) && nat_le n max_fork) (same_length f g table alike)

-- the places are the same
pub same_places : (f g : ℕ → Row Place → List ℕ) (start at : ℕ) (rows : List (Row Place)) → AreAlike f g at rows → new_places start (rows_with f at rows) ≡ new_places start (rows_with g at rows)
same_places f g start at [] alike = refl
same_places f g start at (r ∷ rows) alike =
    ap (λ (n : ℕ). record { offset = start + 4; length = n } ∷ new_places (start + 4 + n) (rows_with f (at + 1) rows)) alike.0
    ∙ ap (λ (rest : List Place). record { offset = start + 4; length = length (g at r) } ∷ rest) (same_places f g (start + 4 + length (g at r)) (at + 1) rows alike.1)
