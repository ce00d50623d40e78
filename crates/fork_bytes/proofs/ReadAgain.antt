-- What is written is read again.
use Rattle.std.proofs.Common.{◌≡◌, ◌≢◌, ℕ, zero, suc, ◌+◌, ◌*◌, ◌<◌, ◌≤◌, List, [], ◌∷◌, ◌++◌, length, map, get_or, slice_index, IfSome, AllPairs, refl, sym, subst, ap, ◌∙◌, arith, if◌then◌else◌, Bool, true, false, bytes_eq}
use Rattle.std.specs.List.{flat_map, AllByRecursion}
use Rattle.std.specs.Prelude.{sum_by}
use Rattle.std.proofs.lemmas.List.{append_assoc, length-append, append-nil}
use Rattle.fork_bytes.specs.declared.layout.TypeCount.{TypeCount}
use Rattle.fork_bytes.specs.declared.layout.Header.{Header}
use Rattle.fork_bytes.specs.declared.layout.Limits.{Limits}
use Rattle.fork_bytes.specs.declared.table.Table.{Table}
use Rattle.fork_bytes.specs.declared.fault.Condition.{Condition}
use Rattle.fork_bytes.specs.declared.fault.Condition.TheVariants.{Parts, Types, References, RowCount, Names, Places, ByteCount}
use Rattle.fork_bytes.specs.Rows.{Row, MapRow}
use Rattle.fork_bytes.specs.Fork.{Reference, TypeEntry, macheap_limits, rows_by, places, name_place, datum_length, header_of, map_of, attributes_of, type_list, entry_at, entries_of, references_in, references_of, map_row, map_rows, row_with, table_of, HasPartsWithin, HasTypes, HasReferences, HasFewRowsWithin, HasNames, HasData, HasFewBytesWithin, HoldsWithin}
use Rattle.fork_bytes.specs.Written.{types_of, counted_before, count_bytes, entries_text, types_text, first_references, names_offset, data_text, names_text, references_text, header_for, map_header_text, map_text, written, FitsWithin, IsSmallWithin}
use Rattle.fork_bytes.specs.Laws.{IsRow, IsTable, IsReadAgain, IsReadAgainWithin, StandsForOne}
use Rattle.fork_bytes.proofs.Lengths.{AreFour, length-entries, length-references, length-written}
use Rattle.fork_bytes.proofs.Room.{few_by, few_bytes_by}
use Rattle.fork_bytes.proofs.Front.{IsSmall, header_is, extra_is, data_is, map_is, length-map, attributes_are, types_stand, names_stand, types_are}
use Rattle.fork_bytes.proofs.ReadEntries.{entries_for, total-types_of, entries_are, references_for, references_are}
use Rattle.fork_bytes.proofs.ReadData.{rows_for, rows_with_data, data_within, data_count}
use Rattle.fork_bytes.proofs.ReadRows.{AllStand, rows_are, names_within, references_within}
use Rattle.fork_bytes.proofs.Sized.{few_places}

-- no bytes stand for two tables
pub stands_for_one : StandsForOne
stands_for_one fork a b first second = first.1 ∙ sym second.1

-- types are of four bytes where those of the rows are
four_counted : (kind : List ℕ) (types : List TypeCount) → length kind ≡ 4 → AreFour types → AreFour (counted_before kind 1 types)
four_counted kind [] four others = (four, tt)
four_counted kind (first ∷ types) four others = by_case (bytes_eq kind first.kind)
  where
    by_case : (b : Bool) → AreFour (if b then record { kind = kind; count = 1 + first.count } ∷ types else record { kind = kind; count = 1 } ∷ first ∷ types)
    by_case true = (four, others.1)
    by_case false = (four, others)

pub four_bytes : (rows : List Row) → AllByRecursion IsRow rows → AreFour (types_of rows)
four_bytes [] each = tt
four_bytes (row ∷ rows) each = four_counted row.kind (types_of rows) each.0.kind (four_bytes rows each.1)

-- no more types than rows
few_counted : (kind : List ℕ) (types : List TypeCount) → length (counted_before kind 1 types) ≤ 1 + length types
few_counted kind [] = omega arith
few_counted kind (first ∷ types) = by_case (bytes_eq kind first.kind)
  where
    by_case : (b : Bool) → length (if b then record { kind = kind; count = 1 + first.count } ∷ types else record { kind = kind; count = 1 } ∷ first ∷ types) ≤ 1 + length (first ∷ types)
    by_case true = omega arith
    by_case false = omega arith

pub few_types : (rows : List Row) → length (types_of rows) ≤ length rows
few_types [] = omega arith
few_types (row ∷ rows) = let one = few_counted row.kind (types_of rows) in let others = few_types rows in omega arith

-- how many references there are
length-references_for : (at : ℕ) (rows : List Row) → length (references_for at rows) ≡ length rows
length-references_for at [] = refl
length-references_for at (row ∷ rows) = let others = length-references_for (at + 12) rows in omega arith

-- how many entries there are, and of which types
length-entries_for : (at : ℕ) (types : List TypeCount) → length (entries_for at types) ≡ length types
length-entries_for at [] = refl
length-entries_for at (first ∷ others) = let rest = length-entries_for (at + 12 * first.count) others in omega arith

kind_at : (at : ℕ) (types : List TypeCount) (i : ℕ) (d : TypeEntry) (e : TypeCount) → i < length types → (get_or (entries_for at types) i d).kind ≡ (get_or types i e).kind
kind_at at [] i d e within = absurd (omega arith)
kind_at at (first ∷ others) zero d e within = refl
kind_at at (first ∷ others) (suc i) d e within = kind_at (at + 12 * first.count) others i d e (omega arith)

-- what is known of a table that is written
pub record IsWritten (limits : Limits) (table : Table) : Type 0 where
  pub is : IsTable table
  pub fits : FitsWithin limits table
  pub small : IsSmallWithin limits table
  pub bytes : length (data_text table.rows) ≤ 268435456
  pub parts : IsSmall table
  pub four : AreFour (types_of table.rows)
  pub few : length (types_of table.rows) ≤ length table.rows

pub known : (limits : Limits) (table : Table) → limits.fork ≤ 4294967295 → limits.bytes ≤ 268435456 → IsTable table → FitsWithin limits table → IsSmallWithin limits table → IsWritten limits table
known limits table most_fork most_bytes is fits small =
    let four = four_bytes table.rows is.rows in
    let whole = length-written table four in let extra = is.extra in let fork = small.fork in let bytes = small.bytes in
    record {
      is = is;
      fits = fits;
      small = small;
      bytes = omega arith;
      parts = record { extra = is.extra; whole = omega arith; small = omega arith };
      four = four;
      few = few_types table.rows;
    }

-- the entries that are read
pub entries_read : (limits : Limits) (table : Table) → IsWritten limits table → entries_of (map_text table) ≡ entries_for (first_references table.rows) (types_of table.rows)
entries_read limits table w =
    let rows = table.rows in let types = types_of rows in let resource_map = map_text table in
    let header = map_header_text (header_for rows) table.map_attributes (names_offset rows) in
    let rest = references_text 0 0 rows ++ names_text rows in
    let before = header ++ count_bytes (length types) in
    let split : resource_map ≡ before ++ (entries_text (first_references rows) types ++ rest) = refl in
    let few_rows = w.fits.few_rows in let few = w.few in let lists = w.fits.lists in let all = total-types_of rows in
    let start = types_stand table in
    let place : type_list resource_map + 2 ≡ 30 = omega arith in
    ap (λ (n : ℕ). map (entry_at resource_map) (places n (type_list resource_map + 2) 8)) (types_are table (omega arith))
    ∙ ap (λ (n : ℕ). map (entry_at resource_map) (places (length types) n 8)) place
    ∙ entries_are resource_map before rest (first_references rows) 30 types split refl start w.four (omega arith)

-- the references that are read
pub references_read : (limits : Limits) (table : Table) → IsWritten limits table → references_of (map_text table) ≡ references_for (28 + first_references table.rows) table.rows
references_read limits table w = ap (flat_map references_in) (entries_read limits table w) ∙ references_are (first_references table.rows) table.rows

-- the references and the names are in the map
all_stand : (limits : Limits) (table : Table) → IsWritten limits table →
    AllStand (map_text table) (map_header_text (header_for table.rows) table.map_attributes (names_offset table.rows) ++ types_text table.rows) (names_text table.rows)
    ((map_header_text (header_for table.rows) table.map_attributes (names_offset table.rows) ++ types_text table.rows) ++ references_text 0 0 table.rows) []
    (28 + first_references table.rows) 0 0 (names_offset table.rows) table.rows
all_stand limits table w =
    let rows = table.rows in let types = types_of rows in
    let header = map_header_text (header_for rows) table.map_attributes (names_offset rows) in
    let list = types_text rows in let references = references_text 0 0 rows in let names = names_text rows in
    let all = length-entries (first_references rows) types w.four in
    let types_long = length-append (count_bytes (length types)) (entries_text (first_references rows) types) in
    let before = length-append header list in
    let each = length-references 0 0 rows in
    let after_references = length-append (header ++ list) references in
    let header_long : length header ≡ 28 = refl in
    let two : length (count_bytes (length types)) ≡ 2 = refl in
    let whole = w.parts.whole in let small = w.parts.small in
    record {
      is = sym (append_assoc header list (references ++ names));
      long = omega arith;
      names = ap (λ (xs : List ℕ). header ++ (list ++ (references ++ xs))) (sym (append-nil names))
          ∙ sym (append_assoc header list (references ++ (names ++ []))) ∙ sym (append_assoc (header ++ list) references (names ++ []));
      long_names = omega arith;
      start = names_stand table w.fits.lists;
      each = w.is.rows;
      low = w.fits.names;
      places = w.small.places;
    }

-- nothing is around the data
data_alone : (rows : List Row) → data_text rows ≡ [] ++ (data_text rows ++ [])
data_alone rows = sym (append-nil (data_text rows))

-- the rows that are read in the map
pub rows_read : (limits : Limits) (table : Table) → IsWritten limits table → map_rows (map_text table) ≡ rows_for 0 table.rows
rows_read limits table w =
    ap (map (map_row (map_text table))) (references_read limits table w)
    ∙ rows_are (map_text table) _ (names_text table.rows) _ [] (28 + first_references table.rows) 0 0 (names_offset table.rows) table.rows (all_stand limits table w)

-- the same parts are the same table
abbrev table_with : List Row → List ℕ → ℕ → Table
table_with rows extra attributes = record { rows = rows; extra = extra; map_attributes = attributes }

same_table : (a p : List Row) (b q : List ℕ) (c r : ℕ) → a ≡ p → b ≡ q → c ≡ r → table_with a b c ≡ table_with p q r
same_table a p b q c r first second third =
    ap (λ (x : List Row). table_with x b c) first ∙ ap (λ (x : List ℕ). table_with p x c) second ∙ ap (λ (x : ℕ). table_with p q x) third

-- the table that is read
pub table_is : (limits : Limits) (table : Table) → IsWritten limits table → table_of (written table) ≡ table
table_is limits table w =
    let fork = written table in let rows = table.rows in
    same_table _ _ _ _ _ _
    (ap (λ (parts : List ℕ). map (row_with parts) (map_rows (map_of fork))) (data_is table w.parts)
    ∙ ap (λ (m : List ℕ). map (row_with (data_text rows)) (map_rows m)) (map_is table w.parts)
    ∙ ap (map (row_with (data_text rows))) (rows_read limits table w)
    ∙ rows_with_data (data_text rows) [] [] 0 rows (data_alone rows) refl w.bytes)
    (extra_is table w.is.extra)
    (ap attributes_of (map_is table w.parts) ∙ attributes_are table w.is.map_attributes)

-- each condition holds
parts_hold : (limits : Limits) (table : Table) → IsWritten limits table → HasPartsWithin limits (length (written table)) (header_of (written table))
parts_hold limits table w =
    let P : Header → Type 0 = λ h. HasPartsWithin limits (length (written table)) h in
    let whole = w.parts.whole in
    subst P (sym (header_is table w.parts)) (record { small = w.small.fork; whole_data = omega arith; whole_map = omega arith; map_header = omega arith })

distinct_entries : (at : ℕ) (types : List TypeCount) → AllPairs (λ (a b : TypeCount). a.kind ≢ b.kind) types → AllPairs (λ (a b : TypeEntry). a.kind ≢ b.kind) (entries_for at types)
distinct_entries at types apart i j d before within same =
    let long = length-entries_for at types in
    let e : TypeCount = record { kind = []; count = 0 } in
    apart i j e before (omega arith) (sym (kind_at at types i d e (omega arith)) ∙ same ∙ kind_at at types j d e (omega arith))

types_hold : (limits : Limits) (table : Table) → IsWritten limits table → HasTypes (map_text table)
types_hold limits table w =
    let rows = table.rows in let few_rows = w.fits.few_rows in let few = w.few in
    let start = types_stand table in let count = types_are table (omega arith) in let long = length-map table w.parts in
    let P : List TypeEntry → Type 0 = AllPairs (λ (a b : TypeEntry). a.kind ≢ b.kind) in
    record {
      count = omega arith;
      entries = omega arith;
      distinct = subst P (sym (entries_read limits table w)) (distinct_entries (first_references rows) (types_of rows) w.is.grouped);
    }

references_hold : (limits : Limits) (table : Table) → IsWritten limits table → HasReferences (map_text table)
references_hold limits table w =
    let P : List Reference → Type 0 = AllByRecursion (λ (r : Reference). r.place + 12 ≤ length (map_text table)) in
    subst P (sym (references_read limits table w))
    (references_within (map_text table) _ (names_text table.rows) _ [] (28 + first_references table.rows) 0 0 (names_offset table.rows) table.rows (all_stand limits table w))

rows_hold : (limits : Limits) (table : Table) → IsWritten limits table → HasFewRowsWithin limits (map_text table)
rows_hold limits table w =
    let rows = table.rows in let size = length (map_text table) in
    let read = ap (λ (rs : List Reference). length rs) (references_read limits table w) in
    let each = length-references_for (28 + first_references rows) rows in
    let long = length-map table w.parts in
    let P : ℕ → Type 0 = λ n. n ≤ rows_by limits.lists limits.rows size in
    subst P (sym (read ∙ each)) (few_by limits.lists limits.rows (length rows) size w.fits.few_rows (omega arith))

names_hold : (limits : Limits) (table : Table) → IsWritten limits table → HasNames (map_text table)
names_hold limits table w =
    let m = map_text table in
    let P : List Reference → Type 0 = AllByRecursion (λ (r : Reference). IfSome (name_place m r.place) (λ at. at + 1 + slice_index m at ≤ length m)) in
    subst P (sym (references_read limits table w))
    (names_within m _ (names_text table.rows) _ [] (28 + first_references table.rows) 0 0 (names_offset table.rows) table.rows (all_stand limits table w))

data_hold : (limits : Limits) (table : Table) → IsWritten limits table → HasData (data_text table.rows) (map_rows (map_text table))
data_hold limits table w =
    let parts = data_text table.rows in
    let P : List MapRow → Type 0 = HasData parts in
    subst P (sym (rows_read limits table w)) (data_within parts [] [] 0 table.rows (data_alone table.rows) refl w.bytes)

bytes_hold : (limits : Limits) (table : Table) → IsWritten limits table → HasFewBytesWithin limits (data_text table.rows) (map_rows (map_text table))
bytes_hold limits table w =
    let parts = data_text table.rows in
    let sum : List MapRow → ℕ = sum_by (λ (r : MapRow). 4 + datum_length parts r.datum) in
    let read = ap sum (rows_read limits table w) in
    let all = data_count parts [] [] 0 table.rows (data_alone table.rows) refl w.bytes in
    let few = few_bytes_by limits.lists limits.bytes (length parts) (length parts) w.small.bytes (omega arith) in omega arith

all_hold : (limits : Limits) (table : Table) → IsWritten limits table → (condition : Condition) → HoldsWithin limits condition (written table)
all_hold limits table w Parts = parts_hold limits table w
all_hold limits table w Types = subst HasTypes (sym (map_is table w.parts)) (types_hold limits table w)
all_hold limits table w References = subst HasReferences (sym (map_is table w.parts)) (references_hold limits table w)
all_hold limits table w RowCount = subst (HasFewRowsWithin limits) (sym (map_is table w.parts)) (rows_hold limits table w)
all_hold limits table w Names = subst HasNames (sym (map_is table w.parts)) (names_hold limits table w)
all_hold limits table w Places =
    let P : List ℕ → Type 0 = λ m. HasData (data_text table.rows) (map_rows m) in
    let Q : List ℕ → Type 0 = λ parts. HasData parts (map_rows (map_of (written table))) in
    subst Q (sym (data_is table w.parts)) (subst P (sym (map_is table w.parts)) (data_hold limits table w))
all_hold limits table w ByteCount =
    let P : List ℕ → Type 0 = λ m. HasFewBytesWithin limits (data_text table.rows) (map_rows m) in
    let Q : List ℕ → Type 0 = λ parts. HasFewBytesWithin limits parts (map_rows (map_of (written table))) in
    subst Q (sym (data_is table w.parts)) (subst P (sym (map_is table w.parts)) (bytes_hold limits table w))

-- the written form of a table stands for it
pub read_again_within : IsReadAgainWithin
read_again_within limits table most_fork most_bytes is fits small =
    let w = known limits table most_fork most_bytes is fits small in
    let whole = w.parts.whole in
    (record { header = omega arith; holds = all_hold limits table w }, sym (table_is limits table w))

-- so it is within macheap's limits, where the data are less than the fork
pub read_again : IsReadAgain
read_again table is fits small =
    let whole = length-written table (four_bytes table.rows is.rows) in
    read_again_within macheap_limits table (omega arith) (omega arith) is fits (record { fork = small; bytes = omega arith; places = few_places 0 table.rows (omega arith) })
