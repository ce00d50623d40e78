-- A table is read again.
use Rattle.std.proofs.Common.{◌≡◌, ℕ, suc, ◌+◌, ◌<◌, inl, inr, true, false, eqb, List, [], ◌∷◌, ◌++◌, length, map, take, drop, replicate, Option, Some, None, Ok, refl, sym, ap, subst, ◌∙◌, append_assoc, append-nil, arith}
use Rattle.std.specs.Prelude.{◌==◌, All, IfSome}
use Rattle.std.specs.List.{flat_map, list_all, push, AllByRecursion}
use Rattle.std.specs.Fmt.{signed_decimal}
use Rattle.std.proofs.lemmas.Bool.{cond-true, cond-false, cases_Bool, eqb-true, and_parts}
use Rattle.std.proofs.lemmas.List.{length-append, take_at, drop_at}
use Rattle.byteorder.specs.Endian.{big_bytes, big_number}
use Rattle.byteorder.specs.Numbers.{big_number-reads_back}
use Rattle.fork_bytes.specs.Rows.{Row}
use Rattle.fork_bytes.specs.declared.table.Table.{Table}
use Rattle.fork_rez.specs.declared.fault.Expected.TheVariants.{CommentEnd, Mark}
use Rattle.fork_rez.specs.Text.{attributes_text, commented, lines_of, line_text, map_bytes, map_word, name_text, row_text, text_of, written}
use Rattle.fork_rez.specs.Reading.{◌>>=◌, after_blanks, all_of, if_there, kind_at, kind_in, many, map_at, map_in, resource_at, row_at, string_at, table_at, word_at}
use Rattle.fork_rez.specs.Laws.{IsRow, IsTable}
use Rattle.fork_rez.proofs.Words.{own_word}
use Rattle.fork_rez.proofs.Many.{many_again, same_many, few, pushed}
use Rattle.fork_rez.proofs.Bytes.{kind_characters}
use Rattle.fork_rez.proofs.Numbers.{id_again}
use Rattle.fork_rez.proofs.Attributes.{attributes_again, name_again, name_stops}
use Rattle.fork_rez.proofs.Data.{Small, data_again, one_line}

-- bytes one by one
small_of : (bytes : List ℕ) → All (λ byte. byte < 256) bytes → Small bytes
small_of [] all = tt
small_of (byte ∷ bytes) all = (all 0 0 (omega arith), small_of bytes (λ k d below. all (suc k) d (omega arith)))

small_name : (name : Option (List ℕ)) → IfSome name (λ n. All (λ byte. byte < 256) n) → IfSome name (λ n. Small n)
small_name None all = tt
small_name (Some name) all = small_of name all

-- a type
kind_begins : (text : List ℕ) → kind_at (32 ∷ 39 ∷ text) ≡ kind_in text
unfolding kind_at word_at after_blanks
kind_begins text = refl

kind_inside : (kind rest : List ℕ) → Small kind → length kind ≡ 4 → kind_in (flat_map (written 39) kind ++ 39 ∷ rest) ≡ Ok (kind, rest)
unfolding kind_in
kind_inside kind rest all four = rw (kind_characters kind rest all, four) refl

kind_again : (kind rest : List ℕ) → Small kind → length kind ≡ 4 → kind_at (32 ∷ 39 ∷ (flat_map (written 39) kind ++ 39 ∷ rest)) ≡ Ok (kind, rest)
kind_again kind rest all four = kind_begins (flat_map (written 39) kind ++ 39 ∷ rest) ∙ kind_inside kind rest all four

-- marks
open_mark : (rest : List ℕ) → word_at (40 ∷ []) (Mark 40) (32 ∷ 40 ∷ rest) ≡ Ok rest
unfolding word_at after_blanks
open_mark rest = refl

close_mark : (rest : List ℕ) → word_at (41 ∷ []) (Mark 41) (41 ∷ rest) ≡ Ok rest
unfolding word_at after_blanks
close_mark rest = refl

inside_mark : (rest : List ℕ) → word_at (123 ∷ []) (Mark 123) (32 ∷ 123 ∷ rest) ≡ Ok rest
unfolding word_at after_blanks
inside_mark rest = refl

outside_mark : (rest : List ℕ) → word_at (125 ∷ []) (Mark 125) (125 ∷ rest) ≡ Ok rest
unfolding word_at after_blanks
outside_mark rest = refl

last_mark : (rest : List ℕ) → word_at (59 ∷ []) (Mark 59) (59 ∷ rest) ≡ Ok rest
unfolding word_at after_blanks
last_mark rest = refl

-- a resource
resource_again : (row : Row) (rest : List ℕ) → IsRow row
    → resource_at (32 ∷ 39 ∷ (flat_map (written 39) row.kind ++ 39 ∷ 32 ∷ 40 ∷ (signed_decimal row.id ++ (name_text row.name ++ (attributes_text row.attributes.0 ++ 41 ∷ 32 ∷ 123 ∷ 10 ∷
    (flat_map commented (lines_of row.datum) ++ 125 ∷ 59 ∷ rest)))))) ≡ Ok (row, rest)
unfolding resource_at
resource_again row rest is =
    let last : List ℕ = 59 ∷ rest in
    let outside : List ℕ = 125 ∷ last in
    let datum : List ℕ = flat_map commented (lines_of row.datum) ++ outside in
    let inside : List ℕ = 32 ∷ 123 ∷ 10 ∷ datum in
    let attributes : List ℕ = attributes_text row.attributes.0 ++ 41 ∷ inside in
    let name : List ℕ = name_text row.name ++ attributes in
    let id : List ℕ = signed_decimal row.id ++ name in
    rw (kind_again row.kind (32 ∷ 40 ∷ id) (small_of row.kind is.kind) is.four)
    (rw (open_mark id)
    (rw (id_again row.id name is.id (name_stops row.name row.attributes.0 inside))
    (rw (name_again row.name row.attributes.0 inside (small_name row.name is.name) is.short)
    (rw (attributes_again row.attributes.0 inside is.attributes)
    (rw (close_mark inside)
    (rw (inside_mark (10 ∷ datum))
    (rw (data_again row.datum last (small_of row.datum is.datum))
    (rw (outside_mark last)
    (rw (last_mark rest) refl)))))))))

-- a statement
row_regrouped : (row : Row) (rest : List ℕ)
    → row_text row ++ rest ≡ 100 ∷ 97 ∷ 116 ∷ 97 ∷ 32 ∷ 39 ∷ (flat_map (written 39) row.kind ++ 39 ∷ 32 ∷ 40 ∷ (signed_decimal row.id ++ (name_text row.name
    ++ (attributes_text row.attributes.0 ++ 41 ∷ 32 ∷ 123 ∷ 10 ∷ (flat_map commented (lines_of row.datum) ++ 125 ∷ 59 ∷ 10 ∷ 10 ∷ rest)))))
row_regrouped row rest = simp append_assoc

row_begins : (text : List ℕ) → row_at (100 ∷ 97 ∷ 116 ∷ 97 ∷ text) ≡ (resource_at text >>= λ row. Ok (Some row.0, row.1))
unfolding row_at after_blanks
row_begins text = refl

row_again : (row : Row) (rest : List ℕ) → IsRow row → row_at (row_text row ++ rest) ≡ Ok (Some row, 10 ∷ 10 ∷ rest)
row_again row rest is = ap row_at (row_regrouped row rest) ∙ row_begins _ ∙ rw (resource_again row (10 ∷ 10 ∷ rest) is) refl

row_skipped : (rest : List ℕ) → row_at (10 ∷ 10 ∷ rest) ≡ row_at rest
unfolding row_at after_blanks
row_skipped rest = refl

rows_end : row_at [] ≡ Ok (None, [])
unfolding row_at after_blanks
rows_end = refl

some_row : (row : Row) → IsRow row → 0 < length (row_text row)
some_row row is = omega arith

rows_same : (rows : List Row) → map (λ row. row) rows ≡ rows
rows_same [] = refl
rows_same (row ∷ rows) = ap (λ (rs : List Row). row ∷ rs) (rows_same rows)

-- all rows
pub rows_many : (rows : List Row) (n : ℕ) → AllByRecursion IsRow rows → length rows < n → many push row_at n [] (flat_map row_text rows) ≡ Ok (rows, [])
rows_many rows n all short =
    ap (many push row_at n []) (sym (append-nil (flat_map row_text rows)))
    ∙ many_again push row_at row_text (λ _. 10 ∷ 10 ∷ []) (λ row. row) IsRow row_again (λ row rest is. row_skipped rest) [] [] rows_end rows all n [] short
    ∙ ap (λ (rs : List Row). Ok (rs, [])) (pushed (λ row. row) [] rows ∙ rows_same rows)

-- the rows after the map's bytes
rows_after : (rows : List Row) → AllByRecursion IsRow rows → all_of push row_at [] (flat_map row_text rows) ≡ Ok (rows, [])
rows_after rows all =
    let text : List ℕ = flat_map row_text rows in
    let short : length rows < suc (length text) = subst (λ (t : List ℕ). length rows < suc (length t)) (append-nil text) (few row_text IsRow some_row rows [] all) in
    rows_many rows (suc (length text)) all short

rows_later : (rows : List Row) → AllByRecursion IsRow rows → all_of push row_at [] (10 ∷ 10 ∷ flat_map row_text rows) ≡ Ok (rows, [])
rows_later rows all =
    let text : List ℕ = flat_map row_text rows in
    let short : length rows < suc (length text) = subst (λ (t : List ℕ). length rows < suc (length t)) (append-nil text) (few row_text IsRow some_row rows [] all) in
    same_many push row_at (suc (suc (length text))) [] (10 ∷ 10 ∷ text) text (row_skipped text) ∙ rows_many rows (suc (suc (suc (length text)))) all (omega arith)

-- the map's bytes, where all are 0
zeros : (bytes : List ℕ) → list_all (λ byte. byte == 0) bytes ≡ true → bytes ≡ replicate (length bytes) 0
zeros [] all = refl
zeros (byte ∷ bytes) all =
    let parts = and_parts (eqb byte 0) (list_all (λ b. b == 0) bytes) all in
    let first : byte ≡ 0 = eqb-true byte 0 parts.0 in
    let others = zeros bytes parts.1 in
    cc

no_map : (rows : List Row) → map_at (flat_map row_text rows) ≡ Ok (replicate 242 0, flat_map row_text rows)
unfolding map_at
no_map [] = refl
no_map (row ∷ rows) = refl

-- and where they are in the comment
map_begins : (text : List ℕ) → map_at (map_word ++ text) ≡ map_in text
unfolding map_at
map_begins text = ap (λ (o : Option (List ℕ)). if_there o map_in (Ok (replicate 242 0, map_word ++ text))) (own_word map_word text)

no_string : (text : List ℕ) → string_at (10 ∷ 42 ∷ 47 ∷ text) ≡ Ok (None, 42 ∷ 47 ∷ text)
unfolding string_at after_blanks
no_string text = refl

comment_here : (text : List ℕ) → word_at (42 ∷ 47 ∷ []) CommentEnd (42 ∷ 47 ∷ text) ≡ Ok text
unfolding word_at after_blanks
comment_here text = refl

map_inside : (bytes text : List ℕ) → Small bytes → length bytes ≡ 242 → map_in (10 ∷ (line_text bytes ++ 10 ∷ 42 ∷ 47 ∷ text)) ≡ Ok (bytes, text)
unfolding map_in
map_inside bytes text all whole =
    rw (one_line bytes (10 ∷ 42 ∷ 47 ∷ text) (42 ∷ 47 ∷ text) all (no_string text)) (rw (comment_here text) (rw whole refl))

-- the table of its parts
whole_table : (text rest bytes : List ℕ) (rows : List Row) → map_at text ≡ Ok (bytes, rest) → all_of push row_at [] rest ≡ Ok (rows, [])
    → table_at text ≡ Ok (record { rows = rows; extra = take 240 bytes; map_attributes = big_number 2 (drop 240 bytes) })
unfolding table_at after_blanks
whole_table text rest bytes rows front back = rw front (rw back refl)

small_append : (a b : List ℕ) → Small a → Small b → Small (a ++ b)
small_append [] b all others = others
small_append (x ∷ a) b all others = (all.0, small_append a b all.1 others)

module _ (table : Table) (is : IsTable table) where
  bytes_long : length (map_bytes table) ≡ 242
  bytes_long = length-append table.extra (big_bytes 2 table.map_attributes) ∙ ap (λ (n : ℕ). n + 2) is.count

  parts_again : (bytes : List ℕ) → bytes ≡ map_bytes table → record { rows = table.rows; extra = take 240 bytes; map_attributes = big_number 2 (drop 240 bytes) } ≡ table
  parts_again bytes same =
      let extra : take 240 bytes ≡ table.extra = ap (take 240) same ∙ take_at table.extra (big_bytes 2 table.map_attributes) 240 is.count in
      let back : drop 240 bytes ≡ big_bytes 2 table.map_attributes = ap (drop 240) same ∙ drop_at table.extra (big_bytes 2 table.map_attributes) 240 is.count in
      let number : big_number 2 (drop 240 bytes) ≡ table.map_attributes =
      ap (big_number 2) (back ∙ sym (append-nil (big_bytes 2 table.map_attributes))) ∙ big_number-reads_back 2 table.map_attributes [] (omega (arith, is.map_attributes)) in
      rw (extra, number) refl

  small_bytes : Small (map_bytes table)
  small_bytes = small_append table.extra (big_bytes 2 table.map_attributes) (small_of table.extra is.extra) (omega arith, (omega arith, tt))

  rows : List ℕ
  rows = flat_map row_text table.rows

  unkept : list_all (λ byte. byte == 0) (map_bytes table) ≡ true → table_at (text_of table) ≡ Ok table
  unfolding rows
  unkept none =
      let same : replicate 242 0 ≡ map_bytes table = ap (λ (n : ℕ). replicate n 0) (sym bytes_long) ∙ sym (zeros (map_bytes table) none) in
      ap (λ (t : List ℕ). table_at (t ++ rows)) (cond-true _ _ _ none)
      ∙ whole_table rows rows (replicate 242 0) table.rows (no_map table.rows) (rows_after table.rows is.rows)
      ∙ ap (λ (t : Table). Ok t) (parts_again (replicate 242 0) same)

  kept : list_all (λ byte. byte == 0) (map_bytes table) ≡ false → table_at (text_of table) ≡ Ok table
  unfolding rows
  kept some =
      let bytes : List ℕ = map_bytes table in
      let tail : List ℕ = 10 ∷ 42 ∷ 47 ∷ 10 ∷ 10 ∷ [] in
      let rest : List ℕ = 10 ∷ 10 ∷ rows in
      let regrouped : (map_word ++ 10 ∷ (line_text bytes ++ tail)) ++ rows ≡ map_word ++ 10 ∷ (line_text bytes ++ 10 ∷ 42 ∷ 47 ∷ rest) =
      append_assoc map_word (10 ∷ (line_text bytes ++ tail)) rows ∙ ap (λ (t : List ℕ). map_word ++ 10 ∷ t) (append_assoc (line_text bytes) tail rows) in
      let front : map_at ((map_word ++ 10 ∷ (line_text bytes ++ tail)) ++ rows) ≡ Ok (bytes, rest) =
      ap map_at regrouped ∙ map_begins (10 ∷ (line_text bytes ++ 10 ∷ 42 ∷ 47 ∷ rest)) ∙ map_inside bytes rest small_bytes bytes_long in
      ap (λ (t : List ℕ). table_at (t ++ rows)) (cond-false _ _ _ some)
      ∙ whole_table ((map_word ++ 10 ∷ (line_text bytes ++ tail)) ++ rows) rest bytes table.rows front (rows_later table.rows is.rows)
      ∙ ap (λ (t : Table). Ok t) (parts_again bytes refl)

  pub table_again : table_at (text_of table) ≡ Ok table
  table_again = elim (cases_Bool (list_all (λ byte. byte == 0) (map_bytes table))) [ inl none ↦ unkept none | inr some ↦ kept some ]
