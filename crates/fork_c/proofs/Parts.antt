-- The rows that C gives, one after the other.
use Rattle.std.proofs.Common.{◌≡◌, ℕ, ◌≤◌, ◌==◌, ◌&&◌, ◌∷◌, ◌++◌, Bool, true, false, List, [], length, take, drop, arith, refl, sym, ap, ◌∙◌}
use Rattle.std.specs.Prelude.{nat_le, Option, Some, None, option_map, if◌then◌else◌}
use Rattle.std.proofs.lemmas.List.{append_assoc, append-nil, drop_all}
use Rattle.std.proofs.lemmas.Bool.{leb-true}
use Rattle.fork_bytes.specs.declared.table.Table.{Table}
use Rattle.fork_bytes.specs.Rows.{Row}
use Rattle.fork_c.specs.declared.given.MfExtra.{MfExtra}
use Rattle.fork_c.specs.declared.rows.MfRow.{MfRow}
use Rattle.fork_c.specs.Given.{are_grouped, has_parts, row_given, rows_given, table_given}

-- rows, and after them these, if there are any
abbrev pub following : List Row → Option (List Row) → Option (List Row)
following before rest = option_map (λ (others : List Row). before ++ others) rest

-- one more row
after_one : (before : List Row) (row : Row) (rest : Option (List Row)) → following before (option_map (λ (others : List Row). row ∷ others) rest) ≡ following (before ++ row ∷ []) rest
after_one before row None = refl
after_one before row (Some others) = ap Some (sym (append_assoc before (row ∷ []) others))

-- what is left of rows with their names and data, after the first of them
abbrev pub left_after : MfRow → List MfRow → List ℕ → List ℕ → Option (List Row)
left_after row rows names contents = rows_given rows (drop row.name_length names) (drop row.data_length contents)

-- its row
abbrev pub first_given : MfRow → List ℕ → List ℕ → Row
first_given row names contents = row_given row (take row.name_length names) (take row.data_length contents)

-- what rows give, of which the first has its parts, or hasn't
abbrev pub if_parts : Bool → MfRow → List MfRow → List ℕ → List ℕ → Option (List Row)
if_parts has row rows names contents = if has then option_map (λ (others : List Row). first_given row names contents ∷ others) (left_after row rows names contents) else None

-- a row that has its parts goes to those that were given before
pub given_more : (all : Option (List Row)) (left : List MfRow) (row : MfRow) (rows : List MfRow) (before : List Row) (names contents : List ℕ) → has_parts row names contents ≡ true →
    left ≡ row ∷ rows → all ≡ following before (rows_given left names contents) →
    (after : List Row) (given : Row) (name datum other_names other_contents : List ℕ) → after ≡ before ++ given ∷ [] → given ≡ row_given row name datum →
    name ≡ take row.name_length names → datum ≡ take row.data_length contents → other_names ≡ drop row.name_length names → other_contents ≡ drop row.data_length contents →
    all ≡ following after (rows_given rows other_names other_contents)
given_more all left row rows before names contents parts is so_far after given name datum other_names other_contents after_is given_is name_is datum_is names_is contents_is =
    let one : given ≡ first_given row names contents = given_is ∙ (ap (λ (bytes : List ℕ). row_given row bytes datum) name_is ∙ ap (λ (bytes : List ℕ). row_given row (take row.name_length names) bytes) datum_is) in
    let more : before ++ first_given row names contents ∷ [] ≡ after = ap (λ (r : Row). before ++ r ∷ []) (sym one) ∙ sym after_is in
    let here : rows_given left names contents ≡ if_parts true row rows names contents = ap (λ (ls : List MfRow). rows_given ls names contents) is ∙ ap (λ b. if_parts b row rows names contents) parts in
    let others : left_after row rows names contents ≡ rows_given rows other_names other_contents =
    ap (λ (bytes : List ℕ). rows_given rows bytes (drop row.data_length contents)) (sym names_is) ∙ ap (λ (bytes : List ℕ). rows_given rows other_names bytes) (sym contents_is) in
    so_far ∙ (ap (following before) here
    ∙ (after_one before (first_given row names contents) (left_after row rows names contents)
    ∙ (ap (λ (rest : List Row). following rest (left_after row rows names contents)) more ∙ ap (following after) others)))

-- what rows without bytes give, where none are left over
abbrev if_none_left : Bool → Option (List Row)
if_none_left none = if none then Some [] else None

-- the rows are all that C gives
pub all_given : (all : Option (List Row)) (rows : List MfRow) (n : ℕ) (before given : List Row) (names contents : List ℕ) → length rows ≤ n → all ≡ following before (rows_given (drop n rows) names contents) →
    (length names == 0) ≡ true → (length contents == 0) ≡ true → given ≡ before → Some given ≡ all
all_given all rows n before given names contents end so_far no_names no_contents is =
    let here : rows_given (drop n rows) names contents ≡ if_none_left true =
    ap (λ (rs : List MfRow). rows_given rs names contents) (drop_all n rows end) ∙ (ap (λ a. if_none_left (a && (length contents == 0))) no_names ∙ ap if_none_left no_contents)
    in
    ap Some (is ∙ sym (append-nil before)) ∙ (sym (ap (following before) here) ∙ sym so_far)

-- bytes are left over after all rows
pub left_over : (all : Option (List Row)) (rows : List MfRow) (n : ℕ) (before : List Row) (names contents : List ℕ) → length rows ≤ n → all ≡ following before (rows_given (drop n rows) names contents) →
    ((length names == 0) && (length contents == 0)) ≡ false → None ≡ all
left_over all rows n before names contents end so_far some =
    let here : rows_given (drop n rows) names contents ≡ if_none_left false = ap (λ (rs : List MfRow). rows_given rs names contents) (drop_all n rows end) ∙ ap if_none_left some in
    sym (so_far ∙ ap (following before) here)

-- a row lacks one of its parts
pub parts_missing : (all : Option (List Row)) (left : List MfRow) (row : MfRow) (rows : List MfRow) (before : List Row) (names contents : List ℕ) → has_parts row names contents ≡ false →
    left ≡ row ∷ rows → all ≡ following before (rows_given left names contents) → None ≡ all
parts_missing all left row rows before names contents missing is so_far =
    let here : rows_given left names contents ≡ if_parts false row rows names contents = ap (λ (ls : List MfRow). rows_given ls names contents) is ∙ ap (λ b. if_parts b row rows names contents) missing in
    sym (so_far ∙ ap (following before) here)

three : (a b c : Bool) → (a && b && c) ≡ true → (a ≡ true) × (b ≡ true) × (c ≡ true)
three true true true is = (refl, refl, refl)
three true true false is = absurd (cc is)
three true false c is = absurd (cc is)
three false b c is = absurd (cc is)

at_most : (b : Bool) → (if b then 255 else 0) ≤ 255
at_most true = omega arith
at_most false = omega arith

-- the parts that a row has, the first of those that are left
pub parts_fit : (left : List MfRow) (row : MfRow) (rows : List MfRow) (names contents : List ℕ) → left ≡ row ∷ rows → has_parts row names contents ≡ true → (row.name_length ≤ 255) × (row.name_length ≤ length names) × (row.data_length ≤ length contents)
parts_fit left row rows names contents is has =
    let tests = three (nat_le row.name_length (if row.has_name then 255 else 0)) (nat_le row.name_length (length names)) (nat_le row.data_length (length contents)) has in
    let short = leb-true row.name_length (if row.has_name then 255 else 0) tests.0 in let most = at_most row.has_name in
    (omega arith, leb-true row.name_length (length names) tests.1, leb-true row.data_length (length contents) tests.2)

-- the rows of a table that is given are together
pub given_together : (extra : MfExtra) (rows : Option (List Row)) (table : Table) → table_given extra rows ≡ Some table → are_grouped table.rows ≡ true
given_together extra None table is = absurd (cc is)
given_together extra (Some rows) table is = by_case (are_grouped rows) refl is
  where
    by_case : (b : Bool) → are_grouped rows ≡ b → (if b then Some (record { rows = rows; extra = extra.bytes; map_attributes = extra.map_attributes }) else None) ≡ Some table → are_grouped table.rows ≡ true
    by_case true grouped is = let same : rows ≡ table.rows = cc in ap are_grouped (sym same) ∙ grouped
    by_case false grouped is = absurd (cc is)
