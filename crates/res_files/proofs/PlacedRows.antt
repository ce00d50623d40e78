-- Rows of an open file that are changed: twice, not at all, and one after the other to their new places.
use Rattle.std.proofs.Common.{◌≡◌, refl, sym, ap, ◌∙◌, arith, ℕ, zero, suc, ◌+◌, ◌<◌, List, [], ◌∷◌, length, take, get_or, set, slice_get, Bool, true, false, Option, None, Some, find, cond}
use Rattle.std.specs.Prelude.{if◌then◌else◌}
use Rattle.std.specs.Option.{option_map, option_map_or, option_and_then}
use Rattle.mac_base.specs.declared.resource.ResAttrs.{ResAttrs}
use Rattle.fork_bytes.specs.declared.place.Place.{Place}
use Rattle.res_table.specs.declared.row.Row.{Row}
use Rattle.res_table.specs.declared.chain.ResourceTable.{ResourceTable}
use Rattle.res_table.specs.declared.chain.OpenFile.{OpenFile}
use Rattle.res_table.specs.declared.chain.RowPlace.{RowPlace}
use Rattle.res_table.specs.Attributes.{unmarked}
use Rattle.res_table.specs.Rows.{changed_at, with_attributes, with_datum}
use Rattle.res_table.specs.OpenFiles.{OpenFiles, is_numbered, table_in, table_of, row_at, with_rows, changed_file, rows_changed}
use Rattle.res_update.specs.declared.selection.Selection.{Selection}
use Rattle.res_update.specs.Drafts.{is_selected}
use Rattle.res_files.specs.Updating.{row_placed, rows_placed}

-- the rows of a file changed twice
twice_in : {D : Type 0} (k : ℕ) (change more : List (Row D) → List (Row D)) (files : List (OpenFile D)) → changed_file k more (changed_file k change files) ≡ changed_file k (λ rows. more (change rows)) files
twice_in k change more [] = refl
twice_in {D} k change more (f ∷ files) = by (is_numbered k f) refl (twice_in k change more files)
  where
    by : (b : Bool) → is_numbered k f ≡ b → changed_file k more (changed_file k change files) ≡ changed_file k (λ rows. more (change rows)) files
        → changed_file k more (if b then with_rows change f ∷ files else f ∷ changed_file k change files)
        ≡ (if b then with_rows (λ rows. more (change rows)) f ∷ files else f ∷ changed_file k (λ rows. more (change rows)) files)
    by true is deeper =
        ap (λ (b : Bool). if b then with_rows more (with_rows change f) ∷ files else with_rows change f ∷ changed_file k more files) is
    by false is deeper =
        ap (λ (b : Bool). if b then with_rows more f ∷ changed_file k change files else f ∷ changed_file k more (changed_file k change files)) is
        ∙ ap (λ (others : List (OpenFile D)). f ∷ others) deeper

pub twice_changed : {D : Type 0} (k : ℕ) (change more : List (Row D) → List (Row D)) (chain : OpenFiles D)
    → rows_changed k more (rows_changed k change chain) ≡ rows_changed k (λ rows. more (change rows)) chain
twice_changed {D} k change more chain = ap (λ (files : List (OpenFile D)). let now : OpenFiles D = record { files = files; current = chain.current } in now) (twice_in k change more chain.files)

-- two changes of the rows of a file are the same, where they are so for those rows
same_in : {D : Type 0} (k : ℕ) (change other : List (Row D) → List (Row D)) (files : List (OpenFile D))
    → ((table : ResourceTable D) → option_map table_in (find (is_numbered k) files) ≡ Some table → change table.rows ≡ other table.rows) → changed_file k change files ≡ changed_file k other files
same_in k change other [] same = refl
same_in {D} k change other (f ∷ files) same = by (is_numbered k f) same (λ deep. same_in k change other files deep)
  where
    by : (b : Bool) → ((table : ResourceTable D) → option_map table_in (cond b (Some f) (find (is_numbered k) files)) ≡ Some table → change table.rows ≡ other table.rows)
        → (((table : ResourceTable D) → option_map table_in (find (is_numbered k) files) ≡ Some table → change table.rows ≡ other table.rows) → changed_file k change files ≡ changed_file k other files)
        → (if b then with_rows change f ∷ files else f ∷ changed_file k change files) ≡ (if b then with_rows other f ∷ files else f ∷ changed_file k other files)
    by true here deeper =
        ap (λ (rows : List (Row D)). let file : OpenFile D = record { number = f.number; table = record { rows = rows; extra = f.table.extra; map_attributes = f.table.map_attributes } } in file ∷ files) (here f.table refl)
    by false here deeper = ap (λ (others : List (OpenFile D)). f ∷ others) (deeper here)

pub same_changed : {D : Type 0} (k : ℕ) (change other : List (Row D) → List (Row D)) (chain : OpenFiles D)
    → ((table : ResourceTable D) → table_of k chain ≡ Some table → change table.rows ≡ other table.rows) → rows_changed k change chain ≡ rows_changed k other chain
same_changed {D} k change other chain same = ap (λ (files : List (OpenFile D)). let now : OpenFiles D = record { files = files; current = chain.current } in now) (same_in k change other chain.files same)

-- rows that are left as they are
left_in : {D : Type 0} (k : ℕ) (files : List (OpenFile D)) → changed_file k (λ rows. rows) files ≡ files
left_in k [] = refl
left_in {D} k (f ∷ files) = by (is_numbered k f) (left_in k files)
  where
    by : (b : Bool) → changed_file k (λ rows. rows) files ≡ files → (if b then with_rows (λ rows. rows) f ∷ files else f ∷ changed_file k (λ rows. rows) files) ≡ f ∷ files
    by true deeper = refl
    by false deeper = ap (λ (others : List (OpenFile D)). f ∷ others) deeper

pub left_changed : {D : Type 0} (k : ℕ) (change : List (Row D) → List (Row D)) (chain : OpenFiles D)
    → ((table : ResourceTable D) → table_of k chain ≡ Some table → change table.rows ≡ table.rows) → rows_changed k change chain ≡ chain
left_changed {D} k change chain same =
    same_changed k change (λ rows. rows) chain same ∙ ap (λ (files : List (OpenFile D)). let now : OpenFiles D = record { files = files; current = chain.current } in now) (left_in k chain.files)

-- the table of a file whose rows are changed
pub table_changed : {D : Type 0} (k : ℕ) (change : List (Row D) → List (Row D)) (files : List (OpenFile D)) → find (is_numbered k) (changed_file k change files) ≡ option_map (with_rows change) (find (is_numbered k) files)
table_changed k change [] = refl
table_changed {D} k change (f ∷ files) = by (is_numbered k f) refl (table_changed k change files)
  where
    by : (b : Bool) → is_numbered k f ≡ b → find (is_numbered k) (changed_file k change files) ≡ option_map (with_rows change) (find (is_numbered k) files)
        → find (is_numbered k) (if b then with_rows change f ∷ files else f ∷ changed_file k change files) ≡ option_map (with_rows change) (cond b (Some f) (find (is_numbered k) files))
    by true is deeper = ap (λ (b : Bool). cond b (Some (with_rows change f)) (find (is_numbered k) files)) is
    by false is deeper = ap (λ (b : Bool). cond b (Some f) (find (is_numbered k) (changed_file k change files))) is ∙ deeper

-- what was written at an index is there
get_set : {X : Type 0} (xs : List X) (i : ℕ) (x y : X) → slice_get xs i ≡ Some x → slice_get (set xs i y) i ≡ Some y
get_set [] i x y is = absurd (cc is)
get_set (z ∷ xs) zero x y is = refl
get_set (z ∷ xs) (suc i) x y is = get_set xs i x y is

-- an element that is written twice
set_twice : {X : Type 0} (xs : List X) (i : ℕ) (x y : X) → set (set xs i x) i y ≡ set xs i y
set_twice [] i x y = refl
set_twice (z ∷ xs) zero x y = refl
set_twice {X} (z ∷ xs) (suc i) x y = ap (λ (ys : List X). z ∷ ys) (set_twice xs i x y)

-- the row at an index, where there is one, and where there is none
changed_here : {D : Type 0} (at : ℕ) (change : Row D → Row D) (rows : List (Row D)) (r : Row D) → slice_get rows at ≡ Some r → changed_at at change rows ≡ set rows at (change r)
changed_here {D} at change rows r is = ap (λ (found : Option (Row D)). option_map_or (λ x. set rows at (change x)) found rows) is

changed_nowhere : {D : Type 0} (at : ℕ) (change : Row D → Row D) (rows : List (Row D)) → slice_get rows at ≡ None → changed_at at change rows ≡ rows
changed_nowhere {D} at change rows is = ap (λ (found : Option (Row D)). option_map_or (λ x. set rows at (change x)) found rows) is

-- it is changed twice
pub changed_twice : {D : Type 0} (at : ℕ) (change more both : Row D → Row D) (rows : List (Row D)) (r : Row D) → slice_get rows at ≡ Some r → more (change r) ≡ both r
    → changed_at at more (changed_at at change rows) ≡ changed_at at both rows
changed_twice {D} at change more both rows r is same =
    ap (changed_at at more) (changed_here at change rows r is)
    ∙ changed_here at more (set rows at (change r)) (change r) (get_set rows at r (change r) is)
    ∙ set_twice rows at (change r) (more (change r))
    ∙ ap (set rows at) same
    ∙ sym (changed_here at both rows r is)

-- the row of a chain at a place is in the table of its file
row_in : {D : Type 0} (place : RowPlace) (chain : OpenFiles D) (table : ResourceTable D) → table_of place.file chain ≡ Some table → row_at place chain ≡ slice_get table.rows place.index
row_in {D} place chain table is = ap (option_and_then (λ (found : ResourceTable D). slice_get found.rows place.index)) is

-- a chain without a row at a place is left as it is
pub no_row_changed : {D : Type 0} (place : RowPlace) (change : Row D → Row D) (chain : OpenFiles D) → row_at place chain ≡ None → rows_changed place.file (changed_at place.index change) chain ≡ chain
no_row_changed place change chain none =
    left_changed place.file (changed_at place.index change) chain (λ table is. changed_nowhere place.index change table.rows (sym (row_in place chain table is) ∙ none))

-- a row that is changed twice
pub row_changed_twice : {D : Type 0} (place : RowPlace) (change more both : Row D → Row D) (chain : OpenFiles D) (r : Row D) → row_at place chain ≡ Some r → more (change r) ≡ both r
    → rows_changed place.file (changed_at place.index more) (rows_changed place.file (changed_at place.index change) chain) ≡ rows_changed place.file (changed_at place.index both) chain
row_changed_twice place change more both chain r here same =
    twice_changed place.file (changed_at place.index change) (changed_at place.index more) chain
    ∙ same_changed place.file (λ rows. changed_at place.index more (changed_at place.index change rows)) (changed_at place.index both) chain
    (λ table is. changed_twice place.index change more both table.rows r (sym (row_in place chain table is) ∙ here) same)

-- a row that is changed is still there
pub row_changed_there : {D : Type 0} (place : RowPlace) (change : Row D → Row D) (chain : OpenFiles D) (r : Row D) → row_at place chain ≡ Some r
    → row_at place (rows_changed place.file (changed_at place.index change) chain) ≡ Some (change r)
row_changed_there {D} place change chain r here =
    ap (λ (found : Option (OpenFile D)). option_and_then (λ (table : ResourceTable D). slice_get table.rows place.index) (option_map table_in found)) (table_changed place.file (changed_at place.index change) chain.files)
    ∙ by (find (is_numbered place.file) chain.files) here
  where
    by : (found : Option (OpenFile D)) → option_and_then (λ (table : ResourceTable D). slice_get table.rows place.index) (option_map table_in found) ≡ Some r
        → option_and_then (λ (table : ResourceTable D). slice_get table.rows place.index) (option_map table_in (option_map (with_rows (changed_at place.index change)) found)) ≡ Some (change r)
    by None is = absurd (cc is)
    by (Some f) is = ap (λ (rows : List (Row D)). slice_get rows place.index) (changed_here place.index change f.table.rows r is) ∙ get_set f.table.rows place.index r (change r) is

-- the saved attributes and the new place are those of a row that is placed
pub placed_so : (b : Bool) (place : Place) (r : Row Place) (attributes : ResAttrs) → attributes ≡ (if b then unmarked r.resource.attributes else r.resource.attributes)
    → with_datum place (with_attributes attributes r) ≡ row_placed b place r
placed_so true place r attributes is = ap (λ (a : ResAttrs). with_datum place (with_attributes a r)) is
placed_so false place r attributes is = ap (λ (a : ResAttrs). with_datum place (with_attributes a r)) is

-- no places leave rows as they are
pub none_placed : (selection : Selection) (at : ℕ) (rows : List (Row Place)) → rows_placed selection at rows [] ≡ rows
none_placed selection at [] = refl
none_placed selection at (r ∷ rows) = refl

pub changed_after : (n : ℕ) (change : Row Place → Row Place) (r : Row Place) (rows : List (Row Place)) → changed_at (suc n) change (r ∷ rows) ≡ r ∷ changed_at n change rows
changed_after n change r rows = by (slice_get rows n)
  where
    by : (found : Option (Row Place)) → option_map_or (λ x. r ∷ set rows n (change x)) found (r ∷ rows) ≡ r ∷ option_map_or (λ x. set rows n (change x)) found rows
    by None = refl
    by (Some x) = refl

-- one place more, where the first row has this index
one_more_placed : (selection : Selection) (at i : ℕ) (rows : List (Row Place)) (places : List Place) (d : Place) → i < length places
    → rows_placed selection at rows (take (i + 1) places) ≡ changed_at i (λ r. row_placed (is_selected selection (at + i) r) (get_or places i d) r) (rows_placed selection at rows (take i places))
one_more_placed selection at zero [] places d within = refl
one_more_placed selection at (suc i) [] places d within = refl
one_more_placed selection at i (r ∷ rows) [] d within = absurd (omega arith)
one_more_placed selection at zero (r ∷ rows) (p ∷ places) d within =
    let index : at ≡ at + zero = omega arith in
    ap (λ (i : ℕ). row_placed (is_selected selection i r) p r ∷ rows_placed selection (at + 1) rows []) index
    ∙ ap (λ (others : List (Row Place)). row_placed (is_selected selection (at + zero) r) p r ∷ others) (none_placed selection (at + 1) rows)
one_more_placed selection at (suc i) (r ∷ rows) (p ∷ places) d within =
    let count : suc i + 1 ≡ suc (i + 1) = omega arith in
    let index : (at + 1) + i ≡ at + suc i = omega arith in
    let first : Row Place = row_placed (is_selected selection at r) p r in
    ap (λ (n : ℕ). rows_placed selection at (r ∷ rows) (take n (p ∷ places))) count
    ∙ ap (λ (others : List (Row Place)). first ∷ others) (one_more_placed selection (at + 1) i rows places d (omega arith))
    ∙ ap (λ (j : ℕ). first ∷ changed_at i (λ x. row_placed (is_selected selection j x) (get_or places i d) x) (rows_placed selection (at + 1) rows (take i places))) index
    ∙ sym (changed_after i (λ x. row_placed (is_selected selection (at + suc i) x) (get_or places i d) x) first (rows_placed selection (at + 1) rows (take i places)))

-- one place more, from the first row on
pub next_placed : (selection : Selection) (i : ℕ) (rows : List (Row Place)) (places : List Place) (d : Place) → i < length places
    → changed_at i (λ r. row_placed (is_selected selection i r) (get_or places i d) r) (rows_placed selection 0 rows (take i places)) ≡ rows_placed selection 0 rows (take (i + 1) places)
next_placed selection i rows places d within =
    let index : i ≡ 0 + i = omega arith in
    ap (λ (j : ℕ). changed_at i (λ r. row_placed (is_selected selection j r) (get_or places i d) r) (rows_placed selection 0 rows (take i places))) index
    ∙ sym (one_more_placed selection 0 i rows places d within)
