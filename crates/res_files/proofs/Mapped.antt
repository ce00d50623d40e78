-- What is the same of rows and files whose data are given in another way.
use Rattle.std.proofs.Common.{◌≡◌, refl, sym, ap, ◌∙◌, ℕ, ℤ, zero, suc, ◌+◌, List, [], ◌∷◌, ◌++◌, length, map, take, drop, set, slice_get, Bool, true, false, not, cond, Option, None, Some, position, find, filter, pos, subst, ◌≤◌, arith}
use Rattle.std.specs.Prelude.{if◌then◌else◌, ◌||◌, ◌&&◌, nat_lt}
use Rattle.std.specs.List.{list_any, position_or_len}
use Rattle.std.specs.Option.{option_map, option_or, option_map_or, option_and_then}
use Rattle.std.proofs.lemmas.Bool.{eqb-true}
use Rattle.std.proofs.lemmas.List.{length-map, take-map}
use Rattle.mac_base.specs.declared.resource.Resource.{Resource}
use Rattle.res_table.specs.declared.row.Row.{Row}
use Rattle.res_table.specs.declared.chain.ResourceTable.{ResourceTable}
use Rattle.res_table.specs.declared.chain.OpenFile.{OpenFile}
use Rattle.res_table.specs.declared.chain.RowPlace.{RowPlace}
use Rattle.res_table.specs.Names.{is_named}
use Rattle.res_table.specs.Rows.{is_of_type, is_resource, has_handle, added, forgotten, forgetting, with_handle, changed_at, removed_at, indexes_from, index_of_ith, ith, count_of_type, free_id_from, unique_id}
use Rattle.res_table.specs.Saved.{bare, saved_row}
use Rattle.res_table.specs.OpenFiles.{OpenFiles, is_numbered, is_open, table_in, table_of, place_in, earliest_place, latest_place, count_up_to, searched, place_of_resource, place_of_handle, file_forgotten, handle_forgotten, file_opened, last_number, without, is_current, file_closed, row_at, place_here, place_of_name, name_here, with_rows, changed_file, rows_changed}

-- a row with its datum given so
abbrev pub mapped_row : {D E : Type 0} → (D → E) → Row D → Row E
mapped_row f r = record {
  resource = record { kind = r.resource.kind; id = r.resource.id; name = r.resource.name; attributes = r.resource.attributes; datum = f r.resource.datum };
  handle = r.handle;
}

-- rows with their data given so
abbrev pub mapped_rows : {D E : Type 0} → (D → E) → List (Row D) → List (Row E)
mapped_rows f rows = map (mapped_row f) rows

-- a table with its data given so
abbrev pub mapped_table : {D E : Type 0} → (D → E) → ResourceTable D → ResourceTable E
mapped_table f table = record { rows = mapped_rows f table.rows; extra = table.extra; map_attributes = table.map_attributes }

-- an open file with its data given so, by its number
abbrev pub mapped_file : {D E : Type 0} → (ℕ → D → E) → OpenFile D → OpenFile E
mapped_file f file = record { number = file.number; table = mapped_table (f file.number) file.table }

-- files with their data given so
abbrev pub mapped_files : {D E : Type 0} → (ℕ → D → E) → List (OpenFile D) → List (OpenFile E)
mapped_files f files = map (mapped_file f) files

-- the open files with their data given so
abbrev pub mapped_chain : {D E : Type 0} → (ℕ → D → E) → OpenFiles D → OpenFiles E
mapped_chain f chain = record { files = mapped_files f chain.files; current = chain.current }

-- whether some element passes a test
pub any-mapped : {X Y : Type 0} (g : X → Y) (test : Y → Bool) (own : X → Bool) → ((x : X) → test (g x) ≡ own x) → (xs : List X) → list_any test (map g xs) ≡ list_any own xs
any-mapped g test own same [] = refl
any-mapped g test own same (x ∷ xs) = ap (λ b. b || list_any test (map g xs)) (same x) ∙ ap (λ b. own x || b) (any-mapped g test own same xs)

place-mapped : {X Y : Type 0} (g : X → Y) (test : Y → Bool) (own : X → Bool) → ((x : X) → test (g x) ≡ own x) → (xs : List X) → position_or_len test (map g xs) ≡ position_or_len own xs
place-mapped g test own same [] = refl
place-mapped g test own same (x ∷ xs) =
    ap (λ b. cond (not b) (1 + position_or_len test (map g xs)) 0) (same x) ∙ ap (λ (n : ℕ). cond (not (own x)) (1 + n) 0) (place-mapped g test own same xs)

-- where the first that passes is
pub position-mapped : {X Y : Type 0} (g : X → Y) (test : Y → Bool) (own : X → Bool) → ((x : X) → test (g x) ≡ own x) → (xs : List X) → position test (map g xs) ≡ position own xs
position-mapped g test own same xs =
    ap (λ (n : ℕ). cond (nat_lt n (length (map g xs))) (Some n) None) (place-mapped g test own same xs)
    ∙ ap (λ (n : ℕ). cond (nat_lt (position_or_len own xs) n) (Some (position_or_len own xs)) None) (length-map xs g)

-- the first that passes
pub find-mapped : {X Y : Type 0} (g : X → Y) (test : Y → Bool) (own : X → Bool) → ((x : X) → test (g x) ≡ own x) → (xs : List X) → find test (map g xs) ≡ option_map g (find own xs)
find-mapped g test own same [] = refl
find-mapped {X} {Y} g test own same (x ∷ xs) = ap (λ b. cond b (Some (g x)) (find test (map g xs))) (same x) ∙ by (own x) (find-mapped g test own same xs)
  where
    by : (b : Bool) → find test (map g xs) ≡ option_map g (find own xs) → cond b (Some (g x)) (find test (map g xs)) ≡ option_map g (cond b (Some x) (find own xs))
    by true deeper = refl
    by false deeper = deeper

-- an element at an index
pub get-mapped : {X Y : Type 0} (g : X → Y) (xs : List X) (i : ℕ) → slice_get (map g xs) i ≡ option_map g (slice_get xs i)
get-mapped g [] i = refl
get-mapped g (x ∷ xs) zero = refl
get-mapped g (x ∷ xs) (suc i) = get-mapped g xs i

pub set-mapped : {X Y : Type 0} (g : X → Y) (xs : List X) (i : ℕ) (x : X) → set (map g xs) i (g x) ≡ map g (set xs i x)
set-mapped g [] i x = refl
set-mapped g (y ∷ ys) zero x = refl
set-mapped g (y ∷ ys) (suc i) x = ap (λ (zs : List _). g y ∷ zs) (set-mapped g ys i x)

pub append-mapped : {X Y : Type 0} (g : X → Y) (xs ys : List X) → map g xs ++ map g ys ≡ map g (xs ++ ys)
append-mapped g [] ys = refl
append-mapped g (x ∷ xs) ys = ap (λ (zs : List _). g x ∷ zs) (append-mapped g xs ys)

-- where a row is in a file
pub place_in-mapped : {D E : Type 0} (f : ℕ → D → E) (test : Row E → Bool) (own : Row D → Bool) → ((g : D → E) (r : Row D) → test (mapped_row g r) ≡ own r)
    → (file : OpenFile D) → place_in test (mapped_file f file) ≡ place_in own file
place_in-mapped f test own same file =
    ap (λ (at : Option ℕ). option_map (λ i. let place : RowPlace = record { file = file.number; index = i } in place) at)
    (position-mapped (mapped_row (f file.number)) test own (same (f file.number)) file.table.rows)

pub earliest-mapped : {D E : Type 0} (f : ℕ → D → E) (test : Row E → Bool) (own : Row D → Bool) → ((g : D → E) (r : Row D) → test (mapped_row g r) ≡ own r)
    → (files : List (OpenFile D)) → earliest_place test (mapped_files f files) ≡ earliest_place own files
earliest-mapped f test own same [] = refl
earliest-mapped f test own same (file ∷ files) =
    ap (λ (p : Option RowPlace). option_or p (earliest_place test (mapped_files f files))) (place_in-mapped f test own same file)
    ∙ ap (λ (p : Option RowPlace). option_or (place_in own file) p) (earliest-mapped f test own same files)

pub latest-mapped : {D E : Type 0} (f : ℕ → D → E) (test : Row E → Bool) (own : Row D → Bool) → ((g : D → E) (r : Row D) → test (mapped_row g r) ≡ own r)
    → (files : List (OpenFile D)) → latest_place test (mapped_files f files) ≡ latest_place own files
latest-mapped f test own same [] = refl
latest-mapped f test own same (file ∷ files) =
    ap (λ (p : Option RowPlace). option_or p (place_in test (mapped_file f file))) (latest-mapped f test own same files)
    ∙ ap (λ (p : Option RowPlace). option_or (latest_place own files) p) (place_in-mapped f test own same file)

-- a number is open all the same
pub open-mapped : {D E : Type 0} (f : ℕ → D → E) (k : ℕ) (chain : OpenFiles D) → is_open k (mapped_chain f chain) ≡ is_open k chain
open-mapped f k chain = any-mapped (mapped_file f) (is_numbered k) (is_numbered k) (λ file. refl) chain.files

count-mapped : {D E : Type 0} (f : ℕ → D → E) (files : List (OpenFile D)) (k : ℕ) → count_up_to (mapped_files f files) k ≡ count_up_to files k
count-mapped f files k = ap (λ (found : Option ℕ). option_map_or (λ at. at + 1) found 0) (position-mapped (mapped_file f) (is_numbered k) (is_numbered k) (λ file. refl) files)

pub searched-mapped : {D E : Type 0} (f : ℕ → D → E) (chain : OpenFiles D) → searched (mapped_chain f chain) ≡ searched chain
searched-mapped f chain = by chain.current
  where
    by : (current : Option ℕ) → option_map_or (count_up_to (mapped_files f chain.files)) current 0 ≡ option_map_or (count_up_to chain.files) current 0
    by None = refl
    by (Some k) = count-mapped f chain.files k

-- a resource is found all the same
pub resource-mapped : {D E : Type 0} (f : ℕ → D → E) (kind : List ℕ) (id : ℤ) (chain : OpenFiles D) → place_of_resource kind id (mapped_chain f chain) ≡ place_of_resource kind id chain
resource-mapped f kind id chain =
    ap (λ (n : ℕ). latest_place (is_resource kind id) (take n (mapped_files f chain.files))) (searched-mapped f chain)
    ∙ ap (latest_place (is_resource kind id)) (take-map (mapped_file f) (searched chain) chain.files)
    ∙ latest-mapped f (is_resource kind id) (is_resource kind id) (λ g r. refl) (take (searched chain) chain.files)

-- so is a handle
pub handle-mapped : {D E : Type 0} (f : ℕ → D → E) (h : ℕ) (chain : OpenFiles D) → place_of_handle h (mapped_chain f chain) ≡ place_of_handle h chain
handle-mapped f h chain = earliest-mapped f (has_handle h) (has_handle h) (λ g r. refl) chain.files

-- so is a row of the current file that passes a test
passing-mapped : {D E : Type 0} (f : ℕ → D → E) (test : Row E → Bool) (own : Row D → Bool) → ((g : D → E) (r : Row D) → test (mapped_row g r) ≡ own r) → (chain : OpenFiles D)
    → option_and_then (λ k. option_and_then (place_in test) (find (is_numbered k) (mapped_files f chain.files))) chain.current
    ≡ option_and_then (λ k. option_and_then (place_in own) (find (is_numbered k) chain.files)) chain.current
passing-mapped {D} {E} f test own same chain = by chain.current
  where
    in_file : (found : Option (OpenFile D)) → option_and_then (place_in test) (option_map (mapped_file f) found) ≡ option_and_then (place_in own) found
    in_file None = refl
    in_file (Some file) = place_in-mapped f test own same file

    by : (current : Option ℕ) → option_and_then (λ k. option_and_then (place_in test) (find (is_numbered k) (mapped_files f chain.files))) current
        ≡ option_and_then (λ k. option_and_then (place_in own) (find (is_numbered k) chain.files)) current
    by None = refl
    by (Some k) = ap (option_and_then (place_in test)) (find-mapped (mapped_file f) (is_numbered k) (is_numbered k) (λ file. refl) chain.files) ∙ in_file (find (is_numbered k) chain.files)

-- as a resource is
pub here-mapped : {D E : Type 0} (f : ℕ → D → E) (kind : List ℕ) (id : ℤ) (chain : OpenFiles D) → place_here kind id (mapped_chain f chain) ≡ place_here kind id chain
here-mapped f kind id chain = passing-mapped f (is_resource kind id) (is_resource kind id) (λ g r. refl) chain

-- so is a row of a name
pub name-mapped : {D E : Type 0} (f : ℕ → D → E) (kind name : List ℕ) (chain : OpenFiles D) → place_of_name kind name (mapped_chain f chain) ≡ place_of_name kind name chain
name-mapped f kind name chain =
    ap (λ (n : ℕ). latest_place (is_named kind name) (take n (mapped_files f chain.files))) (searched-mapped f chain)
    ∙ ap (latest_place (is_named kind name)) (take-map (mapped_file f) (searched chain) chain.files)
    ∙ latest-mapped f (is_named kind name) (is_named kind name) (λ g r. refl) (take (searched chain) chain.files)

-- and one of the current file
pub name_here-mapped : {D E : Type 0} (f : ℕ → D → E) (kind name : List ℕ) (chain : OpenFiles D) → name_here kind name (mapped_chain f chain) ≡ name_here kind name chain
name_here-mapped f kind name chain = passing-mapped f (is_named kind name) (is_named kind name) (λ g r. refl) chain

-- the table of a number, by the data of that number
pub table-mapped : {D E : Type 0} (f : ℕ → D → E) (k : ℕ) (files : List (OpenFile D))
    → option_map table_in (find (is_numbered k) (mapped_files f files)) ≡ option_map (mapped_table (f k)) (option_map table_in (find (is_numbered k) files))
table-mapped f k [] = refl
table-mapped {D} {E} f k (file ∷ files) = by (is_numbered k file) refl (table-mapped f k files)
  where
    by : (b : Bool) → is_numbered k file ≡ b → option_map table_in (find (is_numbered k) (mapped_files f files)) ≡ option_map (mapped_table (f k)) (option_map table_in (find (is_numbered k) files))
        → option_map table_in (cond b (Some (mapped_file f file)) (find (is_numbered k) (mapped_files f files)))
        ≡ option_map (mapped_table (f k)) (option_map table_in (cond b (Some file) (find (is_numbered k) files)))
    by true is deeper = ap (λ (n : ℕ). Some (mapped_table (f n) file.table)) (eqb-true file.number k is)
    by false is deeper = deeper

-- the row at a place
pub row-mapped : {D E : Type 0} (f : ℕ → D → E) (place : RowPlace) (chain : OpenFiles D) → row_at place (mapped_chain f chain) ≡ option_map (mapped_row (f place.file)) (row_at place chain)
row-mapped {D} {E} f place chain =
    ap (option_and_then (λ (table : ResourceTable E). slice_get table.rows place.index)) (table-mapped f place.file chain.files) ∙ by (table_of place.file chain)
  where
    by : (found : Option (ResourceTable D)) → option_and_then (λ (table : ResourceTable E). slice_get table.rows place.index) (option_map (mapped_table (f place.file)) found)
        ≡ option_map (mapped_row (f place.file)) (option_and_then (λ (table : ResourceTable D). slice_get table.rows place.index) found)
    by None = refl
    by (Some table) = get-mapped (mapped_row (f place.file)) table.rows place.index

-- the files with the rows of a number changed, where the change looks at no datum
pub changed-mapped : {D E : Type 0} (f : ℕ → D → E) (k : ℕ) (change : List (Row E) → List (Row E)) (own : List (Row D) → List (Row D))
    → ((rows : List (Row D)) → change (mapped_rows (f k) rows) ≡ mapped_rows (f k) (own rows))
    → (files : List (OpenFile D)) → changed_file k change (mapped_files f files) ≡ mapped_files f (changed_file k own files)
changed-mapped f k change own same [] = refl
changed-mapped {D} {E} f k change own same (file ∷ files) = by (is_numbered k file) refl (changed-mapped f k change own same files)
  where
    with : (n : ℕ) → n ≡ k → change (mapped_rows (f n) file.table.rows) ≡ mapped_rows (f n) (own file.table.rows)
    with n is = let P : ℕ → Type 0 = λ m. change (mapped_rows (f m) file.table.rows) ≡ mapped_rows (f m) (own file.table.rows) in subst P (sym is) (same file.table.rows)

    by : (b : Bool) → is_numbered k file ≡ b → changed_file k change (mapped_files f files) ≡ mapped_files f (changed_file k own files)
        → (if b then with_rows change (mapped_file f file) ∷ mapped_files f files else mapped_file f file ∷ changed_file k change (mapped_files f files))
        ≡ mapped_files f (if b then with_rows own file ∷ files else file ∷ changed_file k own files)
    by true is deeper = ap (λ (rows : List (Row E)). let here : OpenFile E = record { number = file.number; table = record { rows = rows; extra = file.table.extra; map_attributes = file.table.map_attributes } } in here ∷ mapped_files f files)
        (with file.number (eqb-true file.number k is))
    by false is deeper = ap (λ (others : List (OpenFile E)). mapped_file f file ∷ others) deeper

-- one row is changed all the same
pub changed_at-mapped : {D E : Type 0} (f : D → E) (at : ℕ) (change : Row E → Row E) (own : Row D → Row D) → ((r : Row D) → change (mapped_row f r) ≡ mapped_row f (own r))
    → (rows : List (Row D)) → changed_at at change (mapped_rows f rows) ≡ mapped_rows f (changed_at at own rows)
changed_at-mapped {D} {E} f at change own same rows = ap (λ (found : Option (Row E)). option_map_or (λ r. set (mapped_rows f rows) at (change r)) found (mapped_rows f rows)) (get-mapped (mapped_row f) rows at) ∙ by (slice_get rows at)
  where
    by : (found : Option (Row D)) → option_map_or (λ r. set (mapped_rows f rows) at (change r)) (option_map (mapped_row f) found) (mapped_rows f rows)
        ≡ mapped_rows f (option_map_or (λ r. set rows at (own r)) found rows)
    by None = refl
    by (Some r) = ap (set (mapped_rows f rows) at) (same r) ∙ set-mapped (mapped_row f) rows at (own r)

-- one row less
pub drop-mapped : {X Y : Type 0} (g : X → Y) (n : ℕ) (xs : List X) → drop n (map g xs) ≡ map g (drop n xs)
drop-mapped g zero xs = refl
drop-mapped g (suc n) [] = refl
drop-mapped g (suc n) (x ∷ xs) = drop-mapped g n xs

pub removed-mapped : {D E : Type 0} (f : D → E) (at : ℕ) (rows : List (Row D)) → removed_at at (mapped_rows f rows) ≡ mapped_rows f (removed_at at rows)
removed-mapped f at rows =
    ap (λ (front : List (Row _)). front ++ drop (suc at) (mapped_rows f rows)) (take-map (mapped_row f) at rows)
    ∙ ap (λ (back : List (Row _)). mapped_rows f (take at rows) ++ back) (drop-mapped (mapped_row f) (suc at) rows)
    ∙ append-mapped (mapped_row f) (take at rows) (drop (suc at) rows)

-- a new row is in the same place
pub added-mapped : {D E : Type 0} (f : D → E) (new : Row D) (rows : List (Row D)) → added (mapped_row f new) (mapped_rows f rows) ≡ mapped_rows f (added new rows)
added-mapped f new [] = refl
added-mapped {D} {E} f new (r ∷ rows) =
    ap (λ same. if is_of_type new.resource.kind r && not same then mapped_row f r ∷ mapped_row f new ∷ mapped_rows f rows else mapped_row f r ∷ added (mapped_row f new) (mapped_rows f rows))
    (any-mapped (mapped_row f) (is_of_type new.resource.kind) (is_of_type new.resource.kind) (λ r. refl) rows)
    ∙ by (is_of_type new.resource.kind r && not (list_any (is_of_type new.resource.kind) rows)) (added-mapped f new rows)
  where
    by : (b : Bool) → added (mapped_row f new) (mapped_rows f rows) ≡ mapped_rows f (added new rows)
        → (if b then mapped_row f r ∷ mapped_row f new ∷ mapped_rows f rows else mapped_row f r ∷ added (mapped_row f new) (mapped_rows f rows))
        ≡ mapped_rows f (if b then r ∷ new ∷ rows else r ∷ added new rows)
    by true deeper = refl
    by false deeper = ap (λ (rs : List (Row E)). mapped_row f r ∷ rs) deeper

-- a handle is forgotten all the same
pub forgotten-mapped : {D E : Type 0} (f : D → E) (h : ℕ) (rows : List (Row D)) → forgotten h (mapped_rows f rows) ≡ mapped_rows f (forgotten h rows)
forgotten-mapped f h [] = refl
forgotten-mapped {D} {E} f h (r ∷ rows) = by (has_handle h r) ∙ ap (λ (rs : List (Row E)). mapped_row f (forgetting h r) ∷ rs) (forgotten-mapped f h rows)
  where
    by : (has : Bool) → (if has then with_handle None (mapped_row f r) else mapped_row f r) ∷ forgotten h (mapped_rows f rows) ≡ mapped_row f (if has then with_handle None r else r) ∷ forgotten h (mapped_rows f rows)
    by true = refl
    by false = refl

files_forgotten-mapped : {D E : Type 0} (f : ℕ → D → E) (h : ℕ) (files : List (OpenFile D)) → map (file_forgotten h) (mapped_files f files) ≡ mapped_files f (map (file_forgotten h) files)
files_forgotten-mapped f h [] = refl
files_forgotten-mapped {D} {E} f h (file ∷ files) =
    ap (λ (rows : List (Row E)). let here : OpenFile E = record { number = file.number; table = record { rows = rows; extra = file.table.extra; map_attributes = file.table.map_attributes } } in here ∷ map (file_forgotten h) (mapped_files f files))
    (forgotten-mapped (f file.number) h file.table.rows)
    ∙ ap (λ (others : List (OpenFile E)). mapped_file f (file_forgotten h file) ∷ others) (files_forgotten-mapped f h files)

pub handle_forgotten-mapped : {D E : Type 0} (f : ℕ → D → E) (h : ℕ) (chain : OpenFiles D) → handle_forgotten h (mapped_chain f chain) ≡ mapped_chain f (handle_forgotten h chain)
handle_forgotten-mapped {D} {E} f h chain = ap (λ (files : List (OpenFile E)). let all : OpenFiles E = record { files = files; current = chain.current } in all) (files_forgotten-mapped f h chain.files)

-- the files with one more
pub opened-mapped : {D E : Type 0} (f : ℕ → D → E) (k : ℕ) (table : ResourceTable D) (chain : OpenFiles D) → file_opened k (mapped_table (f k) table) (mapped_chain f chain) ≡ mapped_chain f (file_opened k table chain)
opened-mapped {D} {E} f k table chain =
    ap (λ (files : List (OpenFile E)). let all : OpenFiles E = record { files = files; current = Some k } in all) (append-mapped (mapped_file f) chain.files (record { number = k; table = table } ∷ []))

-- the files with one less
pub without-mapped : {D E : Type 0} (f : ℕ → D → E) (k : ℕ) (files : List (OpenFile D)) → without k (mapped_files f files) ≡ mapped_files f (without k files)
without-mapped f k [] = refl
without-mapped {D} {E} f k (file ∷ files) = by (is_numbered k file) (without-mapped f k files)
  where
    by : (b : Bool) → without k (mapped_files f files) ≡ mapped_files f (without k files)
        → (if b then mapped_files f files else mapped_file f file ∷ without k (mapped_files f files)) ≡ mapped_files f (if b then files else file ∷ without k files)
    by true deeper = refl
    by false deeper = ap (λ (others : List (OpenFile E)). mapped_file f file ∷ others) deeper

last-mapped : {D E : Type 0} (f : ℕ → D → E) (files : List (OpenFile D)) → last_number (mapped_files f files) ≡ last_number files
last-mapped f [] = refl
last-mapped f (file ∷ files) = ap (λ (n : Option ℕ). option_or n (Some file.number)) (last-mapped f files)

pub closed-mapped : {D E : Type 0} (f : ℕ → D → E) (k : ℕ) (chain : OpenFiles D) → file_closed k (mapped_chain f chain) ≡ mapped_chain f (file_closed k chain)
closed-mapped {D} {E} f k chain =
    ap (λ b. if b then closed_with (without k (mapped_files f chain.files)) else mapped_chain f chain) (open-mapped f k chain)
    ∙ ap (λ (files : List (OpenFile E)). if is_open k chain then closed_with files else mapped_chain f chain) (without-mapped f k chain.files)
    ∙ by (is_open k chain) (is_current k chain)
  where
    closed_with : List (OpenFile E) → OpenFiles E
    closed_with files = record { files = files; current = if is_current k chain then last_number files else chain.current }

    by : (open_now current_now : Bool) → (if open_now then record { files = mapped_files f (without k chain.files); current = if current_now then last_number (mapped_files f (without k chain.files)) else chain.current } else mapped_chain f chain)
        ≡ mapped_chain f (if open_now then record { files = without k chain.files; current = if current_now then last_number (without k chain.files) else chain.current } else chain)
    by true true = ap (λ (n : Option ℕ). let all : OpenFiles E = record { files = mapped_files f (without k chain.files); current = n } in all) (last-mapped f (without k chain.files))
    by true false = refl
    by false b = refl

-- the rows of a type
pub indexes_from-mapped : {D E : Type 0} (f : D → E) (kind : List ℕ) (at : ℕ) (rows : List (Row D)) → indexes_from at (is_of_type kind) (mapped_rows f rows) ≡ indexes_from at (is_of_type kind) rows
indexes_from-mapped f kind at [] = refl
indexes_from-mapped f kind at (r ∷ rows) = ap (λ (more : List ℕ). if is_of_type kind r then at ∷ more else more) (indexes_from-mapped f kind (at + 1) rows)

pub index_of_ith-mapped : {D E : Type 0} (f : D → E) (kind : List ℕ) (i : ℕ) (rows : List (Row D)) → index_of_ith kind i (mapped_rows f rows) ≡ index_of_ith kind i rows
index_of_ith-mapped f kind i rows = ap (ith i) (indexes_from-mapped f kind 0 rows)

pub count_of_type-mapped : {D E : Type 0} (f : D → E) (kind : List ℕ) (rows : List (Row D)) → count_of_type kind (mapped_rows f rows) ≡ count_of_type kind rows
count_of_type-mapped f kind [] = refl
count_of_type-mapped {D} {E} f kind (r ∷ rows) = by (is_of_type kind r) (count_of_type-mapped f kind rows)
  where
    by : (b : Bool) → count_of_type kind (mapped_rows f rows) ≡ count_of_type kind rows
        → length (cond b (mapped_row f r ∷ filter (is_of_type kind) (mapped_rows f rows)) (filter (is_of_type kind) (mapped_rows f rows))) ≡ length (cond b (r ∷ filter (is_of_type kind) rows) (filter (is_of_type kind) rows))
    by true deeper = ap suc deeper
    by false deeper = deeper

-- the least free id
free_id-mapped : {D E : Type 0} (f : D → E) (n id : ℕ) (kind : List ℕ) (rows : List (Row D)) → free_id_from n id kind (mapped_rows f rows) ≡ free_id_from n id kind rows
free_id-mapped f zero id kind rows = refl
free_id-mapped f (suc n) id kind rows =
    ap (λ b. if b then free_id_from n (id + 1) kind (mapped_rows f rows) else id) (any-mapped (mapped_row f) (is_resource kind (pos id)) (is_resource kind (pos id)) (λ r. refl) rows)
    ∙ ap (λ (next : ℕ). if list_any (is_resource kind (pos id)) rows then next else id) (free_id-mapped f n (id + 1) kind rows)

pub unique_id-mapped : {D E : Type 0} (f : D → E) (kind : List ℕ) (rows : List (Row D)) → unique_id kind (mapped_rows f rows) ≡ unique_id kind rows
unique_id-mapped f kind rows = ap (λ (n : ℕ). free_id_from n 128 kind (mapped_rows f rows)) (length-map rows (mapped_row f)) ∙ free_id-mapped f (length rows) 128 kind rows

-- what is saved but for the bytes
pub bare-mapped : {D E : Type 0} (f : D → E) (rows : List (Row D)) → bare (mapped_rows f rows) ≡ bare rows
bare-mapped f [] = refl
bare-mapped f (r ∷ rows) = ap (λ (rs : List (Resource (List ℕ))). saved_row (λ _. []) r ∷ rs) (bare-mapped f rows)

-- the open files with the rows of a number changed
pub rows_changed-mapped : {D E : Type 0} (f : ℕ → D → E) (k : ℕ) (change : List (Row E) → List (Row E)) (own : List (Row D) → List (Row D))
    → ((rows : List (Row D)) → change (mapped_rows (f k) rows) ≡ mapped_rows (f k) (own rows))
    → (chain : OpenFiles D) → rows_changed k change (mapped_chain f chain) ≡ mapped_chain f (rows_changed k own chain)
rows_changed-mapped {D} {E} f k change own same chain =
    ap (λ (files : List (OpenFile E)). let all : OpenFiles E = record { files = files; current = chain.current } in all) (changed-mapped f k change own same chain.files)

-- not more of a type than all
pub few_of_type : {D : Type 0} (kind : List ℕ) (rows : List (Row D)) → count_of_type kind rows ≤ length rows
few_of_type kind [] = omega arith
few_of_type kind (r ∷ rows) = by (is_of_type kind r) (few_of_type kind rows)
  where
    by : (b : Bool) → count_of_type kind rows ≤ length rows → length (cond b (r ∷ filter (is_of_type kind) rows) (filter (is_of_type kind) rows)) ≤ suc (length rows)
    by true deeper = omega arith
    by false deeper = omega arith
