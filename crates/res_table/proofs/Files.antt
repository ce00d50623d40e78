-- Files of a chain: where a row is found, and what is left without a file.
use Rattle.std.proofs.Common.{◌≡◌, refl, sym, ap, ◌∙◌, subst, arith, ℕ, zero, suc, ◌+◌, ◌-◌, ◌<◌, ◌≤◌, List, [], ◌∷◌, length, get_or, take, drop, Bool, true, false, not, Option, Some, None, position, find, cond, remove, set, slice_get, IsSome, if◌then◌else◌, ◌||◌}
use Rattle.std.specs.Option.{option_or, option_map, option_and_then}
use Rattle.std.specs.List.{list_any, position_or_len}
use Rattle.std.proofs.lemmas.List.{drop_more}
use Rattle.std.proofs.lemmas.List.Quantifiers.{position-Some}
use Rattle.res_table.specs.declared.row.Row.{Row}
use Rattle.res_table.specs.declared.chain.OpenFile.{OpenFile}
use Rattle.res_table.specs.declared.chain.RowPlace.{RowPlace}
use Rattle.res_table.specs.OpenFiles.{place_in, latest_place, earliest_place, OpenFiles, is_numbered, is_open, is_current, without, last_number, file_closed, with_rows, changed_file, rows_changed, table_in, row_at}
use Rattle.res_table.specs.declared.chain.ResourceTable.{ResourceTable}
use Rattle.res_table.proofs.Forgetting.{past_end}

or_nothing : {X : Type 0} (x : Option X) → option_or x None ≡ x
or_nothing None = refl
or_nothing (Some x) = refl

or_or : {X : Type 0} (x y z : Option X) → option_or (option_or x y) z ≡ option_or x (option_or y z)
or_or None y z = refl
or_or (Some x) y z = refl

-- one file more is looked at first
pub latest_more : {D : Type 0} (test : Row D → Bool) (files : List (OpenFile D)) (i : ℕ) (d : OpenFile D) → i < length files
    → latest_place test (take (i + 1) files) ≡ option_or (place_in test (get_or files i d)) (latest_place test (take i files))
latest_more test [] i d within = absurd (omega arith)
latest_more test (f ∷ fs) zero d within = sym (or_nothing (place_in test f))
latest_more test (f ∷ fs) (suc i) d within =
    let e : suc i + 1 ≡ suc (i + 1) = omega arith in
    ap (λ (n : ℕ). latest_place test (take n (f ∷ fs))) e
    ∙ ap (λ (found : Option RowPlace). option_or found (place_in test f)) (latest_more test fs i d (omega arith))
    ∙ or_or (place_in test (get_or fs i d)) (latest_place test (take i fs)) (place_in test f)

-- the row is found in the last of the files that are left
pub found_in : {D : Type 0} (test : Row D → Bool) (files : List (OpenFile D)) (end : ℕ) (f : OpenFile D) (index : ℕ) → 0 < end → end ≤ length files → f ≡ get_or files (end - 1) f
    → position test f.table.rows ≡ Some index → latest_place test (take end files) ≡ Some (record { file = f.number; index = index })
found_in test files end f index some within is found =
    let e : end ≡ end - 1 + 1 = omega arith in
    ap (λ (n : ℕ). latest_place test (take n files)) e ∙ latest_more test files (end - 1) f (omega arith)
    ∙ ap (λ (file : OpenFile _). option_or (place_in test file) (latest_place test (take (end - 1) files))) (sym is)
    ∙ ap (λ (at : Option ℕ). option_or (option_map (λ i. let place : RowPlace = record { file = f.number; index = i } in place) at) (latest_place test (take (end - 1) files))) found

-- or it is in those before
pub found_before : {D : Type 0} (test : Row D → Bool) (files : List (OpenFile D)) (end : ℕ) (f : OpenFile D) → 0 < end → end ≤ length files → f ≡ get_or files (end - 1) f
    → position test f.table.rows ≡ None → latest_place test (take (end - 1) files) ≡ latest_place test (take end files)
found_before test files end f some within is none =
    let e : end ≡ end - 1 + 1 = omega arith in
    sym (ap (λ (n : ℕ). latest_place test (take n files)) e ∙ latest_more test files (end - 1) f (omega arith)
    ∙ ap (λ (file : OpenFile _). option_or (place_in test file) (latest_place test (take (end - 1) files))) (sym is)
    ∙ ap (λ (at : Option ℕ). option_or (option_map (λ i. let place : RowPlace = record { file = f.number; index = i } in place) at) (latest_place test (take (end - 1) files))) none)

-- the same from the earliest on
pub earliest_in : {D : Type 0} (test : Row D → Bool) (files : List (OpenFile D)) (i : ℕ) (f : OpenFile D) (index : ℕ) → i < length files → f ≡ get_or files i f
    → position test f.table.rows ≡ Some index → earliest_place test (drop i files) ≡ Some (record { file = f.number; index = index })
earliest_in test files i f index within is found =
    ap (earliest_place test) (drop_more files i f within)
    ∙ ap (λ (file : OpenFile _). option_or (place_in test file) (earliest_place test (drop (i + 1) files))) (sym is)
    ∙ ap (λ (at : Option ℕ). option_or (option_map (λ i. let place : RowPlace = record { file = f.number; index = i } in place) at) (earliest_place test (drop (i + 1) files))) found

pub earliest_after : {D : Type 0} (test : Row D → Bool) (files : List (OpenFile D)) (i : ℕ) (f : OpenFile D) → i < length files → f ≡ get_or files i f
    → position test f.table.rows ≡ None → earliest_place test (drop (i + 1) files) ≡ earliest_place test (drop i files)
earliest_after test files i f within is none =
    sym (ap (earliest_place test) (drop_more files i f within)
    ∙ ap (λ (file : OpenFile _). option_or (place_in test file) (earliest_place test (drop (i + 1) files))) (sym is)
    ∙ ap (λ (at : Option ℕ). option_or (option_map (λ i. let place : RowPlace = record { file = f.number; index = i } in place) at) (earliest_place test (drop (i + 1) files))) none)

-- the latest file is the last of the list
pub last_is : {D : Type 0} (files : List (OpenFile D)) (f : OpenFile D) → Some f ≡ slice_get files (length files - 1) → last_number files ≡ Some f.number
last_is [] f is = absurd (cc is)
last_is (g ∷ []) f is = ap (option_map (λ (file : OpenFile _). file.number)) (sym is)
last_is (g ∷ (h ∷ files)) f is =
    let e : length (g ∷ (h ∷ files)) - 1 ≡ suc (length (h ∷ files) - 1) = omega arith in
    ap (λ (found : Option ℕ). option_or found (Some g.number)) (last_is (h ∷ files) f (is ∙ ap (slice_get (g ∷ (h ∷ files))) e))

-- what is known of the file of a number where it is found
pub record IsFound {D : Type 0} (k : ℕ) (files : List (OpenFile D)) (at : ℕ) (f : OpenFile D) : Type 0 where
  pub left : remove files at ≡ without k files
  pub is_open : list_any (is_numbered k) files ≡ true
  pub file : find (is_numbered k) files ≡ Some f

first_found : {D : Type 0} (k : ℕ) (files : List (OpenFile D)) (at : ℕ) (d : OpenFile D) → at < length files → is_numbered k (get_or files at d) ≡ true
    → ((j : ℕ) → j < at → is_numbered k (get_or files j d) ≡ false) → IsFound k files at (get_or files at d)
first_found k [] at d within is before = absurd (omega arith)
first_found k (f ∷ fs) zero d within is before = record { left = rw is refl; is_open = rw is refl; file = rw is refl }
first_found k (f ∷ fs) (suc at) d within is before =
    let other = before 0 (omega arith) in
    let rest = first_found k fs at d (omega arith) is (λ j below. before (suc j) (omega arith)) in
    record { left = rw other (ap (λ (xs : List _). f ∷ xs) rest.left); is_open = rw other rest.is_open; file = rw other rest.file }

pub file_found : {D : Type 0} (k : ℕ) (files : List (OpenFile D)) (at : ℕ) (f : OpenFile D) → position (is_numbered k) files ≡ Some at → f ≡ get_or files at f → IsFound k files at f
file_found k files at f is read =
    let found = position-Some (is_numbered k) files at f is in
    subst (IsFound k files at) (sym read) (first_found k files at f found.0 found.1 found.2)

-- and where it isn't open
pub none_open : {D : Type 0} (k : ℕ) (files : List (OpenFile D)) → length files ≤ position_or_len (is_numbered k) files → (list_any (is_numbered k) files ≡ false) × (find (is_numbered k) files ≡ None)
none_open k [] none = (refl, refl)
none_open k (f ∷ fs) none = by (is_numbered k f) none (none_open k fs)
  where
    by : (b : Bool) → suc (length fs) ≤ cond (not b) (1 + position_or_len (is_numbered k) fs) 0
        → (length fs ≤ position_or_len (is_numbered k) fs → (list_any (is_numbered k) fs ≡ false) × (find (is_numbered k) fs ≡ None))
        → ((b || list_any (is_numbered k) fs) ≡ false) × (cond b (Some f) (find (is_numbered k) fs) ≡ None)
    by true past deeper = absurd (omega arith)
    by false past deeper = deeper (omega arith)

-- the chain without it
pub closed_found : {D : Type 0} (k : ℕ) (chain : OpenFiles D) (at : ℕ) (f : OpenFile D) → IsFound k chain.files at f
    → file_closed k chain ≡ record { files = remove chain.files at; current = if is_current k chain then last_number (remove chain.files at) else chain.current }
closed_found {D} k chain at f found =
    ap (λ (b : Bool). let closed : OpenFiles D = record { files = without k chain.files; current = if is_current k chain then last_number (without k chain.files) else chain.current } in if b then closed else chain) found.is_open
    ∙ ap (λ (left : List (OpenFile D)). let closed : OpenFiles D = record { files = left; current = if is_current k chain then last_number left else chain.current } in closed) (sym found.left)

-- a file that isn't open leaves the chain as it is
pub closed_none : {D : Type 0} (k : ℕ) (chain : OpenFiles D) → list_any (is_numbered k) chain.files ≡ false → chain ≡ file_closed k chain
closed_none {D} k chain none =
    sym (ap (λ (b : Bool). let closed : OpenFiles D = record { files = without k chain.files; current = if is_current k chain then last_number (without k chain.files) else chain.current } in if b then closed else chain) none)

-- the first file of a number is the one that is changed
first_changed : {D : Type 0} (k : ℕ) (change : List (Row D) → List (Row D)) (files : List (OpenFile D)) (at : ℕ) (d : OpenFile D) → at < length files → is_numbered k (get_or files at d) ≡ true
    → ((j : ℕ) → j < at → is_numbered k (get_or files j d) ≡ false) → set files at (with_rows change (get_or files at d)) ≡ changed_file k change files
first_changed k change [] at d within is before = absurd (omega arith)
first_changed k change (f ∷ fs) zero d within is before = rw is refl
first_changed k change (f ∷ fs) (suc at) d within is before =
    rw (before 0 (omega arith)) (ap (λ (xs : List _). f ∷ xs) (first_changed k change fs at d (omega arith) is (λ j below. before (suc j) (omega arith))))

pub changed_found : {D : Type 0} (k : ℕ) (change : List (Row D) → List (Row D)) (files : List (OpenFile D)) (at : ℕ) (f : OpenFile D) → position (is_numbered k) files ≡ Some at → f ≡ get_or files at f
    → set files at (with_rows change f) ≡ changed_file k change files
changed_found k change files at f is read =
    let found = position-Some (is_numbered k) files at f is in
    ap (λ (file : OpenFile _). set files at (with_rows change file)) read ∙ first_changed k change files at f found.0 found.1 found.2

-- what is found at an index is within
some_within : {X : Type 0} (xs : List X) (i : ℕ) → IsSome (slice_get xs i) → i < length xs
some_within [] i some = absurd (cc some)
some_within (x ∷ xs) zero some = omega arith
some_within (x ∷ xs) (suc i) some = let deeper = some_within xs i some in omega arith

-- the row at a place is one of its file
pub row_within : {D : Type 0} (place : RowPlace) (chain : OpenFiles D) (at : ℕ) (f : OpenFile D) → position (is_numbered place.file) chain.files ≡ Some at → f ≡ get_or chain.files at f
    → IsSome (row_at place chain) → place.index < length f.table.rows
row_within {D} place chain at f is read some =
    let P : Option (OpenFile D) → Type 0 = λ found. IsSome (option_and_then (λ (table : ResourceTable D). slice_get table.rows place.index) (option_map table_in found)) in
    some_within f.table.rows place.index (subst P (file_found place.file chain.files at f is read).file some)

-- where the file isn't open there is none
no_row : {D : Type 0} (place : RowPlace) (chain : OpenFiles D) → position (is_numbered place.file) chain.files ≡ None → IsSome (row_at place chain) → ⊥
no_row {D} place chain is some =
    let P : Option (OpenFile D) → Type 0 = λ found. IsSome (option_and_then (λ (table : ResourceTable D). slice_get table.rows place.index) (option_map table_in found)) in
    let none = subst P ((none_open place.file chain.files (past_end _ chain.files is)).1) some in absurd (cc none)

-- so the file of a row is found
pub file_there : {D : Type 0} (place : RowPlace) (chain : OpenFiles D) (found : Option ℕ) → found ≡ position (is_numbered place.file) chain.files → IsSome (row_at place chain) → IsSome found
file_there place chain None is there = absurd (no_row place chain (sym is) there)
file_there place chain (Some at) is there = refl

-- where the file of a number isn't found it isn't open
not_open : {D : Type 0} (k : ℕ) (chain : OpenFiles D) → position (is_numbered k) chain.files ≡ None → is_open k chain ≡ true → ⊥
not_open k chain is open_now = let none = (none_open k chain.files (past_end _ chain.files is)).0 in cc

-- so an open file is found
pub open_there : {D : Type 0} (k : ℕ) (chain : OpenFiles D) (found : Option ℕ) → found ≡ position (is_numbered k) chain.files → is_open k chain ≡ true → IsSome found
open_there k chain None is open_now = absurd (not_open k chain (sym is) open_now)
open_there k chain (Some at) is open_now = refl

-- the row that is found in the file of a place
pub row_found : {D : Type 0} (place : RowPlace) (chain : OpenFiles D) (at : ℕ) (f : OpenFile D) → position (is_numbered place.file) chain.files ≡ Some at → f ≡ get_or chain.files at f
    → row_at place chain ≡ slice_get f.table.rows place.index
row_found {D} place chain at f is read =
    ap (λ (found : Option (OpenFile D)). option_and_then (λ (table : ResourceTable D). slice_get table.rows place.index) (option_map table_in found)) (file_found place.file chain.files at f is read).file

-- a file that is found in a chain, read off the chain's parts
module _ {D : Type 0} (k : ℕ) (files : List (OpenFile D)) (current : Option ℕ) (now : OpenFiles D) (found : Option ℕ) (at : ℕ) (f : OpenFile D)
    (view : (let chain : OpenFiles D = record { files = files; current = current } in chain) ≡ now) (is : found ≡ position (is_numbered k) now.files) (some : found ≡ Some at) (read : f ≡ get_or files at f) where
  -- a row at a place in it is within
  pub row_inside : (index : ℕ) → IsSome (row_at (record { file = k; index = index }) now) → index < length f.table.rows
  row_inside index there = row_within (record { file = k; index = index }) now at f (sym is ∙ some) (read ∙ ap (λ (chain : OpenFiles D). get_or chain.files at f) view) there

  -- the chain in which its rows are changed
  pub rows_written : (change : List (Row D) → List (Row D)) (rows : List (Row D)) → rows ≡ change f.table.rows
      → (let chain : OpenFiles D = record { files = set files at (record { number = f.number; table = record { rows = rows; extra = f.table.extra; map_attributes = f.table.map_attributes } }); current = current } in chain) ≡ rows_changed k change now
  rows_written change rows changed =
      ap (λ (rows : List (Row D)). let chain : OpenFiles D = record { files = set files at (record { number = f.number; table = record { rows = rows; extra = f.table.extra; map_attributes = f.table.map_attributes } }); current = current } in chain) changed
      ∙ ap (λ (files : List (OpenFile D)). let chain : OpenFiles D = record { files = files; current = current } in chain)
      (changed_found k change files at f (ap (λ (chain : OpenFiles D). position (is_numbered k) chain.files) view ∙ sym is ∙ some) read)
      ∙ ap (rows_changed k change) view
