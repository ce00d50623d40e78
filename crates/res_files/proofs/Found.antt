-- The row that is found is where it was found.
use Rattle.std.proofs.Common.{◌≡◌, refl, sym, ap, ◌∙◌, subst, arith, ℕ, zero, suc, ℤ, ◌+◌, ◌-◌, ◌<◌, ◌≤◌, List, [], ◌∷◌, length, map, take, slice_get, get_or, position, find, Bool, true, false, cond, Option, None, Some, IfSome, IsSome, IsTrue}
use Rattle.std.specs.Prelude.{◌||◌, ◌==◌, nat_le, if◌then◌else◌}
use Rattle.std.specs.List.{list_any, AllByRecursion}
use Rattle.std.specs.Option.{option_map, option_or, option_map_or, option_and_then, IsSomeAnd}
use Rattle.std.proofs.lemmas.Bool.{eqb-true, eq-eqb}
use Rattle.std.proofs.lemmas.List.{length-map}
use Rattle.std.proofs.lemmas.List.Quantifiers.{position-Some}
use Rattle.std.proofs.lemmas.Option.{same_Some, slice_get-get_or}
use Rattle.fork_bytes.specs.Fork.{max_rows}
use Rattle.fork_bytes.specs.declared.place.Place.{Place}
use Rattle.res_table.specs.declared.row.Row.{Row}
use Rattle.res_table.specs.declared.chain.ResourceTable.{ResourceTable}
use Rattle.res_table.specs.declared.chain.OpenFile.{OpenFile}
use Rattle.res_table.specs.declared.chain.RowPlace.{RowPlace}
use Rattle.res_table.specs.Names.{is_named}
use Rattle.res_table.specs.AllFiles.{all_rows, ith_place}
use Rattle.res_table.specs.Rows.{has_handle, is_of_type, is_resource, indexes_from, index_of_ith, count_of_type}
use Rattle.res_table.specs.OpenFiles.{OpenFiles, is_numbered, is_open, table_in, table_of, place_in, earliest_place, latest_place, searched, place_of_resource, place_of_handle, place_here, place_of_name, name_here, row_at}
use Rattle.res_update.specs.Changes.{Files, FileRow, FileTable, rows_of, rows_in, current_rows}
use Rattle.res_update.specs.Placed.{row_on}
use Rattle.res_files.specs.FilesOn.{FilesOn}
use Rattle.res_files.specs.Standing.{fork_at, files_on, StandsOn, AreApart, StandOn, placed_rows_of}
use Rattle.res_files.proofs.Mapped.{mapped_table, row-mapped, open-mapped, table-mapped}
use Rattle.res_files.proofs.Stands.{table_stands}
use Rattle.res_files.proofs.On.{seen, bytes_in, asked, open_there}

-- the row at a place of files
abbrev row_in : {D : Type 0} → RowPlace → List (OpenFile D) → Option (Row D)
row_in place files = option_and_then (λ (table : ResourceTable _). slice_get table.rows place.index) (option_map table_in (find (is_numbered place.file) files))

-- the first row of a list that passes
first_row : {D : Type 0} (test : Row D → Bool) (rows : List (Row D)) (i : ℕ) → position test rows ≡ Some i → (r : Row D) × (slice_get rows i ≡ Some r) × (test r ≡ true)
first_row {D} test [] i is = absurd (cc is)
first_row {D} test (r ∷ rows) i is =
    let at = position-Some test (r ∷ rows) i r is in
    (get_or (r ∷ rows) i r, slice_get-get_or (r ∷ rows) i r at.0, at.1)

-- a row that passes is at the place
record Passes {D : Type 0} (test : Row D → Bool) (files : List (OpenFile D)) (place : RowPlace) : Type 0 where
  row : Row D
  there : row_in place files ≡ Some row
  passes : test row ≡ true

-- a row of the first of some files
at_first : {D : Type 0} (test : Row D → Bool) (f : OpenFile D) (files : List (OpenFile D)) (i : ℕ) → (r : Row D) × (slice_get f.table.rows i ≡ Some r) × (test r ≡ true) → Passes test (f ∷ files) (record { file = f.number; index = i })
at_first {D} test f files i found =
    let row = by (is_numbered f.number f) refl (eq-eqb f.number f.number refl) in record { row = row.0; there = row.1; passes = row.2 }
  where
    by : (b : Bool) → is_numbered f.number f ≡ b → b ≡ true
        → (r : Row D) × (option_and_then (λ (table : ResourceTable D). slice_get table.rows i) (option_map table_in (cond b (Some f) (find (is_numbered f.number) files))) ≡ Some r) × (test r ≡ true)
    by true same holds = found
    by false same holds = absurd (cc holds)

-- where a row is found in the first of some files
here_passes : {D : Type 0} (test : Row D → Bool) (f : OpenFile D) (files : List (OpenFile D)) → IfSome (place_in test f) (Passes test (f ∷ files))
here_passes {D} test f files = by (position test f.table.rows) refl
  where
    by : (found : Option ℕ) → position test f.table.rows ≡ found → IfSome (option_map (λ i. let place : RowPlace = record { file = f.number; index = i } in place) found) (Passes test (f ∷ files))
    by None is = tt
    by (Some i) is = at_first test f files i (first_row test f.table.rows i is)

-- a row of a file is one of a file that is numbered so
numbered : {D : Type 0} (place : RowPlace) (files : List (OpenFile D)) (r : Row D) → row_in place files ≡ Some r → list_any (is_numbered place.file) files ≡ true
numbered place [] r is = absurd (cc is)
numbered {D} place (f ∷ files) r is = by (is_numbered place.file f) is (numbered place files r)
  where
    by : (b : Bool) → option_and_then (λ (table : ResourceTable D). slice_get table.rows place.index) (option_map table_in (cond b (Some f) (find (is_numbered place.file) files))) ≡ Some r
        → (row_in place files ≡ Some r → list_any (is_numbered place.file) files ≡ true) → (b || list_any (is_numbered place.file) files) ≡ true
    by true is deeper = refl
    by false is deeper = deeper is

-- a row of the later files, none of which has the number of the first
later_passes : {D : Type 0} (test : Row D → Bool) (f : OpenFile D) (files : List (OpenFile D)) → list_any (is_numbered f.number) files ≡ false → (found : Option RowPlace)
    → IfSome found (Passes test files) → IfSome found (Passes test (f ∷ files))
later_passes {D} test f files other None passes = tt
later_passes {D} test f files other (Some place) passes = record { row = passes.row; there = by (is_numbered place.file f) refl; passes = passes.passes }
  where
    by : (b : Bool) → is_numbered place.file f ≡ b → option_and_then (λ (table : ResourceTable D). slice_get table.rows place.index) (option_map table_in (cond b (Some f) (find (is_numbered place.file) files))) ≡ Some passes.row
    by true same =
        let any = numbered place files passes.row passes.there in
        let none = subst (λ (n : ℕ). list_any (is_numbered n) files ≡ false) (eqb-true f.number place.file same) other in
        absurd (cc (any, none))
    by false same = passes.there

or_passes : (P : RowPlace → Type 0) (one other : Option RowPlace) → IfSome one P → IfSome other P → IfSome (option_or one other) P
or_passes P None other mine others = others
or_passes P (Some place) other mine others = mine

earliest_passes : (test : Row Place → Bool) (files : List (OpenFile Place)) → AreApart files → IfSome (earliest_place test files) (Passes test files)
earliest_passes test [] apart = tt
earliest_passes test (f ∷ files) apart =
    or_passes (Passes test (f ∷ files)) (place_in test f) (earliest_place test files) (here_passes test f files)
    (later_passes test f files apart.0 (earliest_place test files) (earliest_passes test files apart.1))

latest_passes : (test : Row Place → Bool) (n : ℕ) (files : List (OpenFile Place)) → AreApart files → IfSome (latest_place test (take n files)) (Passes test files)
latest_passes test zero files apart = tt
latest_passes test (suc n) [] apart = tt
latest_passes test (suc n) (f ∷ files) apart =
    or_passes (Passes test (f ∷ files)) (latest_place test (take n files)) (place_in test f)
    (later_passes test f files apart.0 (latest_place test (take n files)) (latest_passes test n files apart.1)) (here_passes test f files)

-- the file that is found has its number
same_number : {D : Type 0} (k : ℕ) (files : List (OpenFile D)) (g : OpenFile D) → find (is_numbered k) files ≡ Some g → g.number ≡ k
same_number k [] g is = absurd (cc is)
same_number {D} k (h ∷ files) g is = pick (is_numbered k h) refl is (same_number k files g)
  where
    pick : (b : Bool) → is_numbered k h ≡ b → cond b (Some h) (find (is_numbered k) files) ≡ Some g → (find (is_numbered k) files ≡ Some g → g.number ≡ k) → g.number ≡ k
    pick true same here deeper = ap (λ (file : OpenFile D). file.number) (sym (same_Some h g here)) ∙ eqb-true h.number k same
    pick false same here deeper = deeper here

-- a row of the current file that passes a test is at the place that is found
passing_there : {D : Type 0} (test : Row D → Bool) (files : OpenFiles D)
    → IfSome (option_and_then (λ k. option_and_then (place_in test) (find (is_numbered k) files.files)) files.current) (λ place. IsSome (row_at place files))
passing_there {D} test files = by files.current
  where
    in_files : (k : ℕ) (all : List (OpenFile D)) → IfSome (option_and_then (place_in test) (find (is_numbered k) all)) (λ place. IsSome (row_in place all))
    in_files k [] = tt
    in_files k (f ∷ all) = step (is_numbered k f) refl (in_files k all)
      where
        at_file : (found : Option ℕ) → position test f.table.rows ≡ found
            → IfSome (option_map (λ i. let place : RowPlace = record { file = f.number; index = i } in place) found) (λ place. IsSome (row_in place (f ∷ all)))
        at_file None is = tt
        at_file (Some i) is =
            let row = first_row test f.table.rows i is in
            let first : (b : Bool) → b ≡ true → IsSome (option_and_then (λ (table : ResourceTable D). slice_get table.rows i) (option_map table_in (cond b (Some f) (find (is_numbered f.number) all)))) = λ b holds.
            subst (λ c. IsSome (option_and_then (λ (table : ResourceTable D). slice_get table.rows i) (option_map table_in (cond c (Some f) (find (is_numbered f.number) all))))) (sym holds)
            (subst (λ (found : Option (Row D)). IsSome found) (sym row.1) refl) in
            first (is_numbered f.number f) (eq-eqb f.number f.number refl)

        other_file : (found : Option (OpenFile D)) → find (is_numbered k) all ≡ found → is_numbered k f ≡ false → IfSome (option_and_then (place_in test) found) (λ place. IsSome (row_in place all))
            → IfSome (option_and_then (place_in test) found) (λ place. IsSome (row_in place (f ∷ all)))
        other_file None is other deeper = tt
        other_file (Some g) is other deeper = at_place (position test g.table.rows) deeper
          where
            skip : (i : ℕ) (b : Bool) → b ≡ false → IsSome (row_in (record { file = g.number; index = i }) all)
                → IsSome (option_and_then (λ (table : ResourceTable D). slice_get table.rows i) (option_map table_in (cond b (Some f) (find (is_numbered g.number) all))))
            skip i true other_is some = absurd (cc other_is)
            skip i false other_is some = some

            at_place : (found : Option ℕ) → IfSome (option_map (λ i. let place : RowPlace = record { file = g.number; index = i } in place) found) (λ place. IsSome (row_in place all))
                → IfSome (option_map (λ i. let place : RowPlace = record { file = g.number; index = i } in place) found) (λ place. IsSome (row_in place (f ∷ all)))
            at_place None some = tt
            at_place (Some i) some = skip i (is_numbered g.number f) (ap (λ (n : ℕ). is_numbered n f) (same_number k all g is) ∙ other) some

        step : (b : Bool) → is_numbered k f ≡ b → IfSome (option_and_then (place_in test) (find (is_numbered k) all)) (λ place. IsSome (row_in place all))
            → IfSome (option_and_then (place_in test) (cond b (Some f) (find (is_numbered k) all))) (λ place. IsSome (row_in place (f ∷ all)))
        step true same deeper = at_file (position test f.table.rows) refl
        step false same deeper = other_file (find (is_numbered k) all) refl same deeper

    by : (current : Option ℕ) → IfSome (option_and_then (λ k. option_and_then (place_in test) (find (is_numbered k) files.files)) current) (λ place. IsSome (row_at place files))
    by None = tt
    by (Some k) = in_files k files.files

-- so is a resource of the current file, and a row of a name
pub here_there : {D : Type 0} (kind : List ℕ) (id : ℤ) (files : OpenFiles D) → IfSome (place_here kind id files) (λ place. IsSome (row_at place files))
here_there kind id files = passing_there (is_resource kind id) files

pub name_here_there : {D : Type 0} (kind name : List ℕ) (files : OpenFiles D) → IfSome (name_here kind name files) (λ place. IsSome (row_at place files))
name_here_there kind name files = passing_there (is_named kind name) files

-- so is the i-th of a type
within_from : {D : Type 0} (at : ℕ) (test : Row D → Bool) (rows : List (Row D)) (i k : ℕ) → slice_get (indexes_from at test rows) i ≡ Some k → (at ≤ k) × (k < at + length rows)
within_from at test [] i k is = absurd (cc is)
within_from {D} at test (r ∷ rows) i k is = by (test r) i is (λ n there. within_from (at + 1) test rows n k there)
  where
    by : (b : Bool) (i : ℕ) → slice_get (if b then at ∷ indexes_from (at + 1) test rows else indexes_from (at + 1) test rows) i ≡ Some k
        → ((n : ℕ) → slice_get (indexes_from (at + 1) test rows) n ≡ Some k → (at + 1 ≤ k) × (k < (at + 1) + length rows)) → (at ≤ k) × (k < at + suc (length rows))
    by true zero here later = let e = same_Some at k here in (omega (arith, e), omega (arith, e))
    by true (suc i) here later = let deeper = later i here in (omega (arith, deeper.0), omega (arith, deeper.1))
    by false i here later = let deeper = later i here in (omega (arith, deeper.0), omega (arith, deeper.1))

-- it is within its file
at_ith : {D : Type 0} (kind : List ℕ) (rows : List (Row D)) (i at : ℕ) → index_of_ith kind i rows ≡ Some at → at < length rows
at_ith kind rows zero at is = absurd (cc is)
at_ith kind rows (suc i) at is = let within = within_from 0 (is_of_type kind) rows i at is in omega (arith, within.1)

pub ith_there : (kind : List ℕ) (i : ℕ) (files : Files)
    → IfSome (option_and_then (λ k. option_map (λ at. let place : RowPlace = record { file = k; index = at } in place) (index_of_ith kind i (current_rows files))) files.current) (λ place. IsSome (row_at place files))
ith_there kind i files = by files.current
  where
    some_at : (rows : List FileRow) (at : ℕ) → at < length rows → IsSome (slice_get rows at)
    some_at [] at within = absurd (omega (arith, within))
    some_at (r ∷ rows) zero within = refl
    some_at (r ∷ rows) (suc at) within = some_at rows at (omega (arith, within))

    in_table : (k : ℕ) (table : Option FileTable) → table_of k files ≡ table → (found : Option ℕ) → index_of_ith kind i (option_map_or rows_in table []) ≡ found
        → IfSome (option_map (λ at. let place : RowPlace = record { file = k; index = at } in place) found) (λ place. IsSome (row_at place files))
    in_table k table there None is = tt
    in_table k None there (Some at) is = absurd (omega (arith, at_ith {D = List ℕ} kind [] i at is))
    in_table k (Some table) there (Some at) is =
        subst (λ (t : Option FileTable). IsSome (option_and_then (λ (table : FileTable). slice_get table.rows at) t)) (sym there) (some_at table.rows at (at_ith kind table.rows i at is))

    by : (current : Option ℕ) → IfSome (option_and_then (λ k. option_map (λ at. let place : RowPlace = record { file = k; index = at } in place) (index_of_ith kind i (option_map_or (λ k. rows_of k files) current []))) current) (λ place. IsSome (row_at place files))
    by None = tt
    by (Some k) = in_table k (table_of k files) refl (index_of_ith kind i (rows_of k files)) refl

-- so is the i-th of a type in all files
some_row_at : {D : Type 0} (rows : List (Row D)) (at : ℕ) → at < length rows → (r : Row D) × (slice_get rows at ≡ Some r) × (true ≡ true)
some_row_at [] at within = absurd (omega (arith, within))
some_row_at (r ∷ rows) zero within = (r, refl, refl)
some_row_at (r ∷ rows) (suc at) within = some_row_at rows at (omega (arith, within))

ith_passes : (kind : List ℕ) (i : ℕ) (files : List (OpenFile Place)) → AreApart files → IfSome (ith_place kind i files) (Passes (λ r. true) files)
ith_passes kind i [] apart = tt
ith_passes kind i (f ∷ files) apart = by (nat_le i (count_of_type kind (all_rows files))) (ith_passes kind i files apart.1)
  where
    left : ℕ
    left = i - count_of_type kind (all_rows files)

    here : (found : Option ℕ) → index_of_ith kind left f.table.rows ≡ found → IfSome (option_map (λ at. let place : RowPlace = record { file = f.number; index = at } in place) found) (Passes (λ r. true) (f ∷ files))
    here None is = tt
    here (Some at) is = at_first (λ r. true) f files at (some_row_at f.table.rows at (at_ith kind f.table.rows left at is))

    by : (b : Bool) → IfSome (ith_place kind i files) (Passes (λ r. true) files)
        → IfSome (if b then ith_place kind i files else option_map (λ at. let place : RowPlace = record { file = f.number; index = at } in place) (index_of_ith kind left f.table.rows)) (Passes (λ r. true) (f ∷ files))
    by true later = later_passes (λ r. true) f files apart.0 (ith_place kind i files) later
    by false later = here (index_of_ith kind left f.table.rows) refl

module _ {S : Type 0} (fork : S → List ℕ) (is_ready is_honest : S → Type 0) (chain : OpenFiles Place) (loads : Bool) (stores : List S) (now : FilesOn S) (view_is : seen fork chain loads stores ≡ now)
    (stand : StandOn fork is_ready is_honest stores chain) where
  -- a row that passes is seen
  row_passes : (test : Row Place → Bool) (place : RowPlace) → Passes test chain.files place → (r : Row Place) × (row_at place now.files ≡ Some (row_on (fork_at (map fork stores) place.file) r)) × (test r ≡ true)
  row_passes test place passes =
      let there : row_at place chain ≡ Some passes.row = passes.there in
      let shown : Some (row_on (fork_at (map fork stores) place.file) passes.row) ≡ row_at place (files_on (map fork stores) chain) =
      sym (row-mapped (bytes_in (map fork stores)) place chain ∙ ap (option_map (row_on (fork_at (map fork stores) place.file))) there) in
      (passes.row, sym (asked fork chain loads stores now view_is (row_at place) (Some (row_on (fork_at (map fork stores) place.file) passes.row)) shown), passes.passes)

  some_row : (test : Row Place → Bool) (found : Option RowPlace) → IfSome found (Passes test chain.files) → IfSome found (λ place. IsSome (row_at place now.files))
  some_row test None passes = tt
  some_row test (Some place) passes = let row = row_passes test place passes in subst (λ (found : Option FileRow). IsSome found) (sym row.1) refl

  -- the resource that is found is there
  pub resource_there : (kind : List ℕ) (id : ℤ) (result : Option RowPlace) → result ≡ place_of_resource kind id chain → IfSome result (λ place. IsSome (row_at place now.files))
  resource_there kind id result is =
      subst (λ (found : Option RowPlace). IfSome found (λ place. IsSome (row_at place now.files))) (sym is)
      (some_row (is_resource kind id) (place_of_resource kind id chain) (latest_passes (is_resource kind id) (searched chain) chain.files stand.apart))

  -- so is the row of a name
  pub name_there : (kind name : List ℕ) (result : Option RowPlace) → result ≡ place_of_name kind name chain → IfSome result (λ place. IsSome (row_at place now.files))
  name_there kind name result is =
      subst (λ (found : Option RowPlace). IfSome found (λ place. IsSome (row_at place now.files))) (sym is)
      (some_row (is_named kind name) (place_of_name kind name chain) (latest_passes (is_named kind name) (searched chain) chain.files stand.apart))

  -- so is the i-th of a type
  pub ith_place_there : (kind : List ℕ) (i : ℕ) (result : Option RowPlace) → result ≡ ith_place kind i chain.files → IfSome result (λ place. IsSome (row_at place now.files))
  ith_place_there kind i result is =
      subst (λ (found : Option RowPlace). IfSome found (λ place. IsSome (row_at place now.files))) (sym is)
      (some_row (λ r. true) (ith_place kind i chain.files) (ith_passes kind i chain.files stand.apart))

  -- the row of a handle is there, and has it
  pub handle_there : (h : ℕ) (result : Option RowPlace) → result ≡ place_of_handle h chain → IfSome result (λ place. IsSomeAnd (row_at place now.files) (λ r. r.handle ≡ Some h))
  handle_there h result is =
      subst (λ (found : Option RowPlace). IfSome found (λ place. IsSomeAnd (row_at place now.files) (λ r. r.handle ≡ Some h))) (sym is)
      (by (place_of_handle h chain) (earliest_passes (has_handle h) chain.files stand.apart))
    where
      has : (handle : Option ℕ) → option_map_or (λ g. g == h) handle false ≡ true → handle ≡ Some h
      has None is = absurd (cc is)
      has (Some g) is = ap Some (eqb-true g h is)

      by : (found : Option RowPlace) → IfSome found (Passes (has_handle h) chain.files) → IfSome found (λ place. IsSomeAnd (row_at place now.files) (λ r. r.handle ≡ Some h))
      by None passes = tt
      by (Some place) passes =
          let row = row_passes (has_handle h) place passes in
          subst (λ (found : Option FileRow). IsSomeAnd found (λ r. r.handle ≡ Some h)) (sym row.1) (has row.0.handle row.2)

  -- the current file is open
  pub current_open : (result : Option ℕ) → result ≡ chain.current → IfSome result (λ number. IsTrue (is_open number now.files))
  current_open result is = subst (λ (found : Option ℕ). IfSome found (λ number. IsTrue (is_open number now.files))) (sym is) (by chain.current stand.current)
    where
      by : (current : Option ℕ) → IfSome current (λ k. IsTrue (is_open k chain)) → IfSome current (λ k. IsTrue (is_open k now.files))
      by None open_now = tt
      by (Some k) open_now = subst IsTrue (asked fork chain loads stores now view_is (is_open k) (is_open k chain) (sym (open-mapped (bytes_in (map fork stores)) k chain))) open_now

  -- an open file has the number of a store
  pub number_within : (k : ℕ) → IsTrue (is_open k now.files) → k ≤ length now.stores
  number_within k open_now =
      let within = by chain.files stand.each (open_there fork chain loads stores now view_is k open_now) in
      subst (λ (v : FilesOn S). k ≤ length v.stores) view_is within
    where
      by : (files : List (OpenFile Place)) → AllByRecursion (StandsOn fork is_ready is_honest stores) files → IsTrue (list_any (is_numbered k) files) → k ≤ length stores
      by [] each any = absurd (cc any)
      by (f ∷ files) each any = one (is_numbered k f) refl any (by files each.1)
        where
          one : (b : Bool) → is_numbered k f ≡ b → IsTrue (b || list_any (is_numbered k) files) → (IsTrue (list_any (is_numbered k) files) → k ≤ length stores) → k ≤ length stores
          one true same some deeper = subst (λ (n : ℕ). n ≤ length stores) (eqb-true f.number k same) each.0.to_count
          one false same some deeper = deeper some

  -- it has not too many rows
  pub few_rows : (k : ℕ) → length (rows_of k now.files) ≤ max_rows
  few_rows k = subst (λ (n : ℕ). n ≤ max_rows) same_length (few (table_of k chain) refl)
    where
      few : (found : Option (ResourceTable Place)) → table_of k chain ≡ found → length (option_map_or (λ (table : ResourceTable Place). table.rows) found []) ≤ max_rows
      few None is = omega arith
      few (Some table) is = (table_stands fork is_ready is_honest stores k chain table stand is).2.few

      of_table : (found : Option (ResourceTable Place)) → length (option_map_or (λ (table : ResourceTable Place). table.rows) found [])
          ≡ length (option_map_or rows_in (option_map (mapped_table (bytes_in (map fork stores) k)) found) [])
      of_table None = refl
      of_table (Some table) = sym (length-map table.rows (row_on (fork_at (map fork stores) k)))

      same_length : length (placed_rows_of k chain) ≡ length (rows_of k now.files)
      same_length = asked fork chain loads stores now view_is (λ files. length (rows_of k files)) (length (placed_rows_of k chain))
          (of_table (table_of k chain) ∙ sym (ap (λ (found : Option FileTable). length (option_map_or rows_in found [])) (table-mapped (bytes_in (map fork stores)) k chain.files)))
