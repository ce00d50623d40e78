-- The walk over the rows of a file whose handles are on one side of a zone.
use Rattle.std.proofs.Common.{◌≡◌, ℕ, zero, suc, ◌+◌, ◌<◌, ◌≤◌, Bool, true, false, List, [], ◌∷◌, ◌++◌, All, length, drop, Option, Some, None, refl, sym, ap, subst, ◌∙◌, add-one, arith, length-append, length-drop}
use Rattle.core.specs.List.{cons_option}
use Rattle.std.specs.Prelude.{filter_map, find, if◌then◌else◌, option_and_then, slice_get}
use Rattle.std.specs.Option.{option_map_or}
use Rattle.std.proofs.lemmas.List.{drop-drop}
use Rattle.std.proofs.lemmas.List.Elements.{All-head, All-tail}
use Rattle.res_table.specs.OpenFiles.{row_at, table_of}
use Rattle.res_table.specs.Rows.{is_changed}
use Rattle.res_update.specs.Changes.{FileRow, FileTable, Files, rows_in, rows_of}
use Rattle.held_files.specs.Elsewhere.{handle_reached}
use Rattle.held_files.specs.declared.elsewhere.Reach.{Reach}
use Rattle.held_files.specs.declared.elsewhere.Reach.TheVariants.{All as AllRows, Changed}

-- rows of which this gives no handle have none
passed_over : (f : FileRow → Option ℕ) (before rest : List FileRow) → All (λ (r : FileRow). f r ≡ None) before → filter_map f (before ++ rest) ≡ filter_map f rest
passed_over f [] rest none = refl
passed_over f (r ∷ rows) rest none =
    let first : f r ≡ None = All-head (λ (x : FileRow). f x ≡ None) r rows none in
    let later = passed_over f rows rest (All-tail (λ (x : FileRow). f x ≡ None) r rows none) in
    rw first later

after_found : (before : List FileRow) (r : FileRow) (after : List FileRow) → drop (suc (length before)) (before ++ r ∷ after) ≡ after
after_found [] r after = refl
after_found (x ∷ before) r after = after_found before r after

there : (before : List FileRow) (r : FileRow) (after : List FileRow) → slice_get (before ++ r ∷ after) (length before) ≡ Some r
there [] r after = refl
there (x ∷ before) r after = there before r after

get_dropped : {X : Type 0} (from n : ℕ) (xs : List X) → slice_get (drop from xs) n ≡ slice_get xs (from + n)
get_dropped zero n xs = ap (slice_get xs) (let e : n ≡ 0 + n = omega arith in e)
get_dropped (suc from) n [] = refl
get_dropped (suc from) n (x ∷ xs) = get_dropped from n xs ∙ ap (slice_get (x ∷ xs)) (let e : suc (from + n) ≡ suc from + n = omega arith in e)

module _ (on : ℕ → Bool) (f : FileRow → Option ℕ) (rows : List FileRow) (from index h : ℕ) (before : List FileRow) (r : FileRow) (after : List FileRow)
    (is : drop from rows ≡ before ++ r ∷ after) (none : All (λ (other : FileRow). f other ≡ None) before) (at : index ≡ from + length before) where
  rest : drop (index + 1) rows ≡ after
  rest = rw at (sym (drop-drop (length before + 1) from rows ∙ ap (λ n. drop n rows) (omega arith)) ∙ ap (drop (length before + 1)) is ∙ rw (add-one) (after_found before r after))

  -- the row at the index is the one that was found
  pub is_there : slice_get rows index ≡ Some r
  is_there = ap (slice_get rows) at ∙ sym (get_dropped from (length before) rows) ∙ ap (λ (rs : List FileRow). slice_get rs (length before)) is ∙ there before r after

  -- it is the first that is on that side
  pub found : f r ≡ Some h → on h ≡ true → find on (filter_map f (drop from rows)) ≡ Some h
  found has here = ap (λ (rs : List FileRow). find on (filter_map f rs)) is ∙ ap (find on) (passed_over f before (r ∷ after) none) ∙ rw has (rw here refl)

  -- or the first is after it
  pub passed : find on (cons_option (f r) (filter_map f after)) ≡ find on (filter_map f after) → find on (filter_map f (drop from rows)) ≡ find on (filter_map f (drop (index + 1) rows))
  passed skips = ap (λ (rs : List FileRow). find on (filter_map f rs)) is ∙ ap (find on) (passed_over f before (r ∷ after) none) ∙ skips ∙ ap (λ (rs : List FileRow). find on (filter_map f rs)) (sym rest)

  pub within : index < length rows
  within =
      let long : length (drop from rows) ≡ length before + suc (length after) = ap length is ∙ length-append before (r ∷ after) in
      omega (arith, long, length-drop from rows)

-- where no further row has one, there is none
pub none_left : (on : ℕ → Bool) (f : FileRow → Option ℕ) (rows : List FileRow) → All (λ (r : FileRow). f r ≡ None) rows → find on (filter_map f rows) ≡ None
none_left on f [] none = refl
none_left on f (r ∷ rows) none =
    let first : f r ≡ None = All-head (λ (x : FileRow). f x ≡ None) r rows none in
    rw first (none_left on f rows (All-tail (λ (x : FileRow). f x ≡ None) r rows none))

-- a row without a handle gives none
reached_none : (reach : Reach) (r : FileRow) → r.handle ≡ None → handle_reached reach r ≡ None
reached_none AllRows r none = none
reached_none Changed r none = by (is_changed r)
  where
    by : (b : Bool) → (if b then r.handle else None) ≡ None
    by true = none
    by false = refl

-- and so with many
pub none_reached : (reach : Reach) (rows : List FileRow) → All (λ (r : FileRow). r.handle ≡ None) rows → All (λ (r : FileRow). handle_reached reach r ≡ None) rows
none_reached reach rows none = λ i d low. reached_none reach _ (none i d low)

-- one whose handle is on the other side isn't found, whether it is reached or not
pub away : (on : ℕ → Bool) (reach : Reach) (r : FileRow) (h : ℕ) (later : List ℕ) → r.handle ≡ Some h → on h ≡ false → find on (cons_option (handle_reached reach r) later) ≡ find on later
away on AllRows r h later has off = rw has (rw off refl)
away on Changed r h later has off = by (is_changed r)
  where
    by : (b : Bool) → find on (cons_option (if b then r.handle else None) later) ≡ find on later
    by true = rw has (rw off refl)
    by false = refl

-- nor is one that isn't reached
pub unreached : (on : ℕ → Bool) (reach : Reach) (r : FileRow) (later : List ℕ) → None ≡ handle_reached reach r → find on (cons_option (handle_reached reach r) later) ≡ find on later
unreached on reach r later none = ap (λ (o : Option ℕ). find on (cons_option o later)) (sym none)

-- a row that a file has at an index is the one at that place
pub row_there : (k index : ℕ) (files : Files) (r : FileRow) → slice_get (rows_of k files) index ≡ Some r → row_at (record { file = k; index = index }) files ≡ Some r
row_there k index files r is = by (table_of k files) is
  where
    by : (t : Option FileTable) → slice_get (option_map_or rows_in t []) index ≡ Some r → option_and_then (λ (table : FileTable). slice_get table.rows index) t ≡ Some r
    by None is = absurd (cc is)
    by (Some table) is = is
