-- The open files as they are seen, by the files with places: what is asked of them, and what changes them.
use Rattle.std.proofs.Common.{◌≡◌, refl, sym, ap, ◌∙◌, subst, arith, ℕ, zero, suc, ◌<◌, List, [], length, map, Bool, true, false, Option, None, Some, Result, Ok, Err, IfNone, OnOk, OnErr, IsSome, IsTrue}
use Rattle.std.specs.Prelude.{◌&&◌}
use Rattle.std.specs.Option.{option_map, option_map_or, option_and_then}
use Rattle.std.proofs.lemmas.Bool.{leb-true}
use Rattle.std.proofs.lemmas.List.{length-map}
use Rattle.fork_bytes.specs.Fork.{max_rows}
use Rattle.fork_bytes.specs.declared.place.Place.{Place}
use Rattle.res_table.specs.declared.row.Row.{Row}
use Rattle.res_table.specs.declared.chain.ResourceTable.{ResourceTable}
use Rattle.res_table.specs.declared.chain.RowPlace.{RowPlace}
use Rattle.res_table.specs.Rows.{added, changed_at, ith, index_of_ith}
use Rattle.res_table.specs.Saved.{bare, saved_row}
use Rattle.res_table.specs.OpenFiles.{OpenFiles, is_open, row_at, rows_changed, table_of}
use Rattle.res_update.specs.Changes.{Files, FileRow, FileTable, row_changed, rows_of, current_rows, rows_in}
use Rattle.res_update.specs.Fitting.{rows_fit}
use Rattle.res_update.specs.Placed.{bytes_on, row_on}
use Rattle.res_update.proofs.PlaceBytes.{length-on}
use Rattle.res_files.specs.FilesOn.{FilesOn, Shows}
use Rattle.res_files.specs.Standing.{fork_at, files_on, placed_rows, placed_rows_of}
use Rattle.res_files.proofs.Mapped.{mapped_row, mapped_rows, mapped_table, changed_at-mapped, rows_changed-mapped, table-mapped, row-mapped, open-mapped, index_of_ith-mapped}
use Rattle.res_files.proofs.Stands.{long_added}

-- the bytes at a place of the file of a number
abbrev pub bytes_in : List (List ℕ) → ℕ → Place → List ℕ
bytes_in forks k = bytes_on (fork_at forks k)

-- the files with places, as they are seen
abbrev pub seen : {S : Type 0} → (S → List ℕ) → OpenFiles Place → Bool → List S → FilesOn S
seen fork chain loads stores = record { files = files_on (map fork stores) chain; loads = loads; stores = stores }

module _ {S : Type 0} (fork : S → List ℕ) (chain : OpenFiles Place) (loads : Bool) (stores : List S) (now : FilesOn S) (view_is : seen fork chain loads stores ≡ now) where
  -- an answer about the files that are seen
  pub asked : {A : Type 0} (ask : Files → A) (answer : A) → answer ≡ ask (files_on (map fork stores) chain) → answer ≡ ask now.files
  asked ask answer is = is ∙ ap (λ (v : FilesOn S). ask v.files) view_is

  -- an answer about the rows of the current file
  pub asked_current : {A : Type 0} (ask : List FileRow → A) (own : List (Row Place) → A) → ((g : Place → List ℕ) (rows : List (Row Place)) → ask (mapped_rows g rows) ≡ own rows)
      → (answer : A) (rows : List (Row Place)) → answer ≡ own rows → rows ≡ placed_rows chain → answer ≡ ask (current_rows now.files)
  asked_current {A} ask own same answer rows is rows_are = asked (λ files. ask (current_rows files)) answer (is ∙ ap own rows_are ∙ sym (by chain.current))
    where
      of_table : (k : ℕ) (found : Option (ResourceTable Place)) → ask (option_map_or rows_in (option_map (mapped_table (bytes_in (map fork stores) k)) found) [])
          ≡ own (option_map_or (λ (table : ResourceTable Place). table.rows) found [])
      of_table k None = same (λ _. []) []
      of_table k (Some table) = same (bytes_in (map fork stores) k) table.rows

      by : (current : Option ℕ) → ask (option_map_or (λ k. rows_of k (files_on (map fork stores) chain)) current []) ≡ own (option_map_or (λ k. placed_rows_of k chain) current [])
      by None = same (λ _. []) []
      by (Some k) = ap (λ (found : Option FileTable). ask (option_map_or rows_in found [])) (table-mapped (bytes_in (map fork stores)) k chain.files) ∙ of_table k (table_of k chain)

  -- the place of a row of a type in the current file
  pub asked_ith : (kind : List ℕ) (i k : ℕ) → chain.current ≡ Some k → (rows : List (Row Place)) → rows ≡ placed_rows chain → (answer : Option RowPlace)
      → answer ≡ option_map (λ at. let place : RowPlace = record { file = k; index = at } in place) (index_of_ith kind i rows)
      → answer ≡ option_and_then (λ n. option_map (λ at. let place : RowPlace = record { file = n; index = at } in place) (index_of_ith kind i (current_rows now.files))) now.files.current
  asked_ith kind i k current rows rows_are answer is =
      let found = asked_current (index_of_ith kind i) (index_of_ith kind i) (λ h rs. index_of_ith-mapped h kind i rs) (index_of_ith kind i rows) rows refl rows_are in
      is ∙ ap (option_map (λ at. let place : RowPlace = record { file = k; index = at } in place)) found
      ∙ ap (option_and_then (λ n. option_map (λ at. let place : RowPlace = record { file = n; index = at } in place) (index_of_ith kind i (current_rows now.files))))
      (sym current ∙ asked (λ files. files.current) chain.current refl)

  -- a change of the files that are seen
  pub changed : (new : OpenFiles Place) (change : Files → Files) (own : OpenFiles Place → OpenFiles Place) → new ≡ own chain → change (files_on (map fork stores) chain) ≡ files_on (map fork stores) (own chain)
      → seen fork new loads stores ≡ record { files = change now.files; loads = now.loads; stores = now.stores }
  changed new change own is natural =
      ap (λ (chain : OpenFiles Place). seen fork chain loads stores) is
      ∙ ap (λ (files : Files). let v : FilesOn S = record { files = files; loads = loads; stores = stores } in v) (sym natural)
      ∙ ap (λ (v : FilesOn S). let w : FilesOn S = record { files = change v.files; loads = v.loads; stores = v.stores } in w) view_is

  -- and of a row
  pub changed_row : (new : OpenFiles Place) (place : RowPlace) (own : Row Place → Row Place) (change : FileRow → FileRow) → ((f : Place → List ℕ) (r : Row Place) → change (mapped_row f r) ≡ mapped_row f (own r))
      → new ≡ rows_changed place.file (changed_at place.index own) chain → seen fork new loads stores ≡ record { files = row_changed place change now.files; loads = now.loads; stores = now.stores }
  changed_row new place own change same is =
      let bytes = bytes_in (map fork stores) in
      changed new (row_changed place change) (rows_changed place.file (changed_at place.index own)) is
      (rows_changed-mapped bytes place.file (changed_at place.index change) (changed_at place.index own) (changed_at-mapped (bytes place.file) place.index change own (same (bytes place.file))) chain)

  -- a row that is seen is there
  some_mapped : {X Y : Type 0} (g : X → Y) (found : Option X) → IsSome (option_map g found) → IsSome found
  some_mapped g None some = absurd (cc some)
  some_mapped g (Some x) some = refl

  pub row_there : (place : RowPlace) → IsSome (row_at place now.files) → IsSome (row_at place chain)
  row_there place some =
      let P : FilesOn S → Type 0 = λ v. IsSome (row_at place v.files) in
      let seen_row : IsSome (row_at place (files_on (map fork stores) chain)) = subst P (sym view_is) some in
      some_mapped (row_on (fork_at (map fork stores) place.file)) (row_at place chain) (subst (λ (found : Option FileRow). IsSome found) (row-mapped (bytes_in (map fork stores)) place chain) seen_row)

  -- so is a file
  pub open_there : (k : ℕ) → IsTrue (is_open k now.files) → IsTrue (is_open k chain)
  open_there k open_now = subst IsTrue (sym (asked (is_open k) (is_open k chain) (sym (open-mapped (bytes_in (map fork stores)) k chain)))) open_now

  -- what a row is seen as
  pub row_seen : (place : RowPlace) (r : Row Place) → row_at place chain ≡ Some r → (shown : FileRow) × (row_at place now.files ≡ Some shown) × Shows r shown
  row_seen place r is =
      let bytes = fork_at (map fork stores) place.file in
      let shown = row_on bytes r in
      let there : Some shown ≡ row_at place (files_on (map fork stores) chain) = sym (row-mapped (bytes_in (map fork stores)) place chain ∙ ap (option_map (row_on bytes)) is) in
      let long = sym (length-on bytes r.resource.datum) in
      (shown, sym (asked (row_at place) (Some shown) there), record { kind = refl; id = refl; name = refl; attributes = refl; handle = refl; size = long })

  pub no_row_seen : (place : RowPlace) → row_at place chain ≡ None → row_at place now.files ≡ None
  no_row_seen place is =
      sym (asked (row_at place) None (sym (row-mapped (bytes_in (map fork stores)) place chain ∙ ap (option_map (row_on (fork_at (map fork stores) place.file))) is)))

  -- where one row more fits, there is room for it
  pub room : (k : ℕ) (new : FileRow) → IsTrue (rows_fit (bare (added new (rows_of k now.files)))) → length (placed_rows_of k chain) < max_rows
  room k new fits = by (rows_of k now.files) fits same_length
    where
      first : (a b : Bool) → IsTrue (a && b) → a ≡ true
      first true b is = refl
      first false b is = absurd (cc is)

      of_table : (found : Option (ResourceTable Place)) → length (option_map_or (λ (table : ResourceTable Place). table.rows) found [])
          ≡ length (option_map_or rows_in (option_map (mapped_table (bytes_in (map fork stores) k)) found) [])
      of_table None = refl
      of_table (Some table) = sym (length-map table.rows (row_on (fork_at (map fork stores) k)))

      same_length : length (placed_rows_of k chain) ≡ length (rows_of k now.files)
      same_length = asked (λ files. length (rows_of k files)) (length (placed_rows_of k chain))
          (of_table (table_of k chain) ∙ sym (ap (λ (found : Option FileTable). length (option_map_or rows_in found [])) (table-mapped (bytes_in (map fork stores)) k chain.files)))

      by : (rows : List FileRow) → IsTrue (rows_fit (bare (added new rows))) → length (placed_rows_of k chain) ≡ length rows → length (placed_rows_of k chain) < max_rows
      by rows fit same =
          let few = leb-true (length (bare (added new rows))) max_rows (first _ _ fit) in
          let long = length-map (added new rows) (saved_row (λ (_ : List ℕ). [])) in
          let more = long_added new rows in omega arith

-- none of no things
pub ith_none : {X : Type 0} (i : ℕ) → ith {X = X} i [] ≡ None
ith_none zero = refl
ith_none (suc i) = refl

-- what follows where there is nothing, where a call succeeds, and in either case
pub none_then : {X : Type 0} (r : Option X) (P Q : Type 0) → IfNone r P → (P → Q) → IfNone r Q
none_then None P Q is step = step is
none_then (Some x) P Q is step = is

pub ok_then : {A E : Type 0} (r : Result A E) (P Q : Type 0) → OnOk r P → (P → Q) → OnOk r Q
ok_then (Ok x) P Q is step = step is
ok_then (Err e) P Q is step = is

pub either_way : {A E : Type 0} (r : Result A E) (P Q R : Type 0) → OnOk r P → OnErr r Q → (P → R) → (Q → R) → R
either_way (Ok x) P Q R ok err on_ok on_err = on_ok ok
either_way (Err e) P Q R ok err on_ok on_err = on_err err
