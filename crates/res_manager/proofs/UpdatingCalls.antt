-- Calls that write a file, by the update that they make.
use Rattle.std.proofs.Common.{◌≡◌, ℕ, Bool, true, false, cond, not, ◌||◌, List, [], ◌∷◌, find, Option, Some, None, Result, Ok, Err, option_map, refl, sym, ap, subst, ◌∙◌}
use Rattle.std.specs.Prelude.{OnErr, ◌&&◌}
use Rattle.std.specs.List.{list_any}
use Rattle.std.specs.Option.{option_or, option_map_or}
use Rattle.mac_base.specs.declared.error.OsErr.{OsErr}
use Rattle.mac_base.specs.declared.error.OsErr.TheVariants.{DskFulErr, MemLockedErr}
use Rattle.mac_base.specs.ZoneState.{ZoneState}
use Rattle.mac_base.specs.declared.resource_call.ResourceCall.{ResourceCall}
use Rattle.mac_base.specs.declared.resource_call.ResourceCall.TheVariants.{Writing}
use Rattle.mac_base.specs.declared.resource_call.WritingCall.TheVariants.{WriteResource, UpdateResFile, CloseResFile}
use Rattle.mac_base.specs.Outcomes.{Outcome}
use Rattle.mac_base.specs.Tests.{unless_passed}
use Rattle.res_update.specs.Changes.{FileRow, FileTable, Files, rows_of}
use Rattle.res_update.specs.Files.{ResState, file_named}
use Rattle.fork_disk.specs.declared.store.ForkStore.{Ghosts}
use Rattle.res_update.specs.Steps.{Updates, updating, work_of}
use Rattle.res_update.specs.Tests.{resource_refusal, first_refused_for, refused_for, is_lent_row, rows_named, IsOpen, AllUnlent, HasFile}
use Rattle.res_update.specs.Updates.{Update, can_be_made, file_update, fits_fork, row_passes, row_update, update_of, updated_at}
use Rattle.res_files.specs.FilesOn.{FilesOn}
use Rattle.res_table.specs.declared.chain.OpenFile.{OpenFile}
use Rattle.res_table.specs.declared.chain.RowPlace.{RowPlace}
use Rattle.res_table.specs.OpenFiles.{is_numbered, is_open, place_of_handle, table_in}
use Rattle.res_table.specs.Rows.{is_changed}
use Rattle.res_update.specs.Selected.{updated, reads_lent}
use Rattle.res_update.specs.declared.selection.Selection.TheVariants.{AllChanged, RowAt}
use Rattle.res_manager.specs.Ends.{WritesFile}
use Rattle.res_manager.specs.Steps.{ResourceSteps, state_of, takes_memory, work_takes_memory}
use Rattle.res_manager.specs.Tests.{early_tests, late_tests}
use Rattle.res_manager.proofs.Refusals.{both_passed, passed-early}
use Rattle.res_manager.proofs.Stepping.{written_steps}

-- a file that is open has a table
open_table : (k : ℕ) (files : List (OpenFile (List ℕ))) → list_any (is_numbered k) files ≡ true → (table : FileTable) × (option_map table_in (find (is_numbered k) files) ≡ Some table)
open_table k [] there = absurd (cc there)
open_table k (f ∷ files) there = by_case (is_numbered k f) (open_table k files) there
  where
    by_case : (b : Bool) → (list_any (is_numbered k) files ≡ true → (table : FileTable) × (option_map table_in (find (is_numbered k) files) ≡ Some table)) → (b || list_any (is_numbered k) files) ≡ true
        → (table : FileTable) × (option_map table_in (cond b (Some f) (find (is_numbered k) files)) ≡ Some table)
    by_case true rest here = (table_in f, refl)
    by_case false rest later = rest later

-- so it has an update
pub open_update : (k : ℕ) (change : FileTable → FileTable) (files : Files) → is_open k files ≡ true → (u : Update) × (update_of k change files ≡ Some u)
open_update k change files there =
    let t = open_table k files.files there in
    (record { file = k; table = change t.0 }, ap (λ (o : Option FileTable). option_map (λ (table : FileTable). let v : Update = record { file = k; table = change table } in v) o) t.1)

or_none : (o : Option OsErr) → option_or o None ≡ o
or_none None = refl
or_none (Some code) = refl

-- where no row is lent, no changed one is
pub any_fewer : (counts lent : FileRow → Bool) (rows : List FileRow) → list_any lent rows ≡ false → list_any (λ r. counts r && lent r) rows ≡ false
any_fewer counts lent [] none = refl
any_fewer counts lent (r ∷ rows) none = by_case (counts r) (lent r) (any_fewer counts lent rows) none
  where
    by_case : (b l : Bool) → (list_any lent rows ≡ false → list_any (λ x. counts x && lent x) rows ≡ false) → (l || list_any lent rows) ≡ false → ((b && l) || list_any (λ x. counts x && lent x) rows) ≡ false
    by_case b true rest h = absurd (cc h)
    by_case true false rest h = rest h
    by_case false false rest h = rest h

passed_not : (code : OsErr) (b : Bool) → unless_passed code (not b) ≡ None → b ≡ false
passed_not code true is = absurd (cc is)
passed_not code false is = refl

module _ {S : Type 0} (fork : S → List ℕ) (zone : ZoneState) (on : FilesOn S) where
  -- what is known of a call that makes an update
  pub record Makes (c : ResourceCall) (u : Update) : Type 0 where
    pub late : resource_refusal (state_of fork zone on) c ≡ first_refused_for (state_of fork zone on) (late_tests c)
    pub test : first_refused_for (state_of fork zone on) (late_tests c) ≡ unless_passed DskFulErr (fits_fork u.table)
    pub work : work_of (state_of fork zone on) c ≡ Updates u
    pub full : takes_memory (state_of fork zone on) c ≡ true

  -- a call whose work is the update of its file, if there is one
  makes : (c d : ResourceCall) (o : Option Update) (u : Update) → c ≡ d → work_of (state_of fork zone on) d ≡ updating o → takes_memory (state_of fork zone on) d ≡ work_takes_memory (updating o)
      → first_refused_for (state_of fork zone on) (late_tests d) ≡ option_or (unless_passed DskFulErr (can_be_made o)) None → first_refused_for (state_of fork zone on) (early_tests c) ≡ None → o ≡ Some u → Makes c u
  makes c d o u call work full test passed is =
      let P : ResourceCall → Type 0 = λ d. first_refused_for (state_of fork zone on) (early_tests d) ≡ None in
      subst (λ (d : ResourceCall). Makes d u) (sym call) (record {
        late = passed-early (state_of fork zone on) d (subst P call passed);
        test = test ∙ or_none _ ∙ ap (λ (o : Option Update). unless_passed DskFulErr (can_be_made o)) is;
        work = work ∙ ap updating is;
        full = full ∙ ap (λ (o : Option Update). work_takes_memory (updating o)) is;
      })

  -- WriteResource of a changed row
  pub makes_row : (h : ℕ) (p : RowPlace) (u : Update) → first_refused_for (state_of fork zone on) (early_tests (Writing (WriteResource h))) ≡ None → place_of_handle h on.files ≡ Some p → row_passes is_changed h on.files ≡ true
      → update_of p.file (updated zone.heap.table (RowAt p.index)) on.files ≡ Some u → Makes (Writing (WriteResource h)) u
  makes_row h p u passed place changed is =
      makes (Writing (WriteResource h)) (Writing (WriteResource h)) (row_update (state_of fork zone on) h) u refl refl refl refl passed
      (ap (λ b. cond b (option_map_or (λ (q : RowPlace). update_of q.file (updated_at zone.heap.table q.index) on.files) (place_of_handle h on.files) None) None) changed
      ∙ ap (λ (o : Option RowPlace). option_map_or (λ (q : RowPlace). update_of q.file (updated_at zone.heap.table q.index) on.files) o None) place ∙ is)

  named_update : (named : Option ℕ) (k : ℕ) (u : Update) → file_named named on.files ≡ Some k → update_of k (updated zone.heap.table AllChanged) on.files ≡ Some u → file_update (state_of fork zone on) named ≡ Some u
  named_update named k u is update = rw is update

  -- UpdateResFile
  pub makes_file : (c : ResourceCall) (named : Option ℕ) (k : ℕ) (u : Update) → c ≡ Writing (UpdateResFile named) → first_refused_for (state_of fork zone on) (early_tests c) ≡ None → file_named named on.files ≡ Some k
      → update_of k (updated zone.heap.table AllChanged) on.files ≡ Some u → Makes c u
  makes_file c named k u call passed file is = makes c _ (file_update (state_of fork zone on) named) u call refl refl refl passed (named_update named k u file is)

  -- CloseResFile
  pub makes_closed : (c : ResourceCall) (named : Option ℕ) (k : ℕ) (u : Update) → c ≡ Writing (CloseResFile named) → first_refused_for (state_of fork zone on) (early_tests c) ≡ None → file_named named on.files ≡ Some k
      → update_of k (updated zone.heap.table AllChanged) on.files ≡ Some u → Makes c u
  makes_closed c named k u call passed file is = makes c _ (file_update (state_of fork zone on) named) u call refl refl refl passed (named_update named k u file is)

  -- what a file's closing has found unlent can be written
  pub closing_unlent : (c : ResourceCall) (named : Option ℕ) (k : ℕ) → c ≡ Writing (CloseResFile named) → first_refused_for (state_of fork zone on) (early_tests c) ≡ None → file_named named on.files ≡ Some k
      → reads_lent zone.heap.table AllChanged (rows_of k on.files) ≡ false
  closing_unlent c named k call passed file =
      let P : ResourceCall → Type 0 = λ d. first_refused_for (state_of fork zone on) (early_tests d) ≡ None in
      let state : ResState = state_of fork zone on in
      let all : first_refused_for state (HasFile ∷ IsOpen named ∷ AllUnlent named ∷ []) ≡ None = subst P call passed in
      let following = both_passed (refused_for state HasFile) (first_refused_for state (IsOpen named ∷ AllUnlent named ∷ [])) all in
      let last = both_passed (refused_for state (IsOpen named)) (first_refused_for state (AllUnlent named ∷ [])) following.1 in
      let unlent : list_any (is_lent_row zone.heap.table) (rows_named named on.files) ≡ false = passed_not MemLockedErr _ (sym (or_none _) ∙ last.1) in
      let Q : Option ℕ → Type 0 = λ o. list_any (is_lent_row zone.heap.table) (option_map_or (λ j. rows_of j on.files) o []) ≡ false in
      any_fewer is_changed (is_lent_row zone.heap.table) (rows_of k on.files) (subst Q file unlent)

  -- a call that isn't refused otherwise isn't refused where a fork holds what it writes
  pub made_late : (c : ResourceCall) (u : Update) → Makes c u → fits_fork u.table ≡ true → resource_refusal (state_of fork zone on) c ≡ None
  made_late c u m fits = m.late ∙ m.test ∙ ap (λ b. unless_passed DskFulErr b) fits

-- such a call steps as it writes the file
pub made_steps : {S : Type 0} (store : Ghosts S) (zone : ZoneState) (on : FilesOn S) (new : ZoneState) (after : FilesOn S) (c : ResourceCall) (u : Update) (outcome : Outcome) → Makes store.fork zone on c u
    → WritesFile store zone on c u outcome new after → ResourceSteps store zone on c [] outcome new after
made_steps store zone on new after c u outcome m written = written_steps store zone new on after c u outcome m.late m.test m.work written

-- what holds of an error
pub on_err : {T E : Type 0} (P Q : Type 0) (result : Result T E) → (P → Q) → OnErr result P → OnErr result Q
on_err P Q (Ok x) each h = h
on_err P Q (Err e) each h = each h
