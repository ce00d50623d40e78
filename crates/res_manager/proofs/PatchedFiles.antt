-- How it ends where a row gets other bytes in its file.
use Rattle.std.proofs.Common.{◌≡◌, ◌∙◌, ℕ, true, false, List, length, slice_get, Option, Some, None, Result, Ok, Err, refl, sym, ap, subst, option_map}
use Rattle.std.specs.Prelude.{IfOk, IfSome, IsSomeAnd, OnOk}
use Rattle.std.specs.Option.{option_and_then}
use Rattle.std.proofs.lemmas.Result.{on_ok_weaker}
use Rattle.fork_bytes.specs.Fork.{StandsFor}
use Rattle.fork_bytes.specs.Written.{written}
use Rattle.fork_bytes.specs.declared.table.Table.{Table}
use Rattle.fork_disk.specs.Crash.{AlwaysFinds, FoundBeforeOr}
use Rattle.fork_disk.specs.declared.store.ForkStore.{Ghosts}
use Rattle.fork_disk.specs.declared.store.ReplaceFault.{ReplaceFault}
use Rattle.fork_disk.specs.declared.store.ReplaceFault.TheVariants.{BeforeFirstWrite, Later}
use Rattle.mac_base.specs.ZoneState.{ZoneState}
use Rattle.mac_base.specs.HandleTable.{HandleTable, bytes_of}
use Rattle.mac_base.specs.declared.error.OsErr.TheVariants.{DskFulErr, IoErr}
use Rattle.mac_base.specs.declared.resource.ResAttrs.{ResAttrs}
use Rattle.mac_base.specs.declared.resource_call.ResourceCall.TheVariants.{Writing}
use Rattle.mac_base.specs.declared.resource_call.WritingCall.TheVariants.{UpdateResFile}
use Rattle.mac_base.specs.declared.reply.Results.TheVariants.{Nothing}
use Rattle.mac_base.specs.Outcomes.{Outcome}
use Rattle.res_table.specs.declared.chain.RowPlace.{RowPlace}
use Rattle.res_table.specs.OpenFiles.{file_closed, row_at, table_of}
use Rattle.res_table.specs.Rows.{changed_at, with_attributes, with_datum}
use Rattle.res_update.specs.Answered.{AnswersFor}
use Rattle.res_update.specs.Changes.{FileRow, FileTable, Files, row_changed, saved_table, with_changed_rows}
use Rattle.res_update.specs.Steps.{IsSaved}
use Rattle.res_update.specs.Updates.{Update, fits_fork}
use Rattle.res_files.specs.Crash.{OthersStay, history_of}
use Rattle.res_files.specs.FilesOn.{FailedAt, FilesOn, HonestAt, NoneFailed, fork_of}
use Rattle.res_files.specs.Stores.{UpdatesStore}
use Rattle.res_update.specs.Selected.{updated}
use Rattle.res_update.specs.declared.fault.UpdateFault.{UpdateFault}
use Rattle.res_update.specs.declared.selection.Selection.TheVariants.{RowAt}
use Rattle.res_manager.specs.Crash.{IsSettled, SavesFork}
use Rattle.res_manager.specs.Ends.{WritesFile}
use Rattle.res_manager.specs.Patching.{HasHandle, update_with}
use Rattle.res_manager.specs.Steps.{state_of}
use Rattle.res_manager.proofs.LeavingForks.{saves_changed}
use Rattle.res_manager.proofs.PatchedRows.{attributes_back, fits_alike, table_alike, updated_files}
use Rattle.res_manager.proofs.RowUpdates.{row_open}
use Rattle.res_manager.proofs.WritingFiles.{writes_all, writes_faulted, writes_nothing}

-- the row at a place, and its table
pub record Found (p : RowPlace) (h : ℕ) (files : Files) : Type 0 where
  pub table : FileTable
  pub row : FileRow
  pub is : table_of p.file files ≡ Some table
  pub here : slice_get table.rows p.index ≡ Some row
  pub there : row_at p files ≡ Some row
  pub handle : row.handle ≡ Some h

pub found : (p : RowPlace) (h : ℕ) (files : Files) → HasHandle p h files → Found p h files
found p h files has = by_table (table_of p.file files) refl has
  where
    by_row : (table : FileTable) (o : Option FileRow) → table_of p.file files ≡ Some table → slice_get table.rows p.index ≡ o → IsSomeAnd o (λ r. r.handle ≡ Some h) → Found p h files
    by_row table (Some r) is here handle = record {
      table = table;
      row = r;
      is = is;
      here = here;
      handle = handle;
      there = ap (option_and_then (λ (t : FileTable). slice_get t.rows p.index)) is ∙ here;
    }
    by_row table None is here handle = absurd handle

    by_table : (o : Option FileTable) → table_of p.file files ≡ o → IsSomeAnd (option_and_then (λ (t : FileTable). slice_get t.rows p.index) o) (λ r. r.handle ≡ Some h) → Found p h files
    by_table (Some table) is handle = by_row table (slice_get table.rows p.index) is refl handle
    by_table None is handle = absurd handle

-- what is said of a table as it is saved
as_saved : (Q : Table → Type 0) (f g : FileTable → FileTable) (o : Option FileTable) → IfSome o (λ t. saved_table (f t) ≡ saved_table (g t)) → IfSome o (λ t. Q (saved_table (f t))) → IfSome o (λ t. Q (saved_table (g t)))
as_saved Q f g (Some t) same h = subst Q same h
as_saved Q f g None same h = tt

-- what is written of a table that is saved alike
pub updates_as : {S T : Type 0} (store : Ghosts S) (k : ℕ) (f g : FileTable → FileTable) (files : Files) (old new : List S) (result : Result T UpdateFault) → IfSome (table_of k files) (λ t. saved_table (f t) ≡ saved_table (g t))
    → UpdatesStore store k f files old new result → UpdatesStore store k g files old new result
updates_as store k f g files old new result same all = record {
  honest = all.honest;
  replaced = on_ok_weaker result (as_saved (λ saved. fork_of store.fork k new ≡ written saved) f g (table_of k files) same) all.replaced;
  stands = on_ok_weaker result (as_saved (λ saved. StandsFor (fork_of store.fork k new) saved) f g (table_of k files) same) all.stands;
  before = all.before;
  later = λ is. as_saved (λ saved. store.may_leave (written saved) (fork_of store.fork k old) (fork_of store.fork k new)) f g (table_of k files) same (all.later is);
  any_moment = as_saved (λ saved. AlwaysFinds store.may_find (FoundBeforeOr store.may_find (history_of store.history k old) (written saved)) (history_of store.history k old) (history_of store.history k new)) f g (table_of k files) same all.any_moment;
  settled = all.settled;
}

module _ (t : HandleTable) (h : ℕ) (bytes : List ℕ) (holds : bytes_of t h ≡ bytes) (p : RowPlace) where
  -- the table once the row has its bytes
  abbrev pub with_bytes : FileTable → FileTable
  with_bytes table = with_changed_rows (changed_at p.index (with_datum bytes)) table

  module _ (files : Files) (f : Found p h files) where
    pub alike : saved_table (updated t (RowAt p.index) f.table) ≡ saved_table (with_bytes f.table)
    alike = table_alike t h bytes holds p.index f.table f.row f.here f.handle

    pub if_alike : IfSome (table_of p.file files) (λ table. saved_table (updated t (RowAt p.index) table) ≡ saved_table (with_bytes table))
    if_alike = subst (λ (o : Option FileTable). IfSome o (λ table. saved_table (updated t (RowAt p.index) table) ≡ saved_table (with_bytes table))) (sym f.is) alike

    abbrev patch : Update
    patch = record { file = p.file; table = with_bytes f.table }

    is_patch : (u : Update) → update_with bytes p files ≡ Some u → patch ≡ u
    is_patch u is = let one : Some patch ≡ Some u = sym (ap (option_map (λ (table : FileTable). let v : Update = record { file = p.file; table = with_bytes table } in v)) f.is) ∙ is in cc one

  -- how the update leaves its fork, whatever its end
  pub saves_patched : {S T E : Type 0} (store : Ghosts S) (zone : ZoneState) (on after : FilesOn S) (writing : Result T UpdateFault) (result : Result Outcome E) → HasHandle p h on.files
      → (HonestAt store.is_honest after.stores p.file → UpdatesStore store p.file (updated t (RowAt p.index)) on.files on.stores after.stores writing) → OthersStay p.file on.stores after.stores
      → IfOk result (λ outcome. OnOk outcome (IsSettled store (Some p.file) after.stores)) → IfOk result (λ outcome. OnOk outcome (IsSaved (HonestAt store.is_honest after.stores) (update_with bytes p on.files) (state_of store.fork zone after)))
      → SavesFork store p.file (update_with bytes p on.files) on.stores zone after result
  saves_patched store zone on after writing result there updates =
      saves_changed store zone p.file with_bytes on.files on.stores after writing result (row_open p on.files (λ (r : FileRow). r.handle ≡ Some h) there)
      (λ honest. updates_as store p.file (updated t (RowAt p.index)) with_bytes on.files on.stores after.stores writing (if_alike on.files (found p h on.files there)) (updates honest))

  module _ {S : Type 0} (store : Ghosts S) (zone : ZoneState) (on after : FilesOn S) (f : Found p h on.files) (u : Update) (is : update_with bytes p on.files ≡ Some u)
      (loads : after.loads ≡ on.loads) (count : length after.stores ≡ length on.stores) (others : OthersStay p.file on.stores after.stores) where
    -- where no fork holds the table
    pub unwritten : fits_fork (updated t (RowAt p.index) f.table) ≡ false → after ≡ on → WritesFile store zone on (Writing (UpdateResFile None)) u (Err DskFulErr) zone after
    unwritten none same =
        subst (λ (w : Update). WritesFile store zone on (Writing (UpdateResFile None)) w (Err DskFulErr) zone after) (is_patch on.files f u is)
        (writes_nothing store zone on after (patch on.files f) loads count others (sym (fits_alike _ _ (alike on.files f)) ∙ none) same)

    -- it is written, and the row has its attributes
    pub written_back : (a : ResAttrs) → a ≡ f.row.resource.attributes → fits_fork (updated t (RowAt p.index) f.table) ≡ true
        → AnswersFor (HonestAt store.is_honest after.stores) (updated_files t h bytes holds p on.files f.table f.is f.row f.there f.handle) after.files
        → (HonestAt store.is_honest after.stores p.file → fork_of store.fork p.file after.stores ≡ written (saved_table (updated t (RowAt p.index) f.table)))
        → NoneFailed store.failures on.stores after.stores → WritesFile store zone on (Writing (UpdateResFile None)) u (Ok Nothing) zone (record after { files = row_changed p (with_attributes a) after.files })
    written_back a same room files forks works =
        let back : FilesOn S = record after { files = row_changed p (with_attributes a) after.files } in
        subst (λ (w : Update). WritesFile store zone on (Writing (UpdateResFile None)) w (Ok Nothing) zone back) (is_patch on.files f u is)
        (writes_all store zone on back (patch on.files f) loads count others (sym (fits_alike _ _ (alike on.files f)) ∙ room)
        (attributes_back t h bytes holds p on.files f.table f.is f.row f.there f.handle (HonestAt store.is_honest after.stores) a after.files same files)
        (λ honest. forks honest ∙ ap written (alike on.files f)) works)

    -- the device fails
    pub faulted : (fault : ReplaceFault) → fits_fork (updated t (RowAt p.index) f.table) ≡ true
        → (fault ≡ BeforeFirstWrite → AnswersFor (HonestAt store.is_honest after.stores) on.files after.files)
        → (HonestAt store.is_honest after.stores p.file → fault ≡ BeforeFirstWrite → fork_of store.fork p.file after.stores ≡ fork_of store.fork p.file on.stores)
        → (fault ≡ Later → after.files ≡ file_closed p.file on.files)
        → (HonestAt store.is_honest after.stores p.file → fault ≡ Later
        → store.may_leave (written (saved_table (updated t (RowAt p.index) f.table))) (fork_of store.fork p.file on.stores) (fork_of store.fork p.file after.stores))
        → (fault ≡ BeforeFirstWrite → FailedAt store.failures p.file on.stores after.stores) → (fault ≡ Later → FailedAt store.failures p.file on.stores after.stores)
        → WritesFile store zone on (Writing (UpdateResFile None)) u (Err IoErr) zone after
    faulted fault room before forks closed later cause cause_later =
        subst (λ (w : Update). WritesFile store zone on (Writing (UpdateResFile None)) w (Err IoErr) zone after) (is_patch on.files f u is)
        (writes_faulted store zone on after (patch on.files f) loads count others fault (sym (fits_alike _ _ (alike on.files f)) ∙ room) before forks closed
        (λ honest is. subst (λ (saved : Table). store.may_leave (written saved) (fork_of store.fork p.file on.stores) (fork_of store.fork p.file after.stores)) (alike on.files f) (later honest is)) cause cause_later)
