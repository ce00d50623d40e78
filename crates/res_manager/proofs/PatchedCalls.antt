-- How a call ends that changes the bytes of the resource at a place: by what was read, made and written.
use Rattle.std.proofs.Common.{◌≡◌, ◌∙◌, ℕ, ◌-◌, ◌<◌, Bool, true, false, List, length, map, slice_get, Option, Some, None, Result, Ok, Err, refl, sym, ap, subst, option_map, inl, inr, ◌⊎◌}
use Rattle.std.specs.Prelude.{IsErr, IfOk, IsSomeAnd, MatchBool, OnOk}
use Rattle.std.specs.Option.{option_map_or}
use Rattle.std.proofs.lemmas.Result.{on_ok_weaker}
use Rattle.fork_bytes.specs.Fork.{max_fork}
use Rattle.fork_bytes.specs.Written.{written}
use Rattle.fork_disk.specs.Crash.{AlwaysFinds}
use Rattle.fork_disk.specs.Disk.{Rose}
use Rattle.fork_disk.specs.declared.store.ForkStore.{Ghosts}
use Rattle.mac_base.specs.ZoneState.{ZoneState}
use Rattle.mac_base.specs.declared.error.OsErr.TheVariants.{DskFulErr, IoErr}
use Rattle.mac_base.specs.Outcomes.{Outcome}
use Rattle.mac_base.specs.declared.resource_call.ResourceCall.TheVariants.{Writing}
use Rattle.mac_base.specs.declared.resource_call.WritingCall.TheVariants.{UpdateResFile}
use Rattle.res_table.specs.declared.chain.RowPlace.{RowPlace}
use Rattle.res_table.specs.Rows.{changed_at, with_datum}
use Rattle.res_update.specs.declared.patching_call.PatchingCall.{PatchingCall}
use Rattle.res_update.specs.Answered.{AnswersFor, answered_disks}
use Rattle.res_update.specs.Changes.{FileRow, FileTable, Files, row_changed, saved_table, with_changed_rows}
use Rattle.res_update.specs.Device.{Device, Works, FailsBefore, FailsWriting, device_works}
use Rattle.res_update.specs.Files.{ResState}
use Rattle.res_update.specs.Partial.{data_at}
use Rattle.res_update.specs.Patching.{UpdatesBy, WritesBy, patch_update, patched_bytes, patched_row}
use Rattle.res_update.specs.Steps.{IsSaved}
use Rattle.res_update.specs.Updates.{Update, fits_fork}
use Rattle.res_update.proofs.Answering.{answered_back, itself}
use Rattle.res_files.specs.Crash.{history_of}
use Rattle.res_files.specs.FilesOn.{FailedAt, FilesOn, HonestAt, NoneFailed, WereHonest, failures_at}
use Rattle.res_files.specs.Stores.{KeepsStores}
use Rattle.res_files.proofs.Mapped.{get-mapped}
use Rattle.res_manager.specs.Crash.{MayBeFound, SavesFork}
use Rattle.res_manager.specs.Ends.{WritesFile}
use Rattle.res_manager.specs.Patching.{MakesOf, PatchesAt, update_with}
use Rattle.res_manager.specs.Steps.{state_of}
use Rattle.res_manager.proofs.Crash.{calm_leaves, weaker}
use Rattle.res_manager.proofs.Known.{known-datum, known-same}
use Rattle.res_manager.proofs.OnlyRead.{only_read}
use Rattle.res_manager.proofs.PatchedFiles.{Found, found}
use Rattle.res_manager.proofs.PatchedSteps.{as_own, as_read, fewer_answered, own_data, own_table, same_handle, same_size, unfit, update_is, written_so}
use Rattle.res_manager.proofs.Stepping.{if_ok}

-- by whether the device works, what follows from each
each_cause : (device : Device) (A B C D : Type 0) → (A → C) → (B → D) → MatchBool (device_works device) A B → MatchBool (device_works device) C D
each_cause Works A B C D works fails h = works h
each_cause FailsBefore A B C D works fails h = fails h
each_cause (FailsWriting left) A B C D works fails h = fails h

-- how often a store failed, by the counts of all
failures_in : {S : Type 0} (failures : S → ℕ) (at : ℕ) (stores : List S) → failures_at failures at stores ≡ option_map_or (λ (n : ℕ). n) (slice_get (map failures stores) at) 0
failures_in {S} failures at stores = by (slice_get stores at) ∙ sym (ap (λ (o : Option ℕ). option_map_or (λ (n : ℕ). n) o 0) (get-mapped failures stores at))
  where
    by : (o : Option S) → option_map_or failures o 0 ≡ option_map_or (λ (n : ℕ). n) (option_map failures o) 0
    by None = refl
    by (Some s) = refl

-- it failed, where none had failed before
failed_then : {S : Type 0} (failures : S → ℕ) (k : ℕ) (old mid new : List S) → NoneFailed failures old mid → length mid ≡ length old → FailedAt failures k mid new → FailedAt failures k old new
failed_then failures k old mid new none count failed =
    let same : failures_at failures (k - 1) mid ≡ failures_at failures (k - 1) old =
    failures_in failures (k - 1) mid ∙ ap (λ (ns : List ℕ). option_map_or (λ (n : ℕ). n) (slice_get ns (k - 1)) 0) none ∙ sym (failures_in failures (k - 1) old) in
    (subst (λ (n : ℕ). k - 1 < n) count failed.0, subst (λ (n : ℕ). Rose n (failures_at failures (k - 1) new)) same failed.1)

module _ {S : Type 0} (store : Ghosts S) (zone : ZoneState) (old : FilesOn S) (p : RowPlace) (h : ℕ) (call : PatchingCall) (f : Found p h old.files) where
  -- the update of its file
  abbrev patch : Update
  patch = record { file = p.file; table = with_changed_rows (changed_at p.index (patched_row call)) f.table }

  is_patch : patch_update call old.files p ≡ Some patch
  is_patch = update_is p.file (with_changed_rows (changed_at p.index (patched_row call))) old.files f.table f.is

  -- where it makes more bytes than a fork has
  pub patched_too_long : max_fork < length (patched_bytes call (data_at p old.files)) → PatchesAt store zone old p call (Err DskFulErr) old
  patched_too_long more =
      let state : ResState = state_of store.fork zone old in
      let none = unfit call p h old.files f (subst (λ (b : List ℕ). max_fork < length (patched_bytes call b)) (own_data p h old.files f) more) in
      let by_fit : WritesBy (answered_disks (HonestAt store.is_honest old.stores) store.may_leave) false Works patch state (record { outcome = Err DskFulErr; state = state }) = refl in
      record {
        device = Works;
        before = state;
        after = state;
        was = itself (HonestAt store.is_honest old.stores) state;
        becomes = itself (HonestAt store.is_honest old.stores) state;
        updates = subst (λ (o : Option Update). UpdatesBy (answered_disks (HonestAt store.is_honest old.stores) store.may_leave) Works o state (record { outcome = Err DskFulErr; state = state })) (sym is_patch)
            (subst (λ (b : Bool). WritesBy (answered_disks (HonestAt store.is_honest old.stores) store.may_leave) b Works patch state (record { outcome = Err DskFulErr; state = state })) (sym none) by_fit);
        cause = refl;
      }

  module _ (mid : FilesOn S) (files : AnswersFor (HonestAt store.is_honest mid.stores) old.files mid.files) (loads : mid.loads ≡ old.loads) (count : length mid.stores ≡ length old.stores)
      (keeps : KeepsStores store old.stores mid.stores) where
    -- where the device fails as the bytes are read
    pub patched_unread : FailedAt store.failures p.file old.stores mid.stores → PatchesAt store zone old p call (Err IoErr) mid
    patched_unread failed =
        let state : ResState = state_of store.fork zone old in
        let honest : ℕ → Type 0 = HonestAt store.is_honest mid.stores in
        record {
          device = FailsBefore;
          before = state;
          after = state;
          was = itself honest state;
          becomes = answered_back honest state (state_of store.fork zone mid) (only_read store zone old mid files loads count keeps);
          updates = subst (λ (o : Option Update). UpdatesBy (answered_disks honest store.may_leave) FailsBefore o state (record { outcome = Err IoErr; state = state })) (sym is_patch) (either (fits_fork patch.table));
          cause = failed;
        }
      where
        either : (b : Bool) → (let state : ResState = state_of store.fork zone old in WritesBy (answered_disks (HonestAt store.is_honest mid.stores) store.may_leave) b FailsBefore patch state (record { outcome = Err IoErr; state = state }))
        either true = (tt, refl)
        either false = refl

    -- and where others are made of them, and written
    module _ (new : FilesOn S) (bytes : List ℕ) (honest : WereHonest store.is_honest mid.stores new.stores) (none : NoneFailed store.failures old.stores mid.stores)
        (made : MakesOf (HonestAt store.is_honest mid.stores p.file) call (data_at p old.files) bytes) where
      then_found : Found p h mid.files
      then_found = found p h mid.files (same_handle (HonestAt store.is_honest mid.stores) p h old.files mid.files files (subst (λ (o : Option FileRow). IsSomeAnd o (λ r. r.handle ≡ Some h)) (sym f.there) f.handle))

      -- the bytes that the row had, where the device is honest
      own_then : HonestAt store.is_honest mid.stores p.file → then_found.row.resource.datum ≡ data_at p old.files
      own_then is =
          let g = then_found in
          let tables : g.table ≡ f.table = (let one : Some g.table ≡ Some f.table = sym g.is ∙ own_table (HonestAt store.is_honest mid.stores) p.file old.files mid.files files is ∙ f.is in cc one) in
          let rows : g.row ≡ f.row = (let one : Some g.row ≡ Some f.row = sym g.here ∙ ap (λ (t : FileTable). slice_get t.rows p.index) tables ∙ f.here in cc one) in
          ap (λ (r : FileRow). r.resource.datum) rows ∙ sym (own_data p h old.files f)

      -- the files as the device answered
      abbrev answered : Files
      answered = row_changed p (with_datum made.read) mid.files

      answers : AnswersFor (HonestAt store.is_honest new.stores) mid.files answered
      answers known are = known-datum known p made.read mid.files then_found.row then_found.there
          (known-same (known p.file) made.read then_found.row.resource.datum (made.long ∙ sym size) (λ is. let here = honest p.file (are p.file is) in made.same here ∙ sym (own_then here)))
        where
          size : length then_found.row.resource.datum ≡ length (data_at p old.files)
          size = sym (ap length (own_data p h mid.files then_found)) ∙ same_size (HonestAt store.is_honest mid.stores) p old.files mid.files files

      -- the update by these bytes
      abbrev made_patch : Update
      made_patch = record { file = p.file; table = with_changed_rows (changed_at p.index (with_datum bytes)) then_found.table }

      is_made : update_with bytes p mid.files ≡ Some made_patch
      is_made = update_is p.file (with_changed_rows (changed_at p.index (with_datum bytes))) mid.files then_found.table then_found.is

      made_as : patch_update call answered p ≡ Some made_patch
      made_as = as_read call p h mid.files then_found made.read ∙ ap (λ (b : List ℕ). update_with b p mid.files) (sym made.made) ∙ is_made

      pub patched_written : (outcome : Outcome) → ((u : Update) → update_with bytes p mid.files ≡ Some u → WritesFile store zone mid (Writing (UpdateResFile None)) u outcome zone new) → PatchesAt store zone old p call outcome new
      patched_written outcome writes =
          written_so store zone old mid new answered p call made_patch outcome
          (fewer_answered (HonestAt store.is_honest mid.stores) (HonestAt store.is_honest new.stores) (state_of store.fork zone old) (state_of store.fork zone mid) honest (only_read store zone old mid files loads count keeps))
          answers made_as refl
          (λ device. each_cause device _ _ _ _ (λ later. later ∙ none) (failed_then store.failures p.file old.stores mid.stores new.stores none count))
          (writes made_patch is_made)

      -- where the device is honest, this is the update that the call makes
      same_update : HonestAt store.is_honest new.stores p.file → patch_update call old.files p ≡ update_with bytes p mid.files
      same_update is =
          let here = honest p.file is in
          let own : made.read ≡ f.row.resource.datum = made.same here ∙ own_data p h old.files f in
          as_own call p h old.files f made.read own ∙ ap (λ (b : List ℕ). update_with b p old.files) (sym made.made)
          ∙ ap (option_map (λ (t : FileTable). let v : Update = record { file = p.file; table = with_changed_rows (changed_at p.index (with_datum bytes)) t } in v))
          (sym (own_table (HonestAt store.is_honest mid.stores) p.file old.files mid.files files here))

      pub patched_saved : {E : Type 0} (result : Result Outcome E) → SavesFork store p.file (update_with bytes p mid.files) mid.stores zone new result → SavesFork store p.file (patch_update call old.files p) old.stores zone new result
      patched_saved result saves = record {
        works = record {
          honest = λ k is. (keeps k (honest k is)).honest;
          any_moment = λ number low is. by_number number is (saves.works.any_moment number low is);
          settled = saves.works.settled;
        };
        saved = if_ok _ _ result (λ outcome. on_ok_weaker outcome saved_as) saves.saved;
      }
        where
          file_is : (number : ℕ) (fork : List ℕ) → IsSomeAnd (update_with bytes p mid.files) (λ u. (u.file ≡ number) × (fork ≡ written (saved_table u.table))) → p.file ≡ number
          file_is number fork h = (subst (λ (o : Option Update). IsSomeAnd o (λ u. (u.file ≡ number) × (fork ≡ written (saved_table u.table)))) is_made h).0

          each : (number : ℕ) → HonestAt store.is_honest new.stores number → (fork : List ℕ) → MayBeFound store (update_with bytes p mid.files) old.stores number fork → MayBeFound store (patch_update call old.files p) old.stores number fork
          each number is fork (inl before) = inl before
          each number is fork (inr saved) =
              let here = subst (HonestAt store.is_honest new.stores) (sym (file_is number fork saved)) is in
              inr (subst (λ (o : Option Update). IsSomeAnd o (λ u. (u.file ≡ number) × (fork ≡ written (saved_table u.table)))) (sym (same_update here)) saved)

          by_number : (number : ℕ) → HonestAt store.is_honest new.stores number
              → AlwaysFinds store.may_find (MayBeFound store (update_with bytes p mid.files) mid.stores number) (history_of store.history number mid.stores) (history_of store.history number new.stores)
              → AlwaysFinds store.may_find (MayBeFound store (patch_update call old.files p) old.stores number) (history_of store.history number old.stores) (history_of store.history number new.stores)
          by_number number is finds =
              let calm = (keeps number (honest number is)).calm in
              weaker store.may_find _ _ _ _ (each number is)
              (subst (λ (past : List store.Event). AlwaysFinds store.may_find (λ found. store.may_find past found ⊎ IsSomeAnd (update_with bytes p mid.files) (λ u. (u.file ≡ number) × (found ≡ written (saved_table u.table)))) past (history_of store.history number new.stores)) calm finds)

          saved_as : IsSaved (HonestAt store.is_honest new.stores) (update_with bytes p mid.files) (state_of store.fork zone new) → IsSaved (HonestAt store.is_honest new.stores) (patch_update call old.files p) (state_of store.fork zone new)
          saved_as saved = subst (λ (o : Option Update). IsSaved (HonestAt store.is_honest new.stores) o (state_of store.fork zone new)) (sym is_patch)
              (λ is. (subst (λ (o : Option Update). IsSaved (HonestAt store.is_honest new.stores) o (state_of store.fork zone new)) (sym (same_update is) ∙ is_patch) saved) is)

-- what only was read is left as it was
pub patched_not : {S E : Type 0} (store : Ghosts S) (zone : ZoneState) (k : ℕ) (update : Option Update) (old new : FilesOn S) (result : Result Outcome E) → KeepsStores store old.stores new.stores
    → IfOk result (λ outcome. OnOk outcome ⊥) → SavesFork store k update old.stores zone new result
patched_not store zone k update old new result keeps none = record {
  works = record {
    honest = λ j is. (keeps j is).honest;
    any_moment = calm_leaves store old.stores new.stores update (λ j is. (keeps j is).calm);
    settled = if_ok _ _ result (λ outcome. on_ok_weaker outcome (λ never. absurd never)) none;
  };
  saved = if_ok _ _ result (λ outcome. on_ok_weaker outcome (λ never. absurd never)) none;
}

-- an error gives nothing
pub err_never : {T E : Type 0} (P : T → Type 0) (result : Result T E) → IsErr result → IfOk result P
err_never P (Ok x) is = absurd (cc is)
err_never P (Err e) is = tt
