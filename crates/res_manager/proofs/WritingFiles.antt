-- How writing a file ends.
use Rattle.std.proofs.Common.{◌≡◌, ℕ, zero, suc, ◌-◌, ◌≤◌, Bool, true, false, List, [], ◌∷◌, length, map, set, slice_get, unwrap_or, IfSome, Option, Some, None, Ok, Err, option_map, refl, ap, sym, subst, ◌∙◌}
use Rattle.std.specs.Option.{option_map_or}
use Rattle.std.proofs.lemmas.List.{length-map, length-set}
use Rattle.res_files.proofs.Stores.{fork_or}
use Rattle.std.specs.Prelude.{IsFalse, MatchBool}
use Rattle.fork_bytes.specs.Written.{written}
use Rattle.mac_base.specs.ZoneState.{ZoneState}
use Rattle.mac_base.specs.declared.error.OsErr.TheVariants.{DskFulErr, IoErr}
use Rattle.fork_disk.specs.declared.store.ReplaceFault.{ReplaceFault}
use Rattle.fork_disk.specs.declared.store.ReplaceFault.TheVariants.{BeforeFirstWrite, Later}
use Rattle.mac_base.specs.declared.resource_call.ResourceCall.{ResourceCall}
use Rattle.mac_base.specs.declared.resource_call.ResourceCall.TheVariants.{Writing}
use Rattle.mac_base.specs.declared.resource_call.WritingCall.TheVariants.{UpdateResFile}
use Rattle.mac_base.specs.declared.reply.Results.TheVariants.{Nothing}
use Rattle.mac_base.specs.Outcomes.{Outcome}
use Rattle.res_update.specs.Changes.{FileTable, Files, saved_table}
use Rattle.fork_disk.specs.declared.store.ForkStore.{Ghosts}
use Rattle.res_update.specs.Answered.{AnswersFor, IsAnswered, known_files}
use Rattle.res_update.specs.Device.{Device, Disk}
use Rattle.res_update.specs.Device as device
use Rattle.res_update.specs.Files.{ResState, with_disk, with_files}
use Rattle.res_update.specs.Updates.{Update, after_update, fits_fork, update_end, update_of}
use Rattle.res_files.specs.FilesOn.{FailedAt, FilesOn, HonestAt, NoneFailed, fork_of}
use Rattle.res_table.specs.OpenFiles.{file_closed, rows_changed, table_of}
use Rattle.res_manager.specs.Ends.{IsUnwritten, Writes, WritesFile}
use Rattle.res_manager.specs.Steps.{state_of}
use Rattle.res_manager.proofs.OpenedFiles.{disk-fork}
use Rattle.res_manager.proofs.Known.{answered-parts, answers-back}
use Rattle.res_manager.proofs.Keeping.{one_kept}
use Rattle.res_files.specs.Crash.{OthersStay}
use Rattle.res_manager.proofs.States.{same_end}

-- the update of a file is that of the table that it has
pub record UpdateOf (k : ℕ) (change : FileTable → FileTable) (files : Files) (u : Update) : Type 0 where
  pub table : FileTable
  pub there : table_of k files ≡ Some table
  pub is : record { file = k; table = change table } ≡ u

pub update_found : (k : ℕ) (change : FileTable → FileTable) (files : Files) (u : Update) → update_of k change files ≡ Some u → UpdateOf k change files u
update_found k change files u is = by_case (table_of k files) refl is
  where
    by_case : (o : Option FileTable) → table_of k files ≡ o → option_map (λ (table : FileTable). let v : Update = record { file = k; table = change table } in v) o ≡ Some u → UpdateOf k change files u
    by_case (Some table) there same = record { table = table; there = there; is = cc same }
    by_case None there same = absurd (cc same)

pub true_unless : (b : Bool) → (IsFalse b → ⊥) → b ≡ true
true_unless true h = refl
true_unless false h = absurd (h refl)

fits : (A B : Type 0) (b : Bool) → b ≡ true → A → MatchBool b A B
fits A B true is h = h
fits A B false is h = absurd (cc is)

unfit : (A B : Type 0) (b : Bool) → b ≡ false → B → MatchBool b A B
unfit A B false is h = h
unfit A B true is h = absurd (cc is)

-- the forks of stores, with another one of the file of a number
abbrev forks_with : {S : Type 0} → (S → List ℕ) → ℕ → List ℕ → List S → List (List ℕ)
forks_with fork number new stores = set (map fork stores) (number - 1) new

-- where one of the forks is another, and the other stores are the same
one_set : {S : Type 0} (fork : S → List ℕ) (on after : List S) (i at : ℕ) (disk : Disk) → length after ≡ length on → (at ≡ i → option_map_or fork (slice_get after at) [] ≡ disk)
    → ((at ≡ i → ⊥) → slice_get after at ≡ slice_get on at) → unwrap_or (slice_get (set (map fork on) i disk) at) [] ≡ option_map_or fork (slice_get after at) []
one_set fork [] [] i at disk count here other = refl
one_set fork [] (s ∷ after) i at disk count here other = absurd (cc count)
one_set fork (s ∷ on) [] i at disk count here other = absurd (cc count)
one_set fork (s ∷ on) (t ∷ after) zero zero disk count here other = sym (here refl)
one_set {S} fork (s ∷ on) (t ∷ after) zero (suc at) disk count here other =
    fork_or fork on at ∙ ap (λ (o : Option S). option_map_or fork o []) (sym (other (λ same. absurd (cc same))))
one_set {S} fork (s ∷ on) (t ∷ after) (suc i) zero disk count here other = ap (λ (o : Option S). option_map_or fork o []) (sym (other (λ same. absurd (cc same))))
one_set fork (s ∷ on) (t ∷ after) (suc i) (suc at) disk count here other = one_set fork on after i at disk (cc count) (λ same. here (ap suc same)) (λ apart. other (λ same. apart (cc same)))

module _ {S : Type 0} (store : Ghosts S) (zone : ZoneState) (on after : FilesOn S) (u : Update) (loads : after.loads ≡ on.loads) (count : length after.stores ≡ length on.stores) (others : OthersStay u.file on.stores after.stores) where
  abbrev state : ResState
  state = state_of store.fork zone on

  -- a state with these files and disks is as the devices answered
  leaves_state : (files : Files) (disks : List Disk) → AnswersFor (HonestAt store.is_honest after.stores) files after.files → length disks ≡ length (map store.fork on.stores) → ((n : ℕ) → 1 ≤ n → HonestAt store.is_honest after.stores n → unwrap_or (slice_get disks (n - 1)) [] ≡ fork_of store.fork n after.stores)
      → IsAnswered (HonestAt store.is_honest after.stores) (state_of store.fork zone after) (record state { files = files; disks = disks })
  leaves_state files disks answers long forks =
      answered-parts (HonestAt store.is_honest after.stores) (state_of store.fork zone after) (record state { files = files; disks = disks }) refl refl (answers-back (HonestAt store.is_honest after.stores) files after.files answers) (sym loads)
      (long ∙ length-map on.stores store.fork ∙ sym count ∙ sym (length-map after.stores store.fork)) (λ n low honest. forks n low honest ∙ sym (disk-fork store.fork zone after n))

  -- the disks, where this file has another one
  one_disk : (disk : Disk) → (HonestAt store.is_honest after.stores u.file → fork_of store.fork u.file after.stores ≡ disk)
      → (n : ℕ) → 1 ≤ n → HonestAt store.is_honest after.stores n → unwrap_or (slice_get (forks_with store.fork u.file disk on.stores) (n - 1)) [] ≡ fork_of store.fork n after.stores
  one_disk disk is n low honest = one_set store.fork on.stores after.stores (u.file - 1) (n - 1) disk count
      (λ same. subst (λ (i : ℕ). option_map_or store.fork (slice_get after.stores i) [] ≡ disk) (sym same) (is (subst (λ (i : ℕ). IfSome (slice_get after.stores i) store.is_honest) same honest)))
      (λ apart. others n low (λ same. apart (ap (λ (k : ℕ). k - 1) same)))

  -- or none has
  no_disk : (HonestAt store.is_honest after.stores u.file → fork_of store.fork u.file after.stores ≡ fork_of store.fork u.file on.stores)
      → (n : ℕ) → 1 ≤ n → HonestAt store.is_honest after.stores n → unwrap_or (slice_get (map store.fork on.stores) (n - 1)) [] ≡ fork_of store.fork n after.stores
  no_disk same n low honest = fork_or store.fork on.stores (n - 1)
      ∙ sym (one_kept u.file on.stores after.stores others (λ was now. IfSome now store.is_honest → option_map_or store.fork now [] ≡ option_map_or store.fork was []) (λ o h. refl) same n honest)

  -- the file is written
  pub writes_all : fits_fork u.table ≡ true → AnswersFor (HonestAt store.is_honest after.stores) (rows_changed u.file (λ rows. u.table.rows) on.files) after.files
      → (HonestAt store.is_honest after.stores u.file → fork_of store.fork u.file after.stores ≡ written (saved_table u.table)) → NoneFailed store.failures on.stores after.stores
      → WritesFile store zone on (Writing (UpdateResFile None)) u (Ok Nothing) zone after
  writes_all room files forks works =
      let disk = written (saved_table u.table) in
      fits _ _ (fits_fork u.table) room (record {
        device = device.Works;
        after = with_disk u.file disk (with_files (rows_changed u.file (λ rows. u.table.rows) on.files) state);
        becomes = leaves_state (rows_changed u.file (λ rows. u.table.rows) on.files) (forks_with store.fork u.file disk on.stores) files (length-set (map store.fork on.stores) (u.file - 1) disk) (one_disk disk forks);
        leaves = tt;
        ends = refl;
        cause = works;
      })

  -- the device fails before
  pub writes_none : fits_fork u.table ≡ true → AnswersFor (HonestAt store.is_honest after.stores) on.files after.files → (HonestAt store.is_honest after.stores u.file → fork_of store.fork u.file after.stores ≡ fork_of store.fork u.file on.stores)
      → FailedAt store.failures u.file on.stores after.stores → WritesFile store zone on (Writing (UpdateResFile None)) u (Err IoErr) zone after
  writes_none room files forks failed =
      fits _ _ (fits_fork u.table) room (record {
        device = device.FailsBefore;
        after = state;
        becomes = leaves_state on.files (map store.fork on.stores) files refl (no_disk forks);
        leaves = tt;
        ends = refl;
        cause = failed;
      })

  -- or no fork holds what is to be written
  pub writes_nothing : fits_fork u.table ≡ false → after ≡ on → WritesFile store zone on (Writing (UpdateResFile None)) u (Err DskFulErr) zone after
  writes_nothing none same =
      let P : FilesOn S → Type 0 = λ f. WritesFile store zone on (Writing (UpdateResFile None)) u (Err DskFulErr) zone f in
      subst P (sym same) (unfit _ _ (fits_fork u.table) none (record { ends = refl; works = refl }))

  -- or later
  pub writes_part : fits_fork u.table ≡ true → after.files ≡ file_closed u.file on.files
      → (HonestAt store.is_honest after.stores u.file → store.may_leave (written (saved_table u.table)) (fork_of store.fork u.file on.stores) (fork_of store.fork u.file after.stores))
      → FailedAt store.failures u.file on.stores after.stores → WritesFile store zone on (Writing (UpdateResFile None)) u (Err IoErr) zone after
  writes_part room files leaves failed =
      let left : Disk = fork_of store.fork u.file after.stores in
      fits _ _ (fits_fork u.table) room (record {
        device = device.FailsWriting left;
        after = with_disk u.file left (with_files (file_closed u.file on.files) state);
        becomes = leaves_state (file_closed u.file on.files) (forks_with store.fork u.file left on.stores) (λ known are. ap (known_files known) files) (length-set (map store.fork on.stores) (u.file - 1) left)
            (one_disk left (λ honest. refl));
        leaves = λ honest. subst (λ (d : Disk). store.may_leave (written (saved_table u.table)) d left) (sym (disk-fork store.fork zone on u.file)) (leaves honest);
        ends = refl;
        cause = failed;
      })

  -- the device fails, before or later
  pub writes_faulted : (fault : ReplaceFault) → fits_fork u.table ≡ true
      → (fault ≡ BeforeFirstWrite → AnswersFor (HonestAt store.is_honest after.stores) on.files after.files)
      → (HonestAt store.is_honest after.stores u.file → fault ≡ BeforeFirstWrite → fork_of store.fork u.file after.stores ≡ fork_of store.fork u.file on.stores)
      → (fault ≡ Later → after.files ≡ file_closed u.file on.files)
      → (HonestAt store.is_honest after.stores u.file → fault ≡ Later → store.may_leave (written (saved_table u.table)) (fork_of store.fork u.file on.stores) (fork_of store.fork u.file after.stores))
      → (fault ≡ BeforeFirstWrite → FailedAt store.failures u.file on.stores after.stores) → (fault ≡ Later → FailedAt store.failures u.file on.stores after.stores) → WritesFile store zone on (Writing (UpdateResFile None)) u (Err IoErr) zone after
  writes_faulted BeforeFirstWrite room before forks closed later cause cause_later = writes_none room (before refl) (λ honest. forks honest refl) (cause refl)
  writes_faulted Later room before forks closed later cause cause_later = writes_part room (closed refl) (λ honest. later honest refl) (cause_later refl)

-- calls that do the same after an update end alike
pub writes_as : {S : Type 0} (store : Ghosts S) (zone new : ZoneState) (on after : FilesOn S) (u : Update) (d c : ResourceCall) (outcome : Outcome) → ((k : ℕ) (state : ResState) → after_update c k state ≡ after_update d k state)
    → WritesFile store zone on d u outcome new after → WritesFile store zone on c u outcome new after
writes_as store zone new on after u d c outcome same all = by_case (fits_fork u.table) all
  where
    same_update_end : (dev : Device) → update_end dev c u (state_of store.fork zone on) ≡ update_end dev d u (state_of store.fork zone on)
    same_update_end device.Works = same_end (Ok Nothing) _ _ (same u.file (with_disk u.file (written (saved_table u.table)) (with_files (rows_changed u.file (λ rows. u.table.rows) on.files) (state_of store.fork zone on))))
    same_update_end device.FailsBefore = refl
    same_update_end (device.FailsWriting left) = refl

    by_case : (b : Bool) → MatchBool b (Writes store zone on d u outcome new after) (IsUnwritten store zone on outcome new after) → MatchBool b (Writes store zone on c u outcome new after) (IsUnwritten store zone on outcome new after)
    by_case true w = record { device = w.device; after = w.after; becomes = w.becomes; leaves = w.leaves; ends = same_update_end w.device ∙ w.ends; cause = w.cause }
    by_case false ends = ends
