-- How it ends where a call's bytes are written in place of those that a device answered.
use Rattle.std.proofs.Common.{◌≡◌, ◌∙◌, ℕ, ◌<◌, ◌≤◌, ◌+◌, zero, suc, Bool, true, false, List, [], ◌∷◌, ◌++◌, length, map, set, slice_get, Option, Some, None, Err, refl, sym, ap, subst, arith, option_map, find, ⊎_elim}
use Rattle.std.specs.Prelude.{IsSomeAnd, MatchBool, nat_le, ◌&&◌}
use Rattle.std.specs.Option.{option_map_or}
use Rattle.std.proofs.lemmas.Bool.Decides.{leb_tells}
use Rattle.std.proofs.lemmas.List.{length-append, length-replicate}
use Rattle.fork_bytes.specs.Fork.{max_fork}
use Rattle.fork_bytes.specs.Written.{data_text, front_text, map_text, written}
use Rattle.fork_bytes.proofs.Steps.{length-data}
use Rattle.fork_disk.specs.declared.store.ForkStore.{Ghosts}
use Rattle.mac_base.specs.ZoneState.{ZoneState}
use Rattle.mac_base.specs.declared.error.OsErr.TheVariants.{DskFulErr}
use Rattle.mac_base.specs.Outcomes.{Outcome}
use Rattle.mac_base.specs.declared.resource_call.ResourceCall.TheVariants.{Writing}
use Rattle.mac_base.specs.declared.resource_call.WritingCall.TheVariants.{UpdateResFile}
use Rattle.res_table.specs.declared.chain.OpenFile.{OpenFile}
use Rattle.res_table.specs.declared.chain.RowPlace.{RowPlace}
use Rattle.res_table.specs.OpenFiles.{file_closed, is_numbered, row_at, rows_changed, table_in, table_of, with_rows}
use Rattle.res_table.specs.Rows.{changed_at, with_datum}
use Rattle.res_table.specs.Saved.{saved_row, saved_rows}
use Rattle.res_update.specs.declared.patching_call.PatchingCall.{PatchingCall}
use Rattle.res_update.specs.Answered.{AnswersFor, IsAnswered, answered_disks, known_bytes, known_disks, known_files, known_row, known_state, known_table}
use Rattle.res_update.specs.Changes.{FileRow, FileTable, Files, row_changed, saved_table, with_changed_rows}
use Rattle.res_update.specs.Device.{Device, Works, FailsBefore, FailsWriting, Disk, device_works}
use Rattle.res_update.specs.Files.{ResState, ResourceEnd, with_files}
use Rattle.res_update.specs.Fitting.{rows_fit}
use Rattle.res_update.specs.Partial.{data_at}
use Rattle.res_update.specs.Patching.{UpdatesBy, WritesBy, patch_update, patched_bytes, patched_row}
use Rattle.res_update.specs.Updates.{Update, fits_fork, update_end, update_of}
use Rattle.res_files.specs.FilesOn.{FailedAt, FilesOn, HonestAt, NoneFailed}
use Rattle.res_files.proofs.Mapped.{closed-mapped, rows_changed-mapped, row-mapped, table-mapped}
use Rattle.res_files.proofs.PlacedRows.{changed_twice, table_changed}
use Rattle.res_update.proofs.Answering.{all_rows, none, none_honest, only, only_honest, only_is}
use Rattle.res_manager.specs.Ends.{IsUnwritten, Writes, WritesFile}
use Rattle.res_manager.specs.Patching.{HasHandle, PatchesAt, update_with}
use Rattle.res_manager.specs.Steps.{state_of}
use Rattle.res_manager.proofs.Changing.{row_same}
use Rattle.res_manager.proofs.PatchedFiles.{Found}

-- the bytes of a resource as they are
abbrev itself : List ℕ → List ℕ
itself bytes = bytes

-- the data of rows are at least as long as those of one of them
data_among : (at : ℕ) (rows : List FileRow) (r : FileRow) → slice_get rows at ≡ Some r → length r.resource.datum ≤ length (data_text (saved_rows itself rows))
data_among at [] r is = absurd (cc is)
data_among zero (x ∷ rows) r is =
    let one : x ≡ r = cc is in
    let whole = length-data (saved_row itself x) (saved_rows itself rows) in
    let same : length x.resource.datum ≡ length r.resource.datum = ap (λ (y : FileRow). length y.resource.datum) one in omega (arith, whole, same)
data_among (suc at) (x ∷ rows) r is =
    let whole = length-data (saved_row itself x) (saved_rows itself rows) in
    let fewer = data_among at rows r is in omega (arith, whole, fewer)

-- so is the fork
fork_longer : (table : FileTable) → length (data_text (saved_table table).rows) ≤ length (written (saved_table table))
fork_longer table =
    let saved = saved_table table in
    let whole : length (written saved) ≡ length (front_text saved) + length (data_text saved.rows ++ map_text saved) = length-append (front_text saved) (data_text saved.rows ++ map_text saved) in
    let rest = length-append (data_text saved.rows) (map_text saved) in omega (arith, whole, rest)

-- no fork holds a table of which one row is longer than the longest fork
too_long : (table : FileTable) (at : ℕ) (r : FileRow) → slice_get table.rows at ≡ Some r → max_fork < length r.resource.datum → fits_fork table ≡ false
too_long table at r is more =
    let few = data_among at table.rows r is in
    let fork = fork_longer table in
    let not : nat_le (length (written (saved_table table))) max_fork ≡ false = ⊎_elim (λ low. absurd (omega (arith, more, few, fork, low.1))) (λ high. high.0) (leb_tells (length (written (saved_table table))) max_fork) in
    ap (λ (b : Bool). rows_fit (saved_table table).rows && b) not ∙ never (rows_fit (saved_table table).rows)
  where
    never : (b : Bool) → (b && false) ≡ false
    never true = refl
    never false = refl

-- the table of a place once its row is changed
changed_table : (p : RowPlace) (change : FileRow → FileRow) (files : Files) (table : FileTable) → table_of p.file files ≡ Some table
    → table_of p.file (row_changed p change files) ≡ Some (with_changed_rows (changed_at p.index change) table)
changed_table p change files table is = ap (option_map table_in) (table_changed p.file (changed_at p.index change) files.files) ∙ by (find (is_numbered p.file) files.files) is
  where
    by : (o : Option (OpenFile (List ℕ))) → option_map table_in o ≡ Some table → option_map table_in (option_map (with_rows (changed_at p.index change)) o) ≡ Some (with_changed_rows (changed_at p.index change) table)
    by (Some f) is = let one : f.table ≡ table = cc is in ap (λ (t : FileTable). Some (with_changed_rows (changed_at p.index change) t)) one
    by None is = absurd (cc is)

-- the update of a file whose table is this
pub update_is : (k : ℕ) (change : FileTable → FileTable) (files : Files) (table : FileTable) → table_of k files ≡ Some table → update_of k change files ≡ Some (record { file = k; table = change table })
update_is k change files table is = ap (option_map (λ (t : FileTable). let v : Update = record { file = k; table = change t } in v)) is

module _ (call : PatchingCall) (p : RowPlace) (h : ℕ) (files : Files) (f : Found p h files) (read : List ℕ) where
  -- the update by other bytes, where a device answered these for the row's own
  pub as_read : patch_update call (row_changed p (with_datum read) files) p ≡ update_with (patched_bytes call read) p files
  as_read =
      let table : FileTable = with_changed_rows (changed_at p.index (with_datum read)) f.table in
      update_is p.file (with_changed_rows (changed_at p.index (patched_row call))) (row_changed p (with_datum read) files) table (changed_table p (with_datum read) files f.table f.is)
      ∙ ap (λ (rows : List FileRow). let v : Update = record { file = p.file; table = record (f.table) { rows = rows } } in Some v)
      (changed_twice p.index (with_datum read) (patched_row call) (with_datum (patched_bytes call read)) f.table.rows f.row f.here refl)
      ∙ sym (update_is p.file (with_changed_rows (changed_at p.index (with_datum (patched_bytes call read)))) files f.table f.is)

  -- the same where these are its own
  pub as_own : read ≡ f.row.resource.datum → patch_update call files p ≡ update_with (patched_bytes call read) p files
  as_own own =
      update_is p.file (with_changed_rows (changed_at p.index (patched_row call))) files f.table f.is
      ∙ ap (λ (rows : List FileRow). let v : Update = record { file = p.file; table = record (f.table) { rows = rows } } in Some v)
      (row_same p.index (patched_row call) (with_datum (patched_bytes call read)) f.table.rows f.row f.here (ap (λ (b : List ℕ). with_datum (patched_bytes call b) f.row) (sym own)))
      ∙ sym (update_is p.file (with_changed_rows (changed_at p.index (with_datum (patched_bytes call read)))) files f.table f.is)

-- what was written at an index is there
get_set : {X : Type 0} (xs : List X) (i : ℕ) (x y : X) → slice_get xs i ≡ Some x → slice_get (set xs i y) i ≡ Some y
get_set [] i x y is = absurd (cc is)
get_set (z ∷ xs) zero x y is = refl
get_set (z ∷ xs) (suc i) x y is = get_set xs i x y is

get_changed : (at : ℕ) (change : FileRow → FileRow) (rows : List FileRow) (r : FileRow) → slice_get rows at ≡ Some r → slice_get (changed_at at change rows) at ≡ Some (change r)
get_changed at change rows r is =
    let P : Option FileRow → Type 0 = λ o. slice_get (option_map_or (λ x. set rows at (change x)) o rows) at ≡ Some (change r) in subst P (sym is) (get_set rows at r (change r) is)

-- where it makes more bytes than a fork has, no fork holds them
pub unfit : (call : PatchingCall) (p : RowPlace) (h : ℕ) (files : Files) (f : Found p h files) → max_fork < length (patched_bytes call f.row.resource.datum)
    → fits_fork (with_changed_rows (changed_at p.index (patched_row call)) f.table) ≡ false
unfit call p h files f more = too_long (with_changed_rows (changed_at p.index (patched_row call)) f.table) p.index (patched_row call f.row) (get_changed p.index (patched_row call) f.table.rows f.row f.here) more

-- a place whose row has a handle has these data
pub own_data : (p : RowPlace) (h : ℕ) (files : Files) (f : Found p h files) → data_at p files ≡ f.row.resource.datum
own_data p h files f = ap (λ (o : Option FileRow). option_map_or (λ (r : FileRow). r.resource.datum) o []) f.there

-- what the files answered of some devices they answered of fewer
pub fewer_answered : (honest fewer : ℕ → Type 0) (a b : ResState) → ((k : ℕ) → fewer k → honest k) → IsAnswered honest a b → IsAnswered fewer a b
fewer_answered honest fewer a b each is known are = is known (λ k own. each k (are k own))

-- the table of a file whose device is honest is the same
pub own_table : (honest : ℕ → Type 0) (k : ℕ) (a b : Files) → AnswersFor honest a b → honest k → table_of k b ≡ table_of k a
own_table honest k a b answers is = sym (all_known b) ∙ ap (table_of k) (answers (only k) (only_honest honest k is)) ∙ all_known a
  where
    whole : (o : Option FileTable) → option_map (known_table (only k k)) o ≡ o
    whole None = refl
    whole (Some table) = ap (λ (b : Bool). Some (known_table b table)) (only_is k)
        ∙ ap (λ (rows : List FileRow). let same : FileTable = record { rows = rows; extra = table.extra; map_attributes = table.map_attributes } in Some same) (all_rows table.rows)

    all_known : (files : Files) → table_of k (known_files (only k) files) ≡ table_of k files
    all_known files = table-mapped (λ j. known_bytes (only k j)) k files.files ∙ whole (table_of k files)

-- a row that is there by what the devices answered has the same handle
pub same_handle : (honest : ℕ → Type 0) (p : RowPlace) (h : ℕ) (a b : Files) → AnswersFor honest a b → HasHandle p h a → HasHandle p h b
same_handle honest p h a b answers has = by (row_at p b) (row_at p a) (sym (row-mapped (λ j. known_bytes (none j)) p b) ∙ ap (λ (f : Files). row_at p f) (answers none (none_honest honest)) ∙ row-mapped (λ j. known_bytes (none j)) p a) has
  where
    by : (x y : Option FileRow) → option_map (known_row false) x ≡ option_map (known_row false) y → IsSomeAnd y (λ r. r.handle ≡ Some h) → IsSomeAnd x (λ r. r.handle ≡ Some h)
    by (Some r) (Some s) same is = let one : known_row false r ≡ known_row false s = cc same in ap (λ (x : FileRow). x.handle) one ∙ is
    by (Some r) None same is = absurd is
    by None (Some s) same is = absurd (cc same)
    by None None same is = is

-- and as many bytes
pub same_size : (honest : ℕ → Type 0) (p : RowPlace) (a b : Files) → AnswersFor honest a b → length (data_at p b) ≡ length (data_at p a)
same_size honest p a b answers =
    sym (size (row_at p b)) ∙ ap (λ (o : Option FileRow). length (option_map_or (λ (r : FileRow). r.resource.datum) o []))
    (sym (row-mapped (λ j. known_bytes (none j)) p b) ∙ ap (λ (f : Files). row_at p f) (answers none (none_honest honest)) ∙ row-mapped (λ j. known_bytes (none j)) p a) ∙ size (row_at p a)
  where
    size : (o : Option FileRow) → length (option_map_or (λ (r : FileRow). r.resource.datum) (option_map (known_row false) o) []) ≡ length (option_map_or (λ (r : FileRow). r.resource.datum) o [])
    size None = refl
    size (Some r) = length-replicate (length r.resource.datum) 0

-- an update of the same file ends alike with the files as the devices answered
pub record EndsAlike (honest : ℕ → Type 0) (device : Device) (u : Update) (now : ResState) (outcome : Outcome) (after : ResState) : Type 0 where
  pub left : ResState
  pub ends : update_end device (Writing (UpdateResFile None)) u now ≡ record { outcome = outcome; state = left }
  pub becomes : IsAnswered honest after left

ends_so : (honest : ℕ → Type 0) (device : Device) (u : Update) (now then : ResState) (outcome : Outcome) (after : ResState)
    → (let a : ResourceEnd = update_end device (Writing (UpdateResFile None)) u now in let b : ResourceEnd = update_end device (Writing (UpdateResFile None)) u then in (a.outcome ≡ b.outcome) × IsAnswered honest b.state a.state)
    → update_end device (Writing (UpdateResFile None)) u then ≡ record { outcome = outcome; state = after } → EndsAlike honest device u now outcome after
ends_so honest device u now then outcome after alike is =
    let a : ResourceEnd = update_end device (Writing (UpdateResFile None)) u now in
    let same : a.outcome ≡ outcome = alike.0 ∙ ap (λ (e : ResourceEnd). e.outcome) is in
    record {
      left = a.state;
      ends = ap (λ (o : Outcome). let e : ResourceEnd = record { outcome = o; state = a.state } in e) same;
      becomes = subst (λ (s : ResState). IsAnswered honest s a.state) (ap (λ (e : ResourceEnd). e.state) is) alike.1;
    }

pub ends_alike : (honest : ℕ → Type 0) (device : Device) (u : Update) (then : ResState) (files : Files) (outcome : Outcome) (after : ResState) → AnswersFor honest then.files files
    → update_end device (Writing (UpdateResFile None)) u then ≡ record { outcome = outcome; state = after } → EndsAlike honest device u (with_files files then) outcome after
ends_alike honest device u then files outcome after answers is = ends_so honest device u (with_files files then) then outcome after (by device) is
  where
    with_known : (known : ℕ → Bool) (disks : List Disk) (x y : Files) → known_files known x ≡ known_files known y
        → (let a : ResState = record (with_files x then) { disks = disks } in let b : ResState = record (with_files y then) { disks = disks } in known_state known a ≡ known_state known b)
    with_known known disks x y same =
        ap (λ (f : Files). let s : ResState = record { shape = then.shape; heap = then.heap; files = f; loads = then.loads; disks = known_disks known disks } in s) same

    changed : (known : ℕ → Bool) → known_files known files ≡ known_files known then.files
        → known_files known (rows_changed u.file (λ _. u.table.rows) files) ≡ known_files known (rows_changed u.file (λ _. u.table.rows) then.files)
    changed known same =
        let rows : List FileRow → List FileRow = λ _. map (known_row (known u.file)) u.table.rows in
        sym (rows_changed-mapped (λ j. known_bytes (known j)) u.file rows (λ _. u.table.rows) (λ _. refl) files)
        ∙ ap (rows_changed u.file rows) same ∙ rows_changed-mapped (λ j. known_bytes (known j)) u.file rows (λ _. u.table.rows) (λ _. refl) then.files

    closed : (known : ℕ → Bool) → known_files known files ≡ known_files known then.files → known_files known (file_closed u.file files) ≡ known_files known (file_closed u.file then.files)
    closed known same = sym (closed-mapped (λ j. known_bytes (known j)) u.file files) ∙ ap (file_closed u.file) same ∙ closed-mapped (λ j. known_bytes (known j)) u.file then.files

    by : (d : Device) → (let a : ResourceEnd = update_end d (Writing (UpdateResFile None)) u (with_files files then) in let b : ResourceEnd = update_end d (Writing (UpdateResFile None)) u then in (a.outcome ≡ b.outcome) × IsAnswered honest b.state a.state)
    by Works = (refl, λ known are. with_known known _ _ _ (changed known (answers known are)))
    by FailsBefore = (refl, λ known are. with_known known _ _ _ (answers known are))
    by (FailsWriting left) = (refl, λ known are. with_known known _ _ _ (closed known (answers known are)))

-- what is written by what the devices answered is so written from the files as they answered
pub written_so : {S : Type 0} (store : Ghosts S) (zone : ZoneState) (old mid new : FilesOn S) (files : Files) (p : RowPlace) (call : PatchingCall) (u : Update) (outcome : Outcome)
    → IsAnswered (HonestAt store.is_honest new.stores) (state_of store.fork zone old) (state_of store.fork zone mid) → AnswersFor (HonestAt store.is_honest new.stores) mid.files files
    → patch_update call files p ≡ Some u → u.file ≡ p.file
    → ((device : Device) → MatchBool (device_works device) (NoneFailed store.failures mid.stores new.stores) (FailedAt store.failures u.file mid.stores new.stores) → MatchBool (device_works device) (NoneFailed store.failures old.stores new.stores) (FailedAt store.failures p.file old.stores new.stores))
    → WritesFile store zone mid (Writing (UpdateResFile None)) u outcome zone new → PatchesAt store zone old p call outcome new
written_so store zone old mid new files p call u outcome was answers is file causes written = by (fits_fork u.table) refl written
  where
    honest : ℕ → Type 0
    honest = HonestAt store.is_honest new.stores

    before : ResState
    before = with_files files (state_of store.fork zone mid)

    then_before : IsAnswered honest (state_of store.fork zone mid) before
    then_before known are =
        ap (λ (f : Files). let s : ResState = record { shape = zone.shape; heap = zone.heap; files = f; loads = mid.loads; disks = known_disks known (map store.fork mid.stores) } in s) (answers known are)

    was_before : IsAnswered honest (state_of store.fork zone old) before
    was_before known are = then_before known are ∙ was known are

    updates : (device : Device) (left : ResState) → WritesBy (answered_disks honest store.may_leave) (fits_fork u.table) device u before (record { outcome = outcome; state = left })
        → UpdatesBy (answered_disks honest store.may_leave) device (patch_update call files p) before (record { outcome = outcome; state = left })
    updates device left w = subst (λ (o : Option Update). UpdatesBy (answered_disks honest store.may_leave) device o before (record { outcome = outcome; state = left })) (sym is) w

    by : (b : Bool) → fits_fork u.table ≡ b → MatchBool b (Writes store zone mid (Writing (UpdateResFile None)) u outcome zone new) (IsUnwritten store zone mid outcome zone new) → PatchesAt store zone old p call outcome new
    by true fits w =
        let e = ends_alike honest w.device u (state_of store.fork zone mid) files outcome w.after answers w.ends in
        let by_fit : WritesBy (answered_disks honest store.may_leave) true w.device u before (record { outcome = outcome; state = e.left }) = (w.leaves, sym e.ends) in
        record {
          device = w.device;
          before = before;
          after = e.left;
          was = was_before;
          becomes = λ known are. e.becomes known are ∙ w.becomes known are;
          updates = updates w.device e.left (subst (λ (b : Bool). WritesBy (answered_disks honest store.may_leave) b w.device u before (record { outcome = outcome; state = e.left })) (sym fits) by_fit);
          cause = causes w.device w.cause;
        }
    by false fits w =
        let same : state_of store.fork zone mid ≡ state_of store.fork zone new = ap (λ (e : ResourceEnd). e.state) w.ends in
        let code : Err DskFulErr ≡ outcome = ap (λ (e : ResourceEnd). e.outcome) w.ends in
        let by_fit : WritesBy (answered_disks honest store.may_leave) false Works u before (record { outcome = outcome; state = before }) = same_outcome (sym code) in
        record {
          device = Works;
          before = before;
          after = before;
          was = was_before;
          becomes = subst (λ (s : ResState). IsAnswered honest s before) same then_before;
          updates = updates Works before (subst (λ (b : Bool). WritesBy (answered_disks honest store.may_leave) b Works u before (record { outcome = outcome; state = before })) (sym fits) by_fit);
          cause = causes Works w.works;
        }
      where
        same_outcome : {a b : Outcome} → a ≡ b → (let e : ResourceEnd = record { outcome = a; state = before } in e ≡ record { outcome = b; state = before })
        same_outcome is = ap (λ (o : Outcome). let e : ResourceEnd = record { outcome = o; state = before } in e) is
