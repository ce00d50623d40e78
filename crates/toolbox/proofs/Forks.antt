-- Over runs of calls each row of an open file has the bytes that its fork has.
use Rattle.std.proofs.Common.{◌≡◌, ◌<◌, ℕ, ◌-◌, ◌≤◌, Bool, true, false, List, [], ◌∷◌, ◌++◌, length, map, set, take, drop, suc, get_or, Option, Some, None, Ok, Err, Result, refl, sym, ap, subst, ◌∙◌, arith, cond, inl, inr}
use Rattle.std.specs.Prelude.{◌&&◌, All, IfSome, IsTrue, OnOk, bit_and, bit_or, find, nat_le, option_and_then, option_map, slice_get, if◌then◌else◌, ⊤}
use Rattle.std.specs.List.{list_any}
use Rattle.std.specs.Option.{option_map_or, option_or}
use Rattle.std.proofs.lemmas.Bool.{eq-eqb, eqb-true, eqb-false, leb-true, ne_eqb, or_parts}
use Rattle.std.proofs.lemmas.List.{get_or_default, get_or-map, get_or-set_other, length-map}
use Rattle.std.proofs.lemmas.List.Elements.{All-append, All-cons, All-drop, All-map, All-nil, All-set, All-take}
use Rattle.std.proofs.lemmas.Nat.{and_or_self}
use Rattle.std.proofs.lemmas.Option.{get_or_from_slice_get, slice_get_within, unwrap_or-slice_get}
use Rattle.mac_base.specs.declared.error.OsErr.{OsErr}
use Rattle.mac_base.specs.declared.error.OsErr.TheVariants.{FnfErr, IoErr}
use Rattle.mac_base.specs.declared.call.Call.{Call}
use Rattle.mac_base.specs.declared.call.Call.TheVariants.{Memory as MemoryCalls, Loan, Resource, MemError, ResError}
use Rattle.mac_base.specs.declared.memory_call.MemoryCall.{MemoryCall}
use Rattle.mac_base.specs.declared.resource_call.ResourceCall.{ResourceCall}
use Rattle.mac_base.specs.declared.resource_call.ResourceCall.TheVariants.{Getting, Changing, Writing, OpenResFile, AddResource}
use Rattle.mac_base.specs.declared.resource_call.ChangingCall.TheVariants.{ReleaseResource, DetachResource, RemoveResource, ChangedResource, SetResAttrs}
use Rattle.mac_base.specs.declared.resource_call.WritingCall.TheVariants.{WriteResource, UpdateResFile, CloseResFile}
use Rattle.mac_base.specs.GrowZone.{Ask}
use Rattle.mac_base.specs.Outcomes.{Outcome}
use Rattle.mac_base.specs.Released.{disposed_in, disposed_of}
use Rattle.mac_base.specs.Tests.{unless_passed}
use Rattle.fork_bytes.specs.Fork.{StandsFor}
use Rattle.fork_bytes.specs.Written.{written}
use Rattle.mac_base.specs.declared.resource.ResAttrs.{ResAttrs}
use Rattle.res_table.specs.Attributes.{is_marked, unmarked}
use Rattle.res_table.specs.After.{end_of_type}
use Rattle.res_table.specs.OpenFiles.{changed_file, file_closed, file_forgotten, handle_forgotten, is_current, is_numbered, is_open, last_number, no_files, place_of_handle, row_at, rows_changed, table_in, with_rows, without}
use Rattle.res_table.specs.Rows.{added, changed_at, forgetting, has_handle, is_changed, opened_row, removed_at, with_attributes, with_handle}
use Rattle.res_table.specs.Saved.{saved_row}
use Rattle.res_table.specs.declared.chain.OpenFile.{OpenFile}
use Rattle.res_table.specs.declared.chain.RowPlace.{RowPlace}
use Rattle.res_table.proofs.Adding.{insert-at-end}
use Rattle.res_update.specs.Attributes.{marked, replaced_attributes}
use Rattle.res_update.specs.Changes.{FileRow, FileTable, Files, handles_forgotten, row_changed, saved_table}
use Rattle.res_update.specs.Device.{Anything, Device, Disk, ReadsBy, Works as DeviceWorks, FailsBefore, FailsWriting, Reads, empty, fork}
use Rattle.res_update.specs.Files.{ResState, ResourceEnd, disk_of, file_named, refused_with, with_disk, with_files, with_heap}
use Rattle.res_update.specs.Loads.{found_end, handle_made, loaded, loaded_results, loads_bytes, placed_end, placing, read_fails, row_wanted, unloaded}
use Rattle.res_update.specs.Quiet.{attributes_changed, quiet_end, quiet_state}
use Rattle.res_update.specs.Steps.{Gets, GetsPlace, GetsRow, IsSaved, Memory, Opens, Quiet, ReadsBack, StepsUnless, Work, Works, after_memory, opened_end, update_in, updating, work_of}
use Rattle.res_update.specs.Tests.{resource_refusal}
use Rattle.res_update.specs.Updates.{Update, disposed, new_row, row_passes, update_end, update_of, updated_at, updated_table}
use Rattle.res_update.specs.Answered.{AreHonest, IsAnswered, WasAnswered, answered_disks, known_file, known_row}
use Rattle.res_update.proofs.Answering.{all_rows, answered_back, answered_before, disk_answered, gets_none, none, none_honest, only, only_honest, only_is}
use Rattle.toolbox.specs.Forks.{HasBytes, ReadOffForks}
use Rattle.toolbox.specs.Tools.{Called, IsToolRun, ToolDoes, Tools, tools_after}

-- ---- the rows of a file

module _ (P : FileRow → Type 0) where
  row-is : (rows : List FileRow) (i : ℕ) (r : FileRow) → slice_get rows i ≡ Some r → All P rows → P r
  row-is rows i r is all = subst P (get_or_from_slice_get rows i r r is) (all i r (slice_get_within rows i r is))

  row-changed : (i : ℕ) (change : FileRow → FileRow) → ((r : FileRow) → P r → P (change r)) → (rows : List FileRow)
      → All P rows → All P (changed_at i change rows)
  row-changed i change still rows all = by (slice_get rows i) refl
    where
      by : (o : Option FileRow) → slice_get rows i ≡ o → All P (option_map_or (λ r. set rows i (change r)) o rows)
      by None is = all
      by (Some r) is = All-set P rows i (change r) (still r (row-is rows i r is all)) all

  row-removed : (i : ℕ) (rows : List FileRow) → All P rows → All P (removed_at i rows)
  row-removed i rows all = All-append P (take i rows) (drop (suc i) rows) (All-take P i rows all) (All-drop P (suc i) rows all)

  row-added : (new : FileRow) → P new → (rows : List FileRow) → All P rows → All P (added new rows)
  row-added new is rows all =
      let i = end_of_type new.resource.kind rows in
      let following = All-cons P new (drop i rows) is (All-drop P i rows all) in
      subst (All P) (insert-at-end new rows) (All-append P (take i rows) (new ∷ drop i rows) (All-take P i rows all) following)

-- the rows have the bytes of a fork
abbrev HaveBytes : Disk → List FileRow → Type 0
HaveBytes disk rows = All (HasBytes disk) rows

-- those of a table that is saved there, and those that opening reads of it
saved-bytes : (disk : Disk) (table : FileTable) → StandsFor disk (saved_table table) → HaveBytes disk table.rows
saved-bytes disk table stands i d within =
    let save = saved_row (λ (bytes : List ℕ). bytes) in
    let q = save (get_or table.rows i d) in
    let there : i < length (map save table.rows) = omega (arith, within, length-map table.rows save) in
    inr (saved_table table, stands, (i, q, there, get_or-map save table.rows i d q within, (refl, refl, refl, refl)))

read-bytes : (disk : Disk) (table : FileTable) → Reads disk (Ok table) → HaveBytes disk table.rows
read-bytes disk table (empty none) = All-nil (HasBytes disk)
read-bytes disk table (fork read stands) = All-map (HasBytes disk) opened_row read.rows (λ i d within.
    let q = get_or read.rows i d in inr (read, stands, (i, q, within, get_or_default read.rows i q d within, (refl, refl, refl, refl))))

-- ---- the open files, of which this says whose devices are honest

module _ (honest : ℕ → Type 0) where
  abbrev File : Type 0
  File = OpenFile (List ℕ)

  -- Each file's number is one, and its rows have the bytes of its disk, where its device is honest.
  abbrev IsKept : ResState → File → Type 0
  IsKept state f = (1 ≤ f.number) × (honest f.number → HaveBytes (disk_of f.number state) f.table.rows)

  -- a file that has another number than this one, and is this
  abbrev IsApart : File → (File → Type 0) → File → Type 0
  IsApart f P g = (is_numbered f.number g ≡ false) × P g

  -- none of these files has the number
  abbrev HasNone : ℕ → List File → Type 0
  HasNone k fs = list_any (is_numbered k) fs ≡ false

  -- each of these files is this, and no two have one number
  abbrev AreKept : (File → Type 0) → List File → Type 0
  AreKept P [] = ⊤
  AreKept P (f ∷ fs) = P f × AreKept (IsApart f P) fs

  abbrev Kept : ResState → Type 0
  Kept state = AreKept (IsKept state) state.files.files

  all-kept : (P Q : File → Type 0) → ((f : File) → P f → Q f) → (fs : List File) → AreKept P fs → AreKept Q fs
  all-kept P Q more [] kept = tt
  all-kept P Q more (f ∷ fs) kept = (more f kept.0, all-kept (IsApart f P) (IsApart f Q) (λ g is. (is.0, more g is.1)) fs kept.1)

  module _ (k : ℕ) where
    -- a file that has another number than this one is that, if it is this
    abbrev Elsewhere : (File → Type 0) → (File → Type 0) → Type 0
    Elsewhere P Q = (f : File) → is_numbered k f ≡ false → P f → Q f

    abbrev apart : (P Q : File → Type 0) (f : File) → Elsewhere P Q → Elsewhere (IsApart f P) (IsApart f Q)
    apart P Q f there g differ is = (is.0, there g differ is.1)

    -- no file has the number
    others-kept : (P Q : File → Type 0) → Elsewhere P Q → (fs : List File) → HasNone k fs → AreKept P fs → AreKept Q fs
    others-kept P Q there [] none kept = tt
    others-kept P Q there (f ∷ fs) none kept =
        let both = or_parts (is_numbered k f) (list_any (is_numbered k) fs) none in
        (there f both.0 kept.0, others-kept (IsApart f P) (IsApart f Q) (apart P Q f there) fs both.1 kept.1)

    -- the files after the one that has it
    after-kept : (P Q : File → Type 0) → Elsewhere P Q → (f : File) → is_numbered k f ≡ true → (fs : List File)
        → AreKept (IsApart f P) fs → AreKept (IsApart f Q) fs
    after-kept P Q there f here fs kept =
        let differ = λ (g : File). subst (λ n. is_numbered n g ≡ false) (eqb-true f.number k here) in
        all-kept (IsApart f P) (IsApart f Q) (λ g is. (is.0, there g (differ g is.0) is.1)) fs kept

    -- its rows change
    changed-kept : (change : List FileRow → List FileRow) (P Q : File → Type 0) → Elsewhere P Q
        → ((f : File) → f.number ≡ k → P f → Q (with_rows change f))
        → (fs : List File) → AreKept P fs → AreKept Q (changed_file k change fs)
    changed-kept change P Q there here [] kept = tt
    changed-kept change P Q there here (f ∷ fs) kept =
        by (is_numbered k f) refl
        (changed-kept change (IsApart f P) (IsApart f Q) (apart P Q f there) (λ g number is. (is.0, here g number is.1)) fs kept.1)
      where
        by : (b : Bool) → is_numbered k f ≡ b → AreKept (IsApart f Q) (changed_file k change fs)
            → AreKept Q (if b then with_rows change f ∷ fs else f ∷ changed_file k change fs)
        by true is deeper = (here f (eqb-true f.number k is) kept.0, after-kept P Q there f is fs kept.1)
        by false is deeper = (there f is kept.0, deeper)

    -- it is closed
    without-kept : (P Q : File → Type 0) → Elsewhere P Q → (fs : List File) → AreKept P fs → AreKept Q (without k fs)
    without-kept P Q there [] kept = tt
    without-kept P Q there (f ∷ fs) kept =
        by (is_numbered k f) refl (without-kept (IsApart f P) (IsApart f Q) (apart P Q f there) fs kept.1)
      where
        by : (b : Bool) → is_numbered k f ≡ b → AreKept (IsApart f Q) (without k fs)
            → AreKept Q (if b then fs else f ∷ without k fs)
        by true is deeper = all-kept (IsApart f Q) Q (λ g is. is.1) fs (after-kept P Q there f is fs kept.1)
        by false is deeper = (there f is kept.0, deeper)

    closed-kept : (P Q : File → Type 0) → Elsewhere P Q → (files : Files) → AreKept P files.files
        → AreKept Q (file_closed k files).files
    closed-kept P Q there files kept = by (is_open k files) refl
      where
        by : (b : Bool) → is_open k files ≡ b → AreKept Q (cond b
            (record { files = without k files.files; current = if is_current k files then last_number (without k files.files) else files.current })
            files).files
        by true is = without-kept P Q there files.files kept
        by false is = others-kept P Q there files.files is kept

    -- a file that has it, if it is found
    found-kept : (P Q : File → Type 0) → ((f : File) → P f → Q f) → (fs : List File) → AreKept P fs
        → IfSome (find (is_numbered k) fs) (λ f. Q f × (f.number ≡ k))
    found-kept P Q more [] kept = tt
    found-kept P Q more (f ∷ fs) kept = by (is_numbered k f) refl (found-kept (IsApart f P) Q (λ g is. more g is.1) fs kept.1)
      where
        by : (b : Bool) → is_numbered k f ≡ b → IfSome (find (is_numbered k) fs) (λ f. Q f × (f.number ≡ k))
            → IfSome (cond b (Some f) (find (is_numbered k) fs)) (λ f. Q f × (f.number ≡ k))
        by true is deeper = (more f kept.0, eqb-true f.number k is)
        by false is deeper = deeper

  -- one more is opened
  opened-kept : (P : File → Type 0) (f : File) → P f → (fs : List File) → HasNone f.number fs → AreKept P fs
      → AreKept P (fs ++ f ∷ [])
  opened-kept P f is [] none kept = (is, tt)
  opened-kept P f is (g ∷ fs) none kept =
      let both = or_parts (is_numbered f.number g) (list_any (is_numbered f.number) fs) none in
      let differ = ne_eqb f.number g.number (λ same. eqb-false g.number f.number both.0 (sym same)) in
      (kept.0, opened-kept (IsApart g P) f (differ, is) fs both.1 kept.1)

  -- rows forget their handles
  map-kept : (h : ℕ) (P Q : File → Type 0) → ((f : File) → P f → Q (file_forgotten h f)) → (fs : List File) → AreKept P fs
      → AreKept Q (map (file_forgotten h) fs)
  map-kept h P Q here [] kept = tt
  map-kept h P Q here (f ∷ fs) kept = (here f kept.0, map-kept h (IsApart f P) (IsApart f Q) (λ g is. (is.0, here g is.1)) fs kept.1)

  -- ---- the files of a state

  -- so each row has its bytes
  kept-reads : (state : ResState) → Kept state → ReadOffForks honest state
  kept-reads state kept p r true_device =
      by (find (is_numbered p.file) state.files.files) (found-kept p.file (IsKept state) (IsKept state) (λ f is. is) state.files.files kept)
    where
      by : (o : Option File) → IfSome o (λ f. IsKept state f × (f.number ≡ p.file))
          → option_and_then (λ (table : FileTable). slice_get table.rows p.index) (option_map table_in o) ≡ Some r
          → HasBytes (disk_of p.file state) r
      by None found is = absurd (cc is)
      by (Some f) found is =
          subst (λ k. HasBytes (disk_of k state) r) found.1 (row-is (HasBytes (disk_of f.number state)) f.table.rows p.index r is (found.0.1 (subst honest (sym found.1) true_device)))

  module _ (state : ResState) where
    -- the files are kept beside these disks
    abbrev FilesKept : Files → Type 0
    FilesKept files = AreKept (IsKept state) files.files

    forgotten-kept : (hs : List ℕ) (files : Files) → FilesKept files → FilesKept (handles_forgotten hs files)
    forgotten-kept [] files kept = kept
    forgotten-kept (h ∷ hs) files kept =
        forgotten-kept hs (handle_forgotten h files) (map-kept h (IsKept state) (IsKept state) here files.files kept)
      where
        still : (disk : Disk) (r : FileRow) → HasBytes disk r → HasBytes disk (forgetting h r)
        still disk r is = elim (has_handle h r) as (λ b. HasBytes disk (if b then with_handle None r else r)) [ true ↦ is | false ↦ is ]

        here : (f : File) → IsKept state f → IsKept state (file_forgotten h f)
        here f is =
            let disk = disk_of f.number state in
            (is.0, λ true_device. All-map (HasBytes disk) (forgetting h) f.table.rows (λ i d within. still disk (get_or f.table.rows i d) (is.1 true_device i d within)))

    rows-kept : (k : ℕ) (change : List FileRow → List FileRow)
        → ((disk : Disk) (rows : List FileRow) → HaveBytes disk rows → HaveBytes disk (change rows))
        → (files : Files) → FilesKept files → FilesKept (rows_changed k change files)
    rows-kept k change still files kept =
        changed-kept k change (IsKept state) (IsKept state) (λ f differ is. is)
        (λ f number is. (is.0, λ true_device. still (disk_of f.number state) f.table.rows (is.1 true_device))) files.files kept

    row-kept : (p : RowPlace) (change : FileRow → FileRow) → ((disk : Disk) (r : FileRow) → HasBytes disk r → HasBytes disk (change r))
        → (files : Files) → FilesKept files → FilesKept (row_changed p change files)
    row-kept p change still files kept =
        rows-kept p.file (changed_at p.index change) (λ disk. row-changed (HasBytes disk) p.index change (still disk)) files kept

    handle-kept : (p : RowPlace) (h : ℕ) (files : Files) → FilesKept files → FilesKept (row_changed p (with_handle (Some h)) files)
    handle-kept p h files kept = row-kept p (with_handle (Some h)) (λ disk r is. is) files kept

    -- so it is where something changes, if there is that
    some-kept : {X : Type 0} (of : X → Files) (files : Files) → ((x : X) → FilesKept (of x)) → FilesKept files → (o : Option X)
        → FilesKept (option_map_or of o files)
    some-kept of files here kept None = kept
    some-kept of files here kept (Some x) = here x

    -- attributes change, and resChanged stays set
    attributes-kept : (change : ResAttrs → ResAttrs) → ((a : ResAttrs) → is_marked a ≡ true → is_marked (change a) ≡ true)
        → (h : ℕ) (files : Files) → FilesKept files → FilesKept (attributes_changed change h files)
    attributes-kept change keeps h files kept =
        let to : FileRow → FileRow = λ r. with_attributes (change r.resource.attributes) r in
        some-kept (λ p. row_changed p to files) files (λ p. row-kept p to still files kept) kept (place_of_handle h files)
      where
        still : (disk : Disk) (r : FileRow) → HasBytes disk r → HasBytes disk (with_attributes (change r.resource.attributes) r)
        still disk r (inl new) = inl (new.0, keeps r.resource.attributes new.1)
        still disk r (inr has) = inr has

    -- what opening reads
    opens-kept : (device : Device) (k : ℕ) → 1 ≤ k → is_open k state.files ≡ false → Kept state
        → (read : Result FileTable OsErr) → ReadsBy (answered_disks honest Anything k) device (disk_of k state) read → Kept (opened_end k state read).state
    opens-kept device k low closed kept (Ok table) reads =
        opened-kept (IsKept state) (record { number = k; table = table }) (low, rows device reads) state.files.files closed kept
      where
        rows : (device : Device) → ReadsBy (answered_disks honest Anything k) device (disk_of k state) (Ok table) → honest k → HaveBytes (disk_of k state) table.rows
        rows DeviceWorks reads true_device = read-bytes (disk_of k state) table (reads.1 true_device)
        rows FailsBefore reads true_device = absurd (cc reads)
        rows (FailsWriting left) reads true_device = absurd (cc reads)
    opens-kept device k low closed kept (Err code) reads = kept

  -- ---- updates

  module _ (old : ResState) (kept : Kept old) (u : Update) (low : 1 ≤ u.file) where
    -- the other files have their disks
    still-kept : (disk : Disk) (f : File) → is_numbered u.file f ≡ false → IsKept old f → IsKept (with_disk u.file disk old) f
    still-kept disk f differ is =
        let disks = set old.disks (u.file - 1) disk in
        let other = λ (same : f.number - 1 ≡ u.file - 1). eqb-false f.number u.file differ (omega (arith, same, is.0, low)) in
        let there = unwrap_or-slice_get disks (f.number - 1) [] ∙ get_or-set_other old.disks (u.file - 1) (f.number - 1) disk [] other in
        (is.0, λ true_device. subst (λ d. HaveBytes d f.table.rows) (sym (there ∙ sym (unwrap_or-slice_get old.disks (f.number - 1) []))) (is.1 true_device))

    -- the state once the table is written
    abbrev with_saved : ResState
    with_saved = with_disk u.file (written (saved_table u.table)) (with_files (rows_changed u.file (λ _. u.table.rows) old.files) old)

    saved-kept : (honest u.file → StandsFor (disk_of u.file with_saved) (saved_table u.table)) → Kept with_saved
    saved-kept stands =
        let here : (f : File) → f.number ≡ u.file → IsKept old f → IsKept with_saved (with_rows (λ _. u.table.rows) f) =
        λ f number is. (is.0, λ true_device. subst (λ k. HaveBytes (disk_of k with_saved) u.table.rows) (sym number) (saved-bytes (disk_of u.file with_saved) u.table (stands (subst honest number true_device)))) in
        let there = still-kept (written (saved_table u.table)) in
        changed-kept u.file (λ _. u.table.rows) (IsKept old) (IsKept with_saved) there here old.files.files kept

    update-kept : (device : Device) (rc : ResourceCall) → let e = update_end device rc u old in
        OnOk e.outcome (IsSaved honest (Some u) e.state) → Kept e.state
    update-kept DeviceWorks (Writing (CloseResFile named)) stands =
        closed-kept u.file (IsKept with_saved) (IsKept with_saved) (λ f differ is. is) with_saved.files (saved-kept stands)
    update-kept DeviceWorks rc stands = saved-kept stands
    update-kept FailsBefore rc stands = kept
    update-kept (FailsWriting left) rc stands =
        closed-kept u.file (IsKept old) (IsKept (with_disk u.file left old)) (still-kept left) old.files kept

  -- ---- calls, and runs of them

  marked-is : (a : ResAttrs) → is_marked (marked a) ≡ true
  marked-is a = eq-eqb (bit_and (bit_or a.0 2) 2) 2 (and_or_self 2 a.0)

  replaced-is : (n : ℕ) (a : ResAttrs) → is_marked a ≡ true → is_marked (replaced_attributes n a) ≡ true
  replaced-is n a is =
      let new : ResAttrs = record { 0 = n } in subst (λ b. is_marked (cond b (marked new) (unmarked new)) ≡ true) (sym is) (marked-is new)

  quiet-kept : (old : ResState) (rc : ResourceCall) → Kept old → Kept (quiet_state rc old)
  quiet-kept old (Changing (ReleaseResource h)) kept =
      let new = with_heap (disposed old.shape (h ∷ []) old.heap) (with_files (handle_forgotten h old.files) old) in
      let forgotten = forgotten-kept old (h ∷ []) old.files kept in
      elim (row_passes is_changed h old.files) as (λ b. Kept (cond b old new)) [ true ↦ kept | false ↦ forgotten ]
  quiet-kept old (Changing (DetachResource h)) kept = forgotten-kept old (h ∷ []) old.files kept
  quiet-kept old (Changing (RemoveResource h)) kept =
      let to = λ (p : RowPlace). removed_at p.index in
      let here = λ (p : RowPlace). rows-kept old p.file (to p) (λ disk. row-removed (HasBytes disk) p.index) old.files kept in
      some-kept old (λ (p : RowPlace). rows_changed p.file (to p) old.files) old.files here kept (place_of_handle h old.files)
  quiet-kept old (AddResource h kind id name) kept =
      let new = new_row h kind id name in
      let here = λ (k : ℕ). rows-kept old k (added new) (λ disk. row-added (HasBytes disk) new (inl (refl, refl))) old.files kept in
      some-kept old (λ k. rows_changed k (added new) old.files) old.files here kept old.files.current
  quiet-kept old (Changing (ChangedResource h)) kept = attributes-kept old marked (λ a is. marked-is a) h old.files kept
  quiet-kept old (Changing (SetResAttrs h n)) kept = attributes-kept old (replaced_attributes n) (replaced-is n) h old.files kept
  quiet-kept old rc kept = kept

  -- what holds of a success
  on-ok : {P Q : Type 0} (outcome : Outcome) → (P → Q) → OnOk outcome P → OnOk outcome Q
  on-ok (Ok results) more is = more is
  on-ok (Err code) more is = is

  module _ (device : Device) (old : ResState) (asks : List Ask) (end : ResourceEnd) (kept : Kept old)
      (last : ResState) (same-disk : (k : ℕ) → 1 ≤ k → honest k → disk_of k end.state ≡ disk_of k last) where
    -- what is left of a call that is not refused, by its work
    abbrev Keeps : ResourceCall → Work → Type 0
    Keeps rc w = Works Memory (answered_disks honest Anything) device old rc asks end w → OnOk end.outcome (IsSaved honest (update_in w) last) → Kept end.state

    -- the call ended so
    ended : (e : ResourceEnd) → end ≡ e → Kept e.state → Kept end.state
    ended e is kept = subst (λ (e : ResourceEnd). Kept e.state) (sym is) kept

    quiet : (rc : ResourceCall) → Keeps rc Quiet
    quiet rc works reads = ended (quiet_end rc old) works.1 (quiet-kept old rc kept)

    -- an update is of a file that is open, whose number is one
    update-keeps : (rc : ResourceCall) (k : ℕ) (change : FileTable → FileTable) → Keeps rc (updating (update_of k change old.files))
    update-keeps rc k change =
        by (find (is_numbered k) old.files.files) (found-kept k (IsKept old) (λ f. 1 ≤ f.number) (λ f is. is.0) old.files.files kept)
      where
        by : (o : Option File) → IfSome o (λ f. (1 ≤ f.number) × (f.number ≡ k))
            → Keeps rc (updating (option_map (λ (table : FileTable). record { file = k; table = change table }) (option_map table_in o)))
        by None found works reads = quiet rc works reads
        by (Some f) found works reads =
            let u : Update = record { file = k; table = change f.table } in
            let low = subst (λ n. 1 ≤ n) found.1 found.0 in
            let ends = update-kept old kept u low device rc in
            let stands : IsSaved honest (Some u) last → IsSaved honest (Some u) end.state = λ saved true_device. subst (λ d. StandsFor d (saved_table u.table)) (sym (same-disk k low true_device)) (saved true_device) in
            subst (λ (e : ResourceEnd). OnOk e.outcome (IsSaved honest (Some u) e.state) → Kept e.state) (sym works.2) ends (on-ok end.outcome stands reads)

    file-keeps : (rc : ResourceCall) (o : Option ℕ)
        → Keeps rc (updating (option_and_then (λ k. update_of k (updated_table old.heap.table) old.files) o))
    file-keeps rc None works reads = quiet rc works reads
    file-keeps rc (Some k) works reads = update-keeps rc k (updated_table old.heap.table) works reads

    row-keeps : (rc : ResourceCall) (b : Bool) (o : Option RowPlace)
        → Keeps rc (updating (cond b (option_map_or (λ (p : RowPlace). update_of p.file (updated_at old.heap.table p.index) old.files) o None) None))
    row-keeps rc true (Some p) works reads = update-keeps rc p.file (updated_at old.heap.table p.index) works reads
    row-keeps rc true None works reads = quiet rc works reads
    row-keeps rc false o works reads = quiet rc works reads

    opening-keeps : (rc : ResourceCall) (k : ℕ) (low b : Bool) → nat_le 1 k ≡ low → is_open k old.files ≡ b
        → option_or (unless_passed FnfErr (low && nat_le k (length old.disks))) None ≡ None → Keeps rc (cond b Quiet (Opens k))
    opening-keeps rc k false b low is none works reads = absurd (cc none)
    opening-keeps rc k true true low is none works reads = quiet rc works reads
    opening-keeps rc k true false low closed none works reads =
        ended (opened_end k old works.1) works.3 (opens-kept old device k (leb-true 1 k low) closed kept works.1 works.2)

    placed-kept : (rc : ResourceCall) (p : RowPlace) (r : FileRow) (loads : Bool) (outcome : Outcome) (state : ResState) → Kept state
        → Kept (placed_end device loads rc p r outcome state).state
    placed-kept rc p r loads (Err code) state kept = kept
    placed-kept rc p r false (Ok res) state kept = handle-kept state p (handle_made r (Ok res)) state.files kept
    placed-kept rc p r true (Ok res) state kept =
        let h = handle_made r (Ok res) in
        let failed = refused_with IoErr (with_heap (unloaded h r state.heap) state) in
        let new = with_files (row_changed p (with_handle (Some h)) state.files) (with_heap (loaded h r state.heap) state) in
        let done : ResourceEnd = record { outcome = Ok (loaded_results rc h); state = new } in
        let is = handle-kept state p h state.files kept in
        elim (read_fails device true r) as (λ b. Kept (cond b failed done).state) [ true ↦ kept | false ↦ is ]

    row-gets : (rc : ResourceCall) (p : RowPlace) (r : FileRow) (o : Option MemoryCall)
        → GetsRow Memory (answered_disks honest Anything) device old rc asks end p r o → Kept end.state
    row-gets rc p r None gets = ended (found_end rc r old) gets.1 kept
    row-gets rc p r (Some inner) gets =
        let following = after_memory asks gets.1 old in
        let placed = placed-kept rc p r (loads_bytes old rc) gets.0 following (forgotten-kept old (disposed_in asks) old.files kept) in
        ended (placed_end device (loads_bytes old rc) rc p r gets.0 following) gets.3 placed

    place-gets : (rc : ResourceCall) (p : RowPlace) (o : Option FileRow) → GetsPlace Memory (answered_disks honest Anything) device old rc asks end p o
        → Kept end.state
    place-gets rc p None gets = absurd gets
    place-gets rc p (Some r) gets = row-gets rc p r (placing old.heap.table (loads_bytes old rc) r) gets

    getting-keeps : (rc : ResourceCall) (o : Option RowPlace) → Keeps rc (option_map_or Gets o Quiet)
    getting-keeps rc None works reads = quiet rc works reads
    getting-keeps rc (Some p) works reads = place-gets rc p (row_at p old.files) works

    works-keep : (rc : ResourceCall) → resource_refusal old rc ≡ None → Keeps rc (work_of old rc)
    works-keep (Writing (WriteResource h)) none = row-keeps (Writing (WriteResource h)) (row_passes is_changed h old.files) (place_of_handle h old.files)
    works-keep (Writing (UpdateResFile named)) none = file-keeps (Writing (UpdateResFile named)) (file_named named old.files)
    works-keep (Writing (CloseResFile named)) none = file-keeps (Writing (CloseResFile named)) (file_named named old.files)
    works-keep (OpenResFile k) none = opening-keeps (OpenResFile k) k (nat_le 1 k) (is_open k old.files) refl refl none
    works-keep rc none = getting-keeps rc (row_wanted old rc)

    steps-keep : (rc : ResourceCall) (o : Option OsErr) → resource_refusal old rc ≡ o
        → StepsUnless Memory (answered_disks honest Anything) o device old rc asks end → ReadsBack honest old rc end.outcome last → Kept end.state
    steps-keep rc (Some code) is step reads = ended (refused_with code old) step.1 kept
    steps-keep rc None is step reads = works-keep rc is step reads

  -- ---- what the devices answered

  -- files of which the same is known
  same-kept : (P Q : File → Type 0) → ((f g : File) → f.number ≡ g.number → (honest f.number → f.table.rows ≡ g.table.rows) → P g → Q f) → (fs gs : List File)
      → ((known : ℕ → Bool) → AreHonest honest known → map (known_file known) fs ≡ map (known_file known) gs) → AreKept P gs → AreKept Q fs
  same-kept P Q step [] gs same kept = tt
  same-kept P Q step (f ∷ fs) [] same kept = let e = same none (none_honest honest) in absurd (cc e)
  same-kept P Q step (f ∷ fs) (g ∷ gs) same kept =
      let heads : (known : ℕ → Bool) → AreHonest honest known → known_file known f ≡ known_file known g = λ known are. let e = same known are in cc e in
      let number : f.number ≡ g.number = ap (λ (x : File). x.number) (heads none (none_honest honest)) in
      let k = f.number in
      let rows : honest k → f.table.rows ≡ g.table.rows =
      λ true_device. sym (ap (λ b. map (known_row b) f.table.rows) (only_is k) ∙ all_rows f.table.rows)
      ∙ ap (λ (x : File). x.table.rows) (heads (only k) (only_honest honest k true_device))
      ∙ ap (λ b. map (known_row b) g.table.rows) (subst (λ n. IsTrue (only k n)) number (only_is k)) ∙ all_rows g.table.rows in
      let apart : (x y : File) → x.number ≡ y.number → is_numbered g.number y ≡ false → is_numbered k x ≡ false =
      λ x y n is. rw (n, number) is in
      (step f g number rows kept.0, same-kept (IsApart g P) (IsApart f Q) (λ x y n r is. (apart x y n is.0, step x y n r is.1)) fs gs (λ known are. let e = same known are in cc e) kept.1)

  answered-kept : (state answered : ResState) → IsAnswered honest state answered → Kept state → Kept answered
  answered-kept state answered answers = same-kept (IsKept state) (IsKept answered) here answered.files.files state.files.files (λ known are. ap (λ (s : ResState). s.files.files) (answers known are))
    where
      here : (f g : File) → f.number ≡ g.number → (honest f.number → f.table.rows ≡ g.table.rows) → IsKept state g → IsKept answered f
      here f g number rows is =
          let low = subst (λ n. 1 ≤ n) (sym number) is.0 in (
            low,
            λ true_device.
                let there : HaveBytes (disk_of f.number state) g.table.rows = subst (λ n. HaveBytes (disk_of n state) g.table.rows) (sym number) (is.1 (subst honest number true_device)) in
                subst (λ d. HaveBytes d f.table.rows) (sym (disk_answered honest state answered answers f.number low true_device)) (subst (HaveBytes (disk_of f.number state)) (sym (rows true_device)) there),
          )

  -- a call that made an update read back is by the files before it, as the devices answered too
  reads-before : (old before last : ResState) (rc : ResourceCall) (outcome : Outcome) → WasAnswered honest old rc before → ReadsBack honest old rc outcome last → ReadsBack honest before rc outcome last
  reads-before old before last (Getting call) outcome was reads = subst (λ o. OnOk outcome (IsSaved honest o last)) (sym (gets_none before call)) (nothing outcome)
    where
      nothing : (outcome : Outcome) → OnOk outcome (IsSaved honest None last)
      nothing (Ok results) = tt
      nothing (Err code) = tt
  reads-before old before last rc outcome same reads = subst (λ s. ReadsBack honest s rc outcome last) (sym same) reads

  -- ---- runs

  tool-kept : (old : Tools) (c : Call) (asks : List Ask) (outcome : Outcome) (new : Tools) → Kept old.resources → ToolDoes honest old c asks outcome new → Kept new.resources
  tool-kept old (MemoryCalls c) asks outcome new kept does = subst Kept (sym does.2) (forgotten-kept old.resources (disposed_of c asks outcome) old.resources.files kept)
  tool-kept old (Loan c) asks outcome new kept does = subst Kept (sym does.1) kept
  tool-kept old (Resource rc) asks outcome new kept does =
      let step = does.0 in
      let end : ResourceEnd = record { outcome = outcome; state = step.after } in
      let before = answered-kept old.resources step.before (answered_before honest rc old.resources step.before step.was) kept in
      let reads = reads-before old.resources step.before new.resources rc outcome step.was does.3 in
      let after = steps-keep step.device step.before asks end before new.resources (disk_answered honest new.resources step.after step.becomes) rc (resource_refusal step.before rc) refl step.step reads in
      answered-kept step.after new.resources (answered_back honest new.resources step.after step.becomes) after
  tool-kept old MemError asks outcome new kept does = subst Kept (sym does.0) kept
  tool-kept old ResError asks outcome new kept does = subst Kept (sym does.0) kept

  run-kept : (old : Tools) (first later : List Called) → Kept old.resources → IsToolRun honest old (first ++ later) → Kept (tools_after old first).resources
  run-kept old [] later kept run = kept
  run-kept old (c ∷ first) later kept run = run-kept c.tools first later (tool-kept old c.call c.asks c.outcome c.tools kept run.0) run.1

  -- so it is where no file was open
  pub run-reads : (start : Tools) (first later : List Called) → start.resources.files ≡ no_files → IsToolRun honest start (first ++ later) → ReadOffForks honest (tools_after start first).resources
  run-reads start first later none run = kept-reads (tools_after start first).resources (run-kept start first later (subst (FilesKept start.resources) (sym none) tt) run)
