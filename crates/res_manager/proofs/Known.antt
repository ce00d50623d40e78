-- Rows and files of which some bytes are known, or none.
use Rattle.std.proofs.Common.{◌≡◌, refl, sym, ap, ◌∙◌, arith, ◌≤◌, ℕ, ℤ, zero, suc, ◌-◌, List, [], ◌∷◌, length, map, set, slice_get, Bool, true, false, Option, None, Some, IsSome, IsTrue, unwrap_or, subst}
use Rattle.std.specs.Prelude.{if◌then◌else◌, option_map}
use Rattle.std.specs.List.{cons_option}
use Rattle.std.specs.Option.{option_map_or, option_and_then}
use Rattle.mac_base.specs.HandleTable.{zeros}
use Rattle.mac_base.specs.declared.resource_call.ResourceCall.TheVariants.{Getting, Writing}
use Rattle.mac_base.specs.declared.resource_call.GettingCall.{GettingCall}
use Rattle.mac_base.specs.declared.resource_call.GettingCall.TheVariants.{GetResource, Get1Resource, GetIndResource, LoadResource}
use Rattle.mac_base.specs.declared.resource_call.WritingCall.TheVariants.{CloseResFile}
use Rattle.res_table.specs.declared.chain.OpenFile.{OpenFile}
use Rattle.res_table.specs.declared.chain.RowPlace.{RowPlace}
use Rattle.res_table.specs.Rows.{changed_at, index_of_ith, with_datum, with_handle}
use Rattle.res_table.specs.OpenFiles.{changed_file, file_closed, handle_forgotten, is_numbered, place_here, place_of_handle, place_of_resource, row_at, table_of, with_rows}
use Rattle.res_update.specs.Answered.{AnswersFor, IsAnswered, known_bytes, known_disks, known_files, known_row, known_state, known_table}
use Rattle.res_update.proofs.Answering.{none}
use Rattle.res_update.specs.Changes.{FileRow, FileTable, Files, current_rows, handles_forgotten, row_changed, rows_in, rows_of}
use Rattle.res_update.specs.Device.{Disk}
use Rattle.res_update.specs.Files.{ResState, disk_of, with_files, with_heap}
use Rattle.res_update.specs.Updates.{after_update, disposed, handles_of}
use Rattle.mac_base.specs.HeadKind.{Shape}
use Rattle.mac_base.specs.Heap.{Heap}
use Rattle.res_update.specs.Loads.{row_wanted}
use Rattle.res_update.specs.Tests.{resource_refusal}
use Rattle.res_files.proofs.Mapped.{changed-mapped, changed_at-mapped, closed-mapped, handle-mapped, handle_forgotten-mapped, here-mapped, index_of_ith-mapped, mapped_row, resource-mapped, row-mapped, table-mapped}
use Rattle.res_manager.proofs.Changing.{changed_same}

-- what is known of the bytes of a file
abbrev bytes : (ℕ → Bool) → ℕ → List ℕ → List ℕ
bytes known k = known_bytes (known k)

-- the files of which no bytes are known
abbrev pub blank_files : Files → Files
blank_files = known_files none

-- nothing changes where each thing stays as it is
unchanged : {X : Type 0} (at : ℕ) (xs : List X) → option_map_or (λ x. set xs at x) (slice_get xs at) xs ≡ xs
unchanged at [] = refl
unchanged zero (x ∷ xs) = refl
unchanged {X} (suc at) (x ∷ xs) = by (slice_get xs at) ∙ ap (λ (others : List X). x ∷ others) (unchanged at xs)
  where
    by : (found : Option X) → option_map_or (λ y. x ∷ set xs at y) found (x ∷ xs) ≡ x ∷ option_map_or (λ y. set xs at y) found xs
    by None = refl
    by (Some y) = refl

file-same : (k at : ℕ) (files : List (OpenFile (List ℕ))) → changed_file k (changed_at at (λ r. r)) files ≡ files
file-same k at [] = refl
file-same k at (file ∷ files) = by (is_numbered k file) (file-same k at files)
  where
    by : (b : Bool) → changed_file k (changed_at at (λ r. r)) files ≡ files → (if b then with_rows (changed_at at (λ r. r)) file ∷ files else file ∷ changed_file k (changed_at at (λ r. r)) files) ≡ file ∷ files
    by true deeper =
        ap (λ (rows : List FileRow). let here : OpenFile (List ℕ) = record { number = file.number; table = record { rows = rows; extra = file.table.extra; map_attributes = file.table.map_attributes } } in here ∷ files)
        (unchanged at file.table.rows)
    by false deeper = ap (λ (others : List (OpenFile (List ℕ))). file ∷ others) deeper

-- a row that is given the bytes that it has stays
pub same-datum : (p : RowPlace) (bytes : List ℕ) (files : Files) (r : FileRow) → row_at p files ≡ Some r → bytes ≡ r.resource.datum → row_changed p (with_datum bytes) files ≡ files
same-datum p bytes files r is same =
    changed_same p (with_datum bytes) (λ r. r) files r is (ap (λ (b : List ℕ). with_datum b r) same)
    ∙ ap (λ (fs : List (OpenFile (List ℕ))). let all : Files = record { files = fs; current = files.current } in all) (file-same p.file p.index files.files)

module _ (known : ℕ → Bool) where
  -- a row is changed all the same, where the change looks at no bytes
  pub known-changed : (p : RowPlace) (change own : FileRow → FileRow) → ((r : FileRow) → change (mapped_row (bytes known p.file) r) ≡ mapped_row (bytes known p.file) (own r)) → (files : Files)
      → row_changed p change (known_files known files) ≡ known_files known (row_changed p own files)
  known-changed p change own same files =
      ap (λ (fs : List (OpenFile (List ℕ))). let all : Files = record { files = fs; current = files.current } in all)
      (changed-mapped (bytes known) p.file (changed_at p.index change) (changed_at p.index own) (λ rows. changed_at-mapped (bytes known p.file) p.index change own same rows) files.files)

  pub known-handle : (p : RowPlace) (h : Option ℕ) (files : Files) → known_files known (row_changed p (with_handle h) files) ≡ row_changed p (with_handle h) (known_files known files)
  known-handle p h files = sym (known-changed p (with_handle h) (with_handle h) (λ r. refl) files)

  -- and handles are forgotten all the same
  pub known-forgotten : (hs : List ℕ) (files : Files) → handles_forgotten hs (known_files known files) ≡ known_files known (handles_forgotten hs files)
  known-forgotten [] files = refl
  known-forgotten (h ∷ hs) files = ap (handles_forgotten hs) (handle_forgotten-mapped (bytes known) h files) ∙ known-forgotten hs (handle_forgotten h files)

  -- the row at a place
  known-there : (p : RowPlace) (files : Files) (r : FileRow) → row_at p files ≡ Some r → row_at p (known_files known files) ≡ Some (known_row (known p.file) r)
  known-there p files r is = row-mapped (bytes known) p files ∙ ap (option_map (known_row (known p.file))) is

  -- other bytes of a row, of which the same is known, leave all else of the files
  pub known-datum : (p : RowPlace) (read : List ℕ) (files : Files) (r : FileRow) → row_at p files ≡ Some r → known_bytes (known p.file) read ≡ known_bytes (known p.file) r.resource.datum
      → known_files known (row_changed p (with_datum read) files) ≡ known_files known files
  known-datum p read files r is same =
      sym (known-changed p (with_datum (bytes known p.file read)) (with_datum read) (λ r. refl) files)
      ∙ same-datum p (bytes known p.file read) (known_files known files) (known_row (known p.file) r) (known-there p files r is) same

-- as many bytes, and the same where they are known
pub known-same : (b : Bool) (read own : List ℕ) → length read ≡ length own → (IsTrue b → read ≡ own) → known_bytes b read ≡ known_bytes b own
known-same true read own long same = same refl
known-same false read own long same = ap zeros long

-- a row is there, whatever the bytes
some-there : {X Y : Type 0} (g : X → Y) (a b : Option X) → option_map g a ≡ option_map g b → IsSome b → IsSome a
some-there g (Some x) b same some = refl
some-there g None (Some y) same some = absurd (cc same)
some-there g None None same some = absurd (cc some)

pub blank-there : (p : RowPlace) (a b : Files) → blank_files a ≡ blank_files b → IsSome (row_at p b) → IsSome (row_at p a)
blank-there p a b same =
    some-there (known_row false) (row_at p a) (row_at p b) (sym (row-mapped (bytes none) p a) ∙ ap (λ (files : Files). row_at p files) same ∙ row-mapped (bytes none) p b)

-- what a call wants doesn't hang on bytes
wanted_found : (kind : List ℕ) (id : ℤ) (a b : Files) → blank_files a ≡ blank_files b → place_of_resource kind id a ≡ place_of_resource kind id b
wanted_found kind id a b same = sym (resource-mapped (bytes none) kind id a) ∙ ap (λ (f : Files). place_of_resource kind id f) same ∙ resource-mapped (bytes none) kind id b

wanted_here : (kind : List ℕ) (id : ℤ) (a b : Files) → blank_files a ≡ blank_files b → place_here kind id a ≡ place_here kind id b
wanted_here kind id a b same = sym (here-mapped (bytes none) kind id a) ∙ ap (λ (f : Files). place_here kind id f) same ∙ here-mapped (bytes none) kind id b

wanted_handle : (h : ℕ) (a b : Files) → blank_files a ≡ blank_files b → place_of_handle h a ≡ place_of_handle h b
wanted_handle h a b same = sym (handle-mapped (bytes none) h a) ∙ ap (λ (f : Files). place_of_handle h f) same ∙ handle-mapped (bytes none) h b

index_blank : (kind : List ℕ) (i : ℕ) (a : Files) → index_of_ith kind i (current_rows (blank_files a)) ≡ index_of_ith kind i (current_rows a)
index_blank kind i a = by a.current
  where
    of_table : (found : Option FileTable) → index_of_ith kind i (option_map_or rows_in (option_map (known_table false) found) []) ≡ index_of_ith kind i (option_map_or rows_in found [])
    of_table None = refl
    of_table (Some table) = index_of_ith-mapped (known_bytes false) kind i table.rows

    by : (current : Option ℕ) → index_of_ith kind i (option_map_or (λ k. rows_of k (blank_files a)) current []) ≡ index_of_ith kind i (option_map_or (λ k. rows_of k a) current [])
    by None = refl
    by (Some k) = ap (λ (found : Option FileTable). index_of_ith kind i (option_map_or rows_in found [])) (table-mapped (bytes none) k a.files) ∙ of_table (table_of k a)

wanted_index : (kind : List ℕ) (i : ℕ) (a b : Files) → blank_files a ≡ blank_files b → index_of_ith kind i (current_rows a) ≡ index_of_ith kind i (current_rows b)
wanted_index kind i a b same = sym (index_blank kind i a) ∙ ap (λ (f : Files). index_of_ith kind i (current_rows f)) same ∙ index_blank kind i b

current_same : (a b : Files) → blank_files a ≡ blank_files b → a.current ≡ b.current
current_same a b same = ap (λ (f : Files). f.current) same

pub same_wanted : (a b : ResState) → blank_files a.files ≡ blank_files b.files → (c : GettingCall) → row_wanted a (Getting c) ≡ row_wanted b (Getting c)
same_wanted a b same (GetResource kind id) = wanted_found kind id a.files b.files same
same_wanted a b same (Get1Resource kind id) = wanted_here kind id a.files b.files same
same_wanted a b same (GetIndResource kind i) =
    let place : Option ℕ → Option ℕ → Option RowPlace = λ found current. option_and_then (λ k. option_map (λ at. let place : RowPlace = record { file = k; index = at } in place) found) current in
    ap (λ (found : Option ℕ). place found a.files.current) (wanted_index kind i a.files b.files same) ∙ ap (place (index_of_ith kind i (current_rows b.files))) (current_same a.files b.files same)
same_wanted a b same (LoadResource h) = wanted_handle h a.files b.files same

pub same_passed : (a b : ResState) → blank_files a.files ≡ blank_files b.files → (c : GettingCall) → resource_refusal a (Getting c) ≡ resource_refusal b (Getting c)
same_passed a b same (GetResource kind id) = rw (wanted_found kind id a.files b.files same, current_same a.files b.files same) refl
same_passed a b same (Get1Resource kind id) = rw (wanted_here kind id a.files b.files same, current_same a.files b.files same) refl
same_passed a b same (GetIndResource kind i) = rw (wanted_index kind i a.files b.files same, current_same a.files b.files same) refl
same_passed a b same (LoadResource h) = rw (wanted_handle h a.files b.files same, current_same a.files b.files same) refl

-- each of two files is as the devices answered of the other
pub answers-back : (honest : ℕ → Type 0) (a b : Files) → AnswersFor honest a b → AnswersFor honest b a
answers-back honest a b answers known are = sym (answers known are)

-- as many disks, and the same where they are known
disks-known : (known : ℕ → Bool) (a b : List Disk) → length a ≡ length b → ((at : ℕ) → IsTrue (known (suc at)) → unwrap_or (slice_get a at) [] ≡ unwrap_or (slice_get b at) []) → known_disks known a ≡ known_disks known b
disks-known known [] [] count same = refl
disks-known known [] (d ∷ b) count same = absurd (cc count)
disks-known known (d ∷ a) [] count same = absurd (cc count)
disks-known known (d ∷ a) (e ∷ b) count same =
    ap (λ (disk : Disk). disk ∷ known_disks (λ k. known (suc k)) a) (here (known 1) (same 0))
    ∙ ap (λ (others : List Disk). (if known 1 then e else []) ∷ others) (disks-known (λ k. known (suc k)) a b (cc count) (λ at. same (suc at)))
  where
    here : (b : Bool) → (IsTrue b → d ≡ e) → (let none : Disk = [] in if b then d else none) ≡ (if b then e else [])
    here true same = same refl
    here false same = refl

-- states with the same parts are the same
same-parts : (s t : Shape) (h g : Heap) (f e : Files) (l m : Bool) (d c : List Disk) → s ≡ t → h ≡ g → f ≡ e → l ≡ m → d ≡ c
    → (let a : ResState = record { shape = s; heap = h; files = f; loads = l; disks = d } in a ≡ record { shape = t; heap = g; files = e; loads = m; disks = c })
same-parts s t h g f e l m d c shape heap files loads disks =
    let P : Shape → Type 0 = λ x. (let a : ResState = record { shape = s; heap = h; files = f; loads = l; disks = d } in a ≡ record { shape = x; heap = h; files = f; loads = l; disks = d }) in
    let Q : Heap → Type 0 = λ x. (let a : ResState = record { shape = s; heap = h; files = f; loads = l; disks = d } in a ≡ record { shape = t; heap = x; files = f; loads = l; disks = d }) in
    let R : Files → Type 0 = λ x. (let a : ResState = record { shape = s; heap = h; files = f; loads = l; disks = d } in a ≡ record { shape = t; heap = g; files = x; loads = l; disks = d }) in
    let T : Bool → Type 0 = λ x. (let a : ResState = record { shape = s; heap = h; files = f; loads = l; disks = d } in a ≡ record { shape = t; heap = g; files = e; loads = x; disks = d }) in
    let U : List Disk → Type 0 = λ x. (let a : ResState = record { shape = s; heap = h; files = f; loads = l; disks = d } in a ≡ record { shape = t; heap = g; files = e; loads = m; disks = x }) in
    subst U disks (subst T loads (subst R files (subst Q heap (subst P shape refl))))

-- a state is as the devices answered by its files and its disks
pub answered-parts : (honest : ℕ → Type 0) (state answered : ResState) → answered.shape ≡ state.shape → answered.heap ≡ state.heap → AnswersFor honest state.files answered.files → answered.loads ≡ state.loads
    → length answered.disks ≡ length state.disks → ((k : ℕ) → 1 ≤ k → honest k → disk_of k answered ≡ disk_of k state) → IsAnswered honest state answered
answered-parts honest state answered shape heap files loads count disks known are =
    same-parts answered.shape state.shape answered.heap state.heap (known_files known answered.files) (known_files known state.files) answered.loads state.loads (known_disks known answered.disks) (known_disks known state.disks)
    shape heap (files known are) loads (disks-known known answered.disks state.disks count (λ at is. here at (disks (suc at) (omega arith) (are (suc at) is))))
  where
    here : (at : ℕ) → disk_of (suc at) answered ≡ disk_of (suc at) state → unwrap_or (slice_get answered.disks at) [] ≡ unwrap_or (slice_get state.disks at) []
    here at same =
        let index : suc at - 1 ≡ at = omega arith in
        subst (λ (i : ℕ). unwrap_or (slice_get answered.disks i) [] ≡ unwrap_or (slice_get state.disks i) []) index same

-- the handles of a file's rows are the same
handles-known : (b : Bool) (rows : List FileRow) → handles_of (map (known_row b) rows) ≡ handles_of rows
handles-known b [] = refl
handles-known b (r ∷ rows) = by r.handle (handles-known b rows)
  where
    by : (o : Option ℕ) → handles_of (map (known_row b) rows) ≡ handles_of rows → cons_option o (handles_of (map (known_row b) rows)) ≡ cons_option o (handles_of rows)
    by None deeper = deeper
    by (Some h) deeper = ap (λ (hs : List ℕ). h ∷ hs) deeper

handles-of-file : (known : ℕ → Bool) (k : ℕ) (files : Files) → handles_of (rows_of k (known_files known files)) ≡ handles_of (rows_of k files)
handles-of-file known k files = ap (λ (found : Option FileTable). handles_of (option_map_or rows_in found [])) (table-mapped (bytes known) k files.files) ∙ by (table_of k files)
  where
    by : (found : Option FileTable) → handles_of (option_map_or rows_in (option_map (known_table (known k)) found) []) ≡ handles_of (option_map_or rows_in found [])
    by None = refl
    by (Some table) = handles-known (known k) table.rows

-- a file is closed as the devices answered
pub closed-answered : (honest : ℕ → Type 0) (k : ℕ) (state answered : ResState) → IsAnswered honest state answered
    → IsAnswered honest (after_update (Writing (CloseResFile None)) k state) (after_update (Writing (CloseResFile None)) k answered)
closed-answered honest k state answered is known are =
    let same = is known are in
    let files : known_files known answered.files ≡ known_files known state.files = ap (λ (s : ResState). s.files) same in
    let shape : answered.shape ≡ state.shape = ap (λ (s : ResState). s.shape) same in
    let heap : answered.heap ≡ state.heap = ap (λ (s : ResState). s.heap) same in
    let loads : answered.loads ≡ state.loads = ap (λ (s : ResState). s.loads) same in
    let disks : known_disks known answered.disks ≡ known_disks known state.disks = ap (λ (s : ResState). s.disks) same in
    let handles : handles_of (rows_of k answered.files) ≡ handles_of (rows_of k state.files) = sym (handles-of-file known k answered.files) ∙ ap (λ (f : Files). handles_of (rows_of k f)) files ∙ handles-of-file known k state.files in
    let closed : known_files known (file_closed k answered.files) ≡ known_files known (file_closed k state.files) =
    sym (closed-mapped (bytes known) k answered.files) ∙ ap (file_closed k) files ∙ closed-mapped (bytes known) k state.files in
    by (disposed answered.shape (handles_of (rows_of k answered.files)) answered.heap) (disposed state.shape (handles_of (rows_of k state.files)) state.heap)
    (ap (λ (s : Shape). disposed s (handles_of (rows_of k answered.files)) answered.heap) shape ∙ ap (λ (hs : List ℕ). disposed state.shape hs answered.heap) handles ∙ ap (disposed state.shape (handles_of (rows_of k state.files))) heap) shape closed loads disks
  where
    by : (a b : Heap) → a ≡ b → answered.shape ≡ state.shape → known_files known (file_closed k answered.files) ≡ known_files known (file_closed k state.files) → answered.loads ≡ state.loads
        → known_disks known answered.disks ≡ known_disks known state.disks
        → known_state known (with_heap a (with_files (file_closed k answered.files) answered)) ≡ known_state known (with_heap b (with_files (file_closed k state.files) state))
    by a b heap shape files loads disks =
        same-parts answered.shape state.shape a b (known_files known (file_closed k answered.files)) (known_files known (file_closed k state.files)) answered.loads state.loads (known_disks known answered.disks) (known_disks known state.disks) shape heap files loads disks
