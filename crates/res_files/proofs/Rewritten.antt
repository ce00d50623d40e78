-- The store of an open file is written anew: how the files are on the stores then, and how they are seen.
use Rattle.std.proofs.Common.{◌≡◌, refl, sym, ap, ◌∙◌, subst, arith, ℕ, zero, suc, ◌+◌, ◌-◌, ◌<◌, ◌≤◌, List, [], ◌∷◌, length, map, set, get_or, slice_get, unwrap_or, Bool, true, false, Option, None, Some, Result, Ok, Err, IfSome, All, IsTrue}
use Rattle.std.specs.Global.{Global}
use Rattle.std.specs.Prelude.{◌↔◌, ◌&&◌, IsFalse, IsErrOf, Vec, if◌then◌else◌}
use Rattle.std.specs.List.{AllByRecursion}
use Rattle.std.specs.Option.{option_map, option_map_or}
use Rattle.std.proofs.lemmas.List.{length-map, length-set}
use Rattle.std.proofs.lemmas.List.Elements.{All-cons, All-nil, All-head, All-tail}
use Rattle.std.proofs.lemmas.Option.{slice_get-map, slice_get_read}
use Rattle.mac_base.specs.HandleTable.{HandleTable}
use Rattle.fork_bytes.specs.Fork.{max_rows, StandsFor}
use Rattle.fork_bytes.specs.Laws.{IsGrouped}
use Rattle.fork_bytes.specs.Written.{written}
use Rattle.fork_disk.specs.declared.store.ForkStore.{Ghosts}
use Rattle.fork_disk.specs.Crash.{AlwaysFinds, FoundBeforeOr}
use Rattle.fork_disk.specs.Disk.{Rose}
use Rattle.fork_disk.specs.declared.store.ReplaceFault.{ReplaceFault}
use Rattle.fork_disk.specs.declared.store.ReplaceFault.TheVariants.{BeforeFirstWrite, Later}
use Rattle.fork_bytes.specs.declared.place.Place.{Place}
use Rattle.res_table.specs.declared.row.Row.{Row}
use Rattle.res_table.specs.declared.chain.ResourceTable.{ResourceTable}
use Rattle.res_table.specs.declared.chain.OpenFile.{OpenFile}
use Rattle.res_table.specs.Rows.{is_changed}
use Rattle.res_table.specs.OpenFiles.{OpenFiles, is_open, table_of, rows_changed, without, last_number, is_current, file_closed}
use Rattle.res_update.specs.Answered.{AnswersFor, known_files}
use Rattle.res_update.specs.Changes.{Files, FileRow, FileTable, rows_of, rows_in, saved_table}
use Rattle.res_update.specs.Tests.{is_lent_row}
use Rattle.res_update.specs.declared.fault.UpdateFault.{UpdateFault}
use Rattle.res_update.specs.declared.fault.UpdateFault.TheVariants.{TooBig, HostFull, Device}
use Rattle.res_update.specs.declared.selection.Selection.{Selection}
use Rattle.res_update.specs.declared.selection.Selection.TheVariants.{AllChanged, RowAt}
use Rattle.res_update.specs.Drafts.{is_selected}
use Rattle.res_update.specs.Placed.{bytes_on, rows_on, table_on, AreInside, IsInside, IsNear, Holds}
use Rattle.res_update.specs.Selected.{updated, reads_lent, CountsUpdate}
use Rattle.res_update.specs.Writing.{Writes}
use Rattle.res_files.specs.Crash.{history_of}
use Rattle.res_files.specs.FilesOn.{FilesOn, HonestAt, fork_of}
use Rattle.res_files.specs.Standing.{fork_at, files_on, AreSmall, StandsOn, StandOn, most_files}
use Rattle.res_files.specs.Stores.{UpdatesStore}
use Rattle.res_files.specs.Updating.{row_placed, rows_placed}
use Rattle.res_files.proofs.Known.{same_known}
use Rattle.res_files.proofs.Crash.{found_always, found_there}
use Rattle.res_files.proofs.Grouped.{placed_grouped, updated_grouped}
use Rattle.res_files.proofs.Mapped.{mapped_row, mapped_rows, mapped_table, any-mapped, get-mapped, set-mapped, table-mapped, without-mapped, closed-mapped}
use Rattle.res_files.proofs.On.{seen, bytes_in}
use Rattle.res_files.proofs.Stands.{table_stands, stand_closed, any_changed, apart_changed}
use Rattle.res_files.proofs.Stores.{get_set, stand_set}
use Rattle.res_files.proofs.Updated.{all_placed, one_placed}
use Rattle.res_files.proofs.Using.{mine, same_honest, same_values}
use Rattle.res_files.proofs.Written.{from_one, others_seen, one_seen, rest_seen, others_stand, one_stands, rest_stands}

-- what is lent is known by handles and attributes
lent-mapped : {D E : Type 0} (f : D → E) (t : HandleTable) (selection : Selection) (rows : List (Row D)) → reads_lent t selection (mapped_rows f rows) ≡ reads_lent t selection rows
lent-mapped f t AllChanged rows = any-mapped (mapped_row f) (λ r. is_changed r && is_lent_row t r) (λ r. is_changed r && is_lent_row t r) (λ r. refl) rows
lent-mapped {D} {E} f t (RowAt index) rows = ap (λ (found : Option (Row E)). option_map_or (is_lent_row t) found false) (get-mapped (mapped_row f) rows index) ∙ by (slice_get rows index)
  where
    by : (found : Option (Row D)) → option_map_or (is_lent_row t) (option_map (mapped_row f) found) false ≡ option_map_or (is_lent_row t) found false
    by None = refl
    by (Some r) = refl

-- rows at new places: as many, and what holds of the places holds of theirs
long_placed : (selection : Selection) (at : ℕ) (rows : List (Row Place)) (places : List Place) → length (rows_placed selection at rows places) ≡ length rows
long_placed selection at [] places = refl
long_placed selection at (r ∷ rows) [] = refl
long_placed selection at (r ∷ rows) (place ∷ places) = ap suc (long_placed selection (at + 1) rows places)

all_at_places : (P : Place → Type 0) (selection : Selection) (at : ℕ) (rows : List (Row Place)) (places : List Place) → length places ≡ length rows → All P places
    → All (λ r. P r.resource.datum) (rows_placed selection at rows places)
all_at_places P selection at [] places same all = All-nil (λ r. P r.resource.datum)
all_at_places P selection at (r ∷ rows) [] same all = absurd (cc same)
all_at_places P selection at (r ∷ rows) (place ∷ places) same all =
    All-cons (λ r. P r.resource.datum) (row_placed (is_selected selection at r) place r) (rows_placed selection (at + 1) rows places) (All-head P place places all)
    (all_at_places P selection (at + 1) rows places (omega (arith, same)) (All-tail P place places all))

-- a fault of one result is that of another
abbrev fault_or : {A E : Type 0} → Result A E → E → E
fault_or (Ok x) e = e
fault_or (Err f) e = f

pub fault_as : {A B E : Type 0} (e f : E) → IsErrOf {T = A} {E = E} (Err e) f → IsErrOf {T = B} {E = E} (Err e) f
fault_as {A} {B} {E} e f is = ap (λ (r : Result A E). let other : Result B E = Err (fault_or r f) in other) is

-- a fault of the device was counted
pub rose : {A B : Type 0} (before now : ℕ) (result : Result A UpdateFault) (fault : UpdateFault) (why : ReplaceFault) → result ≡ Err fault → CountsUpdate before now result
    → IsErrOf {T = B} {E = UpdateFault} (Err fault) (Device why) → Rose before now
rose {A} {B} before now result fault why result_is counts is =
    let failed : result ≡ Err (Device why) = result_is ∙ ap (λ (s : Result B UpdateFault). let other : Result A UpdateFault = Err (fault_or s fault) in other) is in
    subst (λ (s : Result A UpdateFault). CountsUpdate before now s) failed counts

-- a file that isn't open has no table that is seen
pub of_none : {S : Type 0} (fork : S → List ℕ) (chain : OpenFiles Place) (loads : Bool) (stores : List S) (now : FilesOn S) (view_is : seen fork chain loads stores ≡ now) (k : ℕ) → table_of k chain ≡ None
    → (P : FileTable → Type 0) → IfSome (table_of k now.files) P
of_none {S} fork chain loads stores now view_is k none P =
    let is : table_of k now.files ≡ None =
    ap (λ (v : FilesOn S). table_of k v.files) (sym view_is) ∙ table-mapped (bytes_in (map fork stores)) k chain.files ∙ ap (option_map (mapped_table (bytes_in (map fork stores) k))) none in
    subst (λ (found : Option FileTable). IfSome found P) (sym is) tt

module _ {S : Type 0} (store : Ghosts S) (chain : OpenFiles Place) (loads : Bool) (stores : List S) (now : FilesOn S) (view_is : seen store.fork chain loads stores ≡ now)
    (stand : StandOn store.fork store.is_ready store.is_honest stores chain) (k : ℕ) (table : ResourceTable Place) (here : table_of k chain ≡ Some table) where
  stands : (1 ≤ k) × (k ≤ length stores) × AreSmall table.rows × IfSome (slice_get stores (k - 1)) (Holds store.fork store.is_ready store.is_honest table.rows)
  stands = table_stands store.fork store.is_ready store.is_honest stores k chain table stand here

  pub low : 1 ≤ k
  low = stands.0

  pub within : k - 1 < length stores
  within = omega (arith, stands.0, stands.1)

  pub small : AreSmall table.rows
  small = stands.2

  -- the rows that are seen are lent where these are
  rows_are : rows_of k now.files ≡ mapped_rows (bytes_in (map store.fork stores) k) table.rows
  rows_are =
      ap (λ (v : FilesOn S). rows_of k v.files) (sym view_is)
      ∙ ap (λ (found : Option FileTable). option_map_or rows_in found []) (table-mapped (bytes_in (map store.fork stores)) k chain.files ∙ ap (option_map (mapped_table (bytes_in (map store.fork stores) k))) here)

  pub unlent : (t : HandleTable) (selection : Selection) → IsFalse (reads_lent t selection (rows_of k now.files)) → IsFalse (reads_lent t selection table.rows)
  unlent t selection is = sym (lent-mapped (bytes_in (map store.fork stores) k) t selection table.rows) ∙ ap (reads_lent t selection) (sym rows_are) ∙ is

  module _ (old : S) (value : old ≡ get_or stores (k - 1) old) where
    at_old : slice_get stores (k - 1) ≡ Some old
    at_old = slice_get_read stores (length stores) (k - 1) old refl within value

    -- what holds of the store
    pub held : store.is_honest old → store.is_ready old × AreInside (store.fork old) table.rows
    held = subst (λ (found : Option S). IfSome found (Holds store.fork store.is_ready store.is_honest table.rows)) at_old stands.3

    fork_there : fork_at (map store.fork stores) k ≡ store.fork old
    fork_there = ap (λ (o : Option (List ℕ)). unwrap_or o []) (slice_get-map store.fork stores (k - 1) ∙ ap (option_map store.fork) at_old)

    stores_are : now.stores ≡ stores
    stores_are = ap (λ (v : FilesOn S). v.stores) (sym view_is)

    fork_is : fork_of store.fork k now.stores ≡ store.fork old
    fork_is = ap (λ (xs : List S). fork_of store.fork k xs) stores_are ∙ ap (λ (found : Option S). option_map_or store.fork found []) at_old

    -- the table that is seen
    seen_table : table_of k now.files ≡ Some (table_on (store.fork old) table)
    seen_table =
        ap (λ (v : FilesOn S). table_of k v.files) (sym view_is)
        ∙ table-mapped (bytes_in (map store.fork stores)) k chain.files
        ∙ ap (option_map (mapped_table (bytes_in (map store.fork stores) k))) here
        ∙ ap (λ (bytes : List ℕ). Some (table_on bytes table)) fork_there

    pub of_table : (P : FileTable → Type 0) → P (table_on (store.fork old) table) → IfSome (table_of k now.files) P
    of_table P is = subst (λ (found : Option FileTable). IfSome found P) (sym seen_table) is

    module _ (new : S) where
      honest_here : HonestAt store.is_honest (set stores (k - 1) new) k → store.is_honest new
      honest_here = mine store.fork store.is_honest chain loads stores now view_is (k - 1) within old new value

      -- when no store.fork holds the table
      pub fits_ok : {A B : Type 0} (a : A) (b : B) (P : FileTable → Type 0) → IsErrOf {T = A} {E = UpdateFault} (Ok a) TooBig ↔ P (table_on (store.fork old) table)
          → IfSome (table_of k now.files) (λ shown. IsErrOf {T = B} {E = UpdateFault} (Ok b) TooBig ↔ P shown)
      fits_ok {A} {B} a b P is =
          of_table (λ shown. IsErrOf {T = B} {E = UpdateFault} (Ok b) TooBig ↔ P shown) ((λ e. absurd (cc e)), (λ p. absurd (cc (is.1 p))))

      pub fits_err : (A B : Type 0) (fault : UpdateFault) (P : FileTable → Type 0) → IsErrOf {T = A} {E = UpdateFault} (Err fault) TooBig ↔ P (table_on (store.fork old) table)
          → IfSome (table_of k now.files) (λ shown. IsErrOf {T = B} {E = UpdateFault} (Err fault) TooBig ↔ P shown)
      fits_err A B fault P is =
          of_table (λ shown. IsErrOf {T = B} {E = UpdateFault} (Err fault) TooBig ↔ P shown) ((λ e. is.0 (fault_as {A = B} {B = A} fault TooBig e)), (λ p. fault_as {A = A} {B = B} fault TooBig (is.1 p)))

      -- the forks, with these bytes on the store
      abbrev forks_now : List ℕ → List (List ℕ)
      forks_now bytes = set (map store.fork stores) (k - 1) bytes

      forks_set : map store.fork (set stores (k - 1) new) ≡ forks_now (store.fork new)
      forks_set = sym (set-mapped store.fork stores (k - 1) new)

      fork_set : (bytes : List ℕ) → fork_at (forks_now bytes) k ≡ bytes
      fork_set bytes = ap (λ (o : Option (List ℕ)). unwrap_or o []) (get_set (map store.fork stores) (k - 1) bytes (subst (λ (n : ℕ). k - 1 < n) (sym (length-map stores store.fork)) within))

      fork_new : fork_of store.fork k (set stores (k - 1) new) ≡ store.fork new
      fork_new = ap (λ (found : Option S). option_map_or store.fork found []) (get_set stores (k - 1) new within)

      -- where it is honest, it is as one of these
      forks_agree : (bytes : List ℕ) → (store.is_honest new → store.fork new ≡ bytes) → (n : ℕ) → HonestAt store.is_honest (set stores (k - 1) new) n
          → fork_at (map store.fork (set stores (k - 1) new)) n ≡ fork_at (forks_now bytes) n
      forks_agree bytes same n honest = ap (λ (o : Option (List ℕ)). unwrap_or o []) (by stores (k - 1) (n - 1) honest)
        where
          by : (xs : List S) (i at : ℕ) → IfSome (slice_get (set xs i new) at) store.is_honest → slice_get (map store.fork (set xs i new)) at ≡ slice_get (set (map store.fork xs) i bytes) at
          by [] i at held = refl
          by (x ∷ xs) zero zero held = ap Some (same held)
          by (x ∷ xs) zero (suc at) held = refl
          by (x ∷ xs) (suc i) zero held = refl
          by (x ∷ xs) (suc i) (suc at) held = by xs i at held

      -- the fork, once it is written
      written_seen : (t : HandleTable) (selection : Selection) → (store.is_honest new → store.fork new ≡ written (saved_table (updated t selection (table_on (store.fork old) table))))
          → HonestAt store.is_honest (set stores (k - 1) new) k → IfSome (table_of k now.files) (λ shown. fork_of store.fork k (set stores (k - 1) new) ≡ written (saved_table (updated t selection shown)))
      written_seen t selection is honest =
          of_table (λ shown. fork_of store.fork k (set stores (k - 1) new) ≡ written (saved_table (updated t selection shown))) (fork_new ∙ is (honest_here honest))

      -- and what it stands for
      stands_seen : (t : HandleTable) (selection : Selection)
          → (store.is_honest new → IsGrouped (saved_table (updated t selection (table_on (store.fork old) table))).rows → StandsFor (store.fork new) (saved_table (updated t selection (table_on (store.fork old) table))))
          → HonestAt store.is_honest (set stores (k - 1) new) k → IfSome (table_of k now.files) (λ shown. StandsFor (fork_of store.fork k (set stores (k - 1) new)) (saved_table (updated t selection shown)))
      stands_seen t selection is honest =
          let saved = saved_table (updated t selection (table_on (store.fork old) table)) in
          of_table (λ shown. StandsFor (fork_of store.fork k (set stores (k - 1) new)) (saved_table (updated t selection shown)))
          (subst (λ (bytes : List ℕ). StandsFor bytes saved) (sym fork_new) (is (honest_here honest) (updated_grouped t selection (store.fork old) table small.grouped)))

      -- the rows at their places in a store.fork
      placed_seen : (t : HandleTable) (selection : Selection) (places : List Place) (bytes : List ℕ) → map (bytes_on bytes) places ≡ map (λ (r : FileRow). r.resource.datum) (updated t selection (table_on (store.fork old) table)).rows
          → rows_on bytes (rows_placed selection 0 table.rows places) ≡ (updated t selection (table_on (store.fork old) table)).rows
      placed_seen t AllChanged places bytes is = all_placed t (store.fork old) bytes 0 table.rows places is
      placed_seen t (RowAt index) places bytes is =
          let same : index ≡ 0 + index = omega arith in
          ap (λ (i : ℕ). rows_on bytes (rows_placed (RowAt i) 0 table.rows places)) same ∙ one_placed t (store.fork old) bytes index 0 table.rows places is

      -- the files, with a store.fork in which they have the bytes of the update
      rows_on_fork : (t : HandleTable) (selection : Selection) (places : List Place) (bytes : List ℕ) → map (bytes_on bytes) places ≡ map (λ (r : FileRow). r.resource.datum) (updated t selection (table_on (store.fork old) table)).rows
          → files_on (forks_now bytes) (rows_changed k (λ rows. rows_placed selection 0 rows places) chain) ≡ rows_changed k (λ _. (updated t selection (table_on (store.fork old) table)).rows) now.files
      rows_on_fork t selection places bytes is =
          let own : List (Row Place) → List (Row Place) = λ rows. rows_placed selection 0 rows places in
          let rows = (updated t selection (table_on (store.fork old) table)).rows in
          let mine_is : rows_on (fork_at (forks_now bytes) k) (own table.rows) ≡ rows = ap (λ (all : List ℕ). rows_on all (own table.rows)) (fork_set bytes) ∙ placed_seen t selection places bytes is in
          ap (λ (files : List (OpenFile (List ℕ))). let all : Files = record { files = files; current = chain.current } in all)
          (one_seen k low (map store.fork stores) bytes own rows chain.files (from_one store.fork store.is_ready store.is_honest stores chain.files stand.each) stand.apart
          (subst (λ (found : Option (ResourceTable Place)). IfSome found (λ (table : ResourceTable Place). rows_on (fork_at (forks_now bytes) k) (own table.rows) ≡ rows)) (sym here) mine_is))
          ∙ ap (λ (v : FilesOn S). rows_changed k (λ _. rows) v.files) view_is

      pub rows_seen : (t : HandleTable) (selection : Selection) (places : List Place) (more : OpenFiles Place) → more ≡ rows_changed k (λ rows. rows_placed selection 0 rows places) chain
          → (store.is_honest new → store.fork new ≡ written (saved_table (updated t selection (table_on (store.fork old) table))))
          → map (bytes_on (written (saved_table (updated t selection (table_on (store.fork old) table))))) places ≡ map (λ (r : FileRow). r.resource.datum) (updated t selection (table_on (store.fork old) table)).rows
          → IfSome (table_of k now.files) (λ shown. AnswersFor (HonestAt store.is_honest (set stores (k - 1) new)) (rows_changed k (λ _. (updated t selection shown).rows) now.files) (files_on (map store.fork (set stores (k - 1) new)) more))
      rows_seen t selection places more more_is written_is is =
          let bytes = written (saved_table (updated t selection (table_on (store.fork old) table))) in
          let placed = rows_changed k (λ rows. rows_placed selection 0 rows places) chain in
          of_table (λ shown. AnswersFor (HonestAt store.is_honest (set stores (k - 1) new)) (rows_changed k (λ _. (updated t selection shown).rows) now.files) (files_on (map store.fork (set stores (k - 1) new)) more))
          (λ known are.
          ap (λ (all : OpenFiles Place). known_files known (files_on (map store.fork (set stores (k - 1) new)) all)) more_is
          ∙ same_known known (map store.fork (set stores (k - 1) new)) (forks_now bytes) (λ n is. forks_agree bytes written_is n (are n is)) placed
          ∙ ap (known_files known) (rows_on_fork t selection places bytes is))

      -- the others, once it is closed
      closed_on : files_on (forks_now (store.fork new)) (file_closed k chain) ≡ files_on (map store.fork stores) (file_closed k chain)
      closed_on = by (is_open k chain) refl
        where
          from : AllByRecursion (λ (f : OpenFile Place). 1 ≤ f.number) chain.files
          from = from_one store.fork store.is_ready store.is_honest stores chain.files stand.each

          current : Option ℕ
          current = if is_current k chain then last_number (without k chain.files) else chain.current

          by : (b : Bool) → is_open k chain ≡ b → files_on (forks_now (store.fork new)) (if b then record { files = without k chain.files; current = current } else chain)
              ≡ files_on (map store.fork stores) (if b then record { files = without k chain.files; current = current } else chain)
          by true open_now = ap (λ (files : List (OpenFile (List ℕ))). let all : Files = record { files = files; current = current } in all)
              (rest_seen k low (map store.fork stores) (store.fork new) chain.files from stand.apart ∙ without-mapped (bytes_in (map store.fork stores)) k chain.files)
          by false none = ap (λ (files : List (OpenFile (List ℕ))). let all : Files = record { files = files; current = chain.current } in all) (others_seen k low (map store.fork stores) (store.fork new) chain.files from none)

      pub closed_seen : (more : OpenFiles Place) → more ≡ file_closed k chain → files_on (map store.fork (set stores (k - 1) new)) more ≡ file_closed k now.files
      closed_seen more more_is =
          ap (files_on (map store.fork (set stores (k - 1) new))) more_is
          ∙ ap (λ (all : List (List ℕ)). files_on all (file_closed k chain)) forks_set
          ∙ closed_on
          ∙ sym (closed-mapped (bytes_in (map store.fork stores)) k chain)
          ∙ ap (λ (v : FilesOn S). file_closed k v.files) view_is

      -- what is left on the disk then
      left_seen : (may_leave : List ℕ → List ℕ → List ℕ → Type 0) (t : HandleTable) (selection : Selection)
          → (store.is_honest new → may_leave (written (saved_table (updated t selection (table_on (store.fork old) table)))) (store.fork old) (store.fork new))
          → HonestAt store.is_honest (set stores (k - 1) new) k → IfSome (table_of k now.files) (λ shown. may_leave (written (saved_table (updated t selection shown))) (fork_of store.fork k now.stores) (fork_of store.fork k (set stores (k - 1) new)))
      left_seen may_leave t selection is honest =
          let new_bytes = written (saved_table (updated t selection (table_on (store.fork old) table))) in
          of_table (λ shown. may_leave (written (saved_table (updated t selection shown))) (fork_of store.fork k now.stores) (fork_of store.fork k (set stores (k - 1) new)))
          (rw (fork_is, fork_new) (is (honest_here honest)))

      -- the files are on the stores, once it is written
      pub stand_written : (selection : Selection) (places : List Place) (more : OpenFiles Place) → more ≡ rows_changed k (λ rows. rows_placed selection 0 rows places) chain
          → length places ≡ length table.rows → All IsNear places → (store.is_honest new → All (IsInside (store.fork new)) places) → (store.is_honest new → store.is_ready new)
          → StandOn store.fork store.is_ready store.is_honest (set stores (k - 1) new) more
      stand_written selection places more more_is long near inside ready = subst (StandOn store.fork store.is_ready store.is_honest (set stores (k - 1) new)) (sym more_is) whole
        where
          own : List (Row Place) → List (Row Place)
          own rows = rows_placed selection 0 rows places

          small_now : AreSmall (own table.rows)
          small_now = record { few = subst (λ (n : ℕ). n ≤ max_rows) (sym (long_placed selection 0 table.rows places)) small.few; grouped = placed_grouped selection 0 table.rows places small.grouped; near = all_at_places IsNear selection 0 table.rows places long near }

          holds_now : Holds store.fork store.is_ready store.is_honest (own table.rows) new
          holds_now honest = (ready honest, all_at_places (IsInside (store.fork new)) selection 0 table.rows places long (inside honest))

          still : (current : Option ℕ) → IfSome current (λ n. IsTrue (is_open n chain)) → IfSome current (λ n. IsTrue (is_open n (rows_changed k own chain)))
          still None open_now = open_now
          still (Some n) open_now = subst IsTrue (sym (any_changed n k own chain.files)) open_now

          whole : StandOn store.fork store.is_ready store.is_honest (set stores (k - 1) new) (rows_changed k own chain)
          whole = record {
            few = subst (λ (n : ℕ). n ≤ most_files) (sym (length-set stores (k - 1) new)) stand.few;
            each = one_stands k low store.fork store.is_ready store.is_honest stores new own chain.files stand.apart
                (subst (λ (found : Option (ResourceTable Place)). IfSome found (λ (table : ResourceTable Place). AreSmall (own table.rows) × Holds store.fork store.is_ready store.is_honest (own table.rows) new)) (sym here) (small_now, holds_now)) stand.each;
            apart = apart_changed k own chain.files stand.apart;
            current = still chain.current stand.current;
          }

      -- and once it is closed
      pub stand_left : (more : OpenFiles Place) → more ≡ file_closed k chain → StandOn store.fork store.is_ready store.is_honest (set stores (k - 1) new) more
      stand_left more more_is = subst (StandOn store.fork store.is_ready store.is_honest (set stores (k - 1) new)) (sym more_is) whole
        where
          before : StandOn store.fork store.is_ready store.is_honest stores (file_closed k chain)
          before = stand_closed store.fork store.is_ready store.is_honest stores k chain stand

          current : Option ℕ
          current = if is_current k chain then last_number (without k chain.files) else chain.current

          by : (b : Bool) → is_open k chain ≡ b → AllByRecursion (StandsOn store.fork store.is_ready store.is_honest (set stores (k - 1) new)) (if b then (let all : OpenFiles Place = record { files = without k chain.files; current = current } in all) else chain).files
          by true open_now = rest_stands k low store.fork store.is_ready store.is_honest stores new chain.files stand.apart stand.each
          by false none = others_stand k low store.fork store.is_ready store.is_honest stores new chain.files none stand.each

          whole : StandOn store.fork store.is_ready store.is_honest (set stores (k - 1) new) (file_closed k chain)
          whole = record {
            few = subst (λ (n : ℕ). n ≤ most_files) (sym (length-set stores (k - 1) new)) stand.few;
            each = by (is_open k chain) refl;
            apart = before.apart;
            current = before.current;
          }

      -- and where nothing was written
      pub stand_unwritten : {A : Type 0} (that : FileTable) (fault : UpdateFault) → (fault ≡ Device Later → ⊥)
          → (IsErrOf {T = A} {E = UpdateFault} (Err fault) TooBig → new ≡ old) → (IsErrOf {T = A} {E = UpdateFault} (Err fault) HostFull → new ≡ old)
          → (store.is_honest new → Writes store old new that (Err fault)) → StandOn store.fork store.is_ready store.is_honest (set stores (k - 1) new) chain
      stand_unwritten {A} that fault other untouched unasked known = by fault other untouched unasked known
        where
          kept : (store.is_honest new → store.is_honest old) → (store.is_honest new → (store.fork new ≡ store.fork old) × (store.is_ready old → store.is_ready new)) → StandOn store.fork store.is_ready store.is_honest (set stores (k - 1) new) chain
          kept same is = stand_set store.fork store.is_ready store.is_honest stores (k - 1) new old
              (λ h. (subst store.is_honest value (same h), (is h).0 ∙ ap store.fork value, λ then_ready. (is h).1 (subst store.is_ready (sym value) then_ready))) chain stand

          the_same : new ≡ old → StandOn store.fork store.is_ready store.is_honest (set stores (k - 1) new) chain
          the_same is = kept (subst store.is_honest is) (λ h. (ap store.fork is, subst store.is_ready (sym is)))

          by : (fault : UpdateFault) → (fault ≡ Device Later → ⊥)
              → (IsErrOf {T = A} {E = UpdateFault} (Err fault) TooBig → new ≡ old) → (IsErrOf {T = A} {E = UpdateFault} (Err fault) HostFull → new ≡ old)
              → (store.is_honest new → Writes store old new that (Err fault)) → StandOn store.fork store.is_ready store.is_honest (set stores (k - 1) new) chain
          by TooBig other untouched unasked known = the_same (untouched refl)
          by HostFull other untouched unasked known = the_same (unasked refl)
          by (Device BeforeFirstWrite) other untouched unasked known =
              kept (λ h. (known h).replaces.honest) (λ h. (((known h).replaces.before refl).same, λ _. ((known h).replaces.before refl).ready))
          by (Device Later) other untouched unasked known = absurd (other refl)

      -- what an update does to the store
      was_honest : (store.is_honest new → store.is_honest old) → HonestAt store.is_honest (set stores (k - 1) new) k → HonestAt store.is_honest now.stores k
      was_honest same honest = same_honest store.fork store.is_honest chain loads stores now view_is (k - 1) within old new value same k honest

      moments : (t : HandleTable) (selection : Selection)
          → (store.is_honest new → AlwaysFinds store.may_find (FoundBeforeOr store.may_find (store.history old) (written (saved_table (updated t selection (table_on (store.fork old) table))))) (store.history old) (store.history new))
          → HonestAt store.is_honest (set stores (k - 1) new) k → IfSome (table_of k now.files) (λ shown. AlwaysFinds store.may_find
          (FoundBeforeOr store.may_find (history_of store.history k now.stores) (written (saved_table (updated t selection shown)))) (history_of store.history k now.stores) (history_of store.history k (set stores (k - 1) new)))
      moments t selection finds honest =
          of_table (λ shown. AlwaysFinds store.may_find
          (FoundBeforeOr store.may_find (history_of store.history k now.stores) (written (saved_table (updated t selection shown)))) (history_of store.history k now.stores) (history_of store.history k (set stores (k - 1) new)))
          (found_always store.fork store.is_honest store.history chain loads stores now view_is k within old new value store.may_find
          (λ past. FoundBeforeOr store.may_find past (written (saved_table (updated t selection (table_on (store.fork old) table))))) finds honest)

      pub updates_ok : {T : Type 0} (t : HandleTable) (selection : Selection) (places : Vec Place Global) (x : T)
          → (store.is_honest new → Writes store old new (updated t selection (table_on (store.fork old) table)) (Ok places)) → HonestAt store.is_honest (set stores (k - 1) new) k
          → UpdatesStore store k (updated t selection) now.files now.stores (set stores (k - 1) new) (Ok x)
      updates_ok t selection places x known honest = record {
        honest = was_honest (λ h. (known h).replaces.honest) honest;
        replaced = written_seen t selection (λ h. (known h).replaces.replaced) honest;
        stands = stands_seen t selection (λ h. (known h).stands) honest;
        before = λ told. absurd (cc told);
        later = λ told. absurd (cc told);
        any_moment = moments t selection (λ h. (known h).replaces.any_moment) honest;
        settled = λ journalled. found_there store.fork store.is_honest store.history chain loads stores now view_is k within old new value store.may_find
            (λ h. store.ready_finds new journalled h (known h).replaces.ready) honest;
      }

      pub updates_err : {T : Type 0} (t : HandleTable) (selection : Selection) (fault : UpdateFault)
          → (store.is_honest new → Writes store old new (updated t selection (table_on (store.fork old) table)) (Err fault)) → HonestAt store.is_honest (set stores (k - 1) new) k
          → UpdatesStore {T = T} store k (updated t selection) now.files now.stores (set stores (k - 1) new) (Err fault)
      updates_err t selection fault known honest = record {
        honest = was_honest (λ h. (known h).replaces.honest) honest;
        replaced = tt;
        stands = tt;
        before = λ told. record {
          honest = was_honest (λ h. (known h).replaces.honest) honest;
          fork = same_values store.fork store.is_honest chain loads stores now view_is (k - 1) within old new value store.fork []
              (λ h. ((known h).replaces.before (fault_as fault (Device BeforeFirstWrite) told)).same) k honest;
          calm = same_values store.fork store.is_honest chain loads stores now view_is (k - 1) within old new value store.history []
              (λ h. ((known h).replaces.before (fault_as fault (Device BeforeFirstWrite) told)).calm) k honest;
        };
        later = λ told. left_seen store.may_leave t selection (λ h. (known h).replaces.left (fault_as fault (Device Later) told)) honest;
        any_moment = moments t selection (λ h. (known h).replaces.any_moment) honest;
        settled = tt;
      }
