-- A file is opened on its store: how the files are on the stores then, and how they are seen.
use Rattle.std.proofs.Common.{◌≡◌, refl, sym, ap, ◌∙◌, subst, arith, ℕ, ◌-◌, ◌<◌, ◌≤◌, List, [], length, map, set, get_or, slice_get, unwrap_or, Bool, false, Option, Some, Result, Ok, Err, OnOk, OnErr, IfOk, ◌⊎◌, inl, inr}
use Rattle.std.specs.Prelude.{IsFalse, ⊤}
use Rattle.std.specs.Option.{option_map, option_map_or}
use Rattle.std.proofs.lemmas.List.{length-set}
use Rattle.std.proofs.lemmas.Option.{slice_get-map, slice_get_read}
use Rattle.mac_base.specs.declared.error.HostFull.{HostFull}
use Rattle.mac_base.specs.declared.error.OsErr.{OsErr}
use Rattle.mac_base.specs.declared.error.OsErr.TheVariants.{IoErr}
use Rattle.fork_disk.specs.declared.store.ForkStore.{Ghosts}
use Rattle.fork_disk.specs.Disk.{Rose}
use Rattle.fork_bytes.specs.declared.place.Place.{Place}
use Rattle.fork_rows.specs.declared.fault.OpenFault.{OpenFault}
use Rattle.fork_rows.specs.Opening.{CountsFault}
use Rattle.res_table.specs.declared.chain.ResourceTable.{ResourceTable}
use Rattle.res_table.specs.declared.chain.OpenFile.{OpenFile}
use Rattle.res_table.specs.OpenFiles.{OpenFiles, is_open, file_opened}
use Rattle.res_update.specs.Answered.{IsOpening}
use Rattle.res_update.specs.Changes.{Files, FileTable}
use Rattle.res_update.specs.Device.{Reads}
use Rattle.res_update.specs.Placed.{table_on, AreInside, Holds}
use Rattle.res_files.specs.FilesOn.{FilesOn, FailedAt, HonestAt, NoneFailed, fork_of}
use Rattle.res_files.specs.Opening.{RefusesFile, MayRead, code_of}
use Rattle.res_files.specs.Standing.{fork_at, files_on, AreSmall, StandOn}
use Rattle.res_files.specs.Stores.{ReadsTable, FindsAsRead, OpensStore}
use Rattle.res_files.proofs.Crash.{found_always, found_there}
use Rattle.res_files.proofs.Mapped.{open-mapped, opened-mapped, set-mapped}
use Rattle.res_files.proofs.On.{seen, bytes_in, asked}
use Rattle.res_files.proofs.Stands.{stand_opened}
use Rattle.res_files.proofs.Stores.{get_set, new_set, stand_set}
use Rattle.res_files.proofs.TablesRead.{told_by_code}
use Rattle.res_files.proofs.Written.{from_one, others_seen}
use Rattle.res_files.proofs.Using.{mine, same_honest, same_values, none_failed, this_failed}

module _ {S : Type 0} (store : Ghosts S) (chain : OpenFiles Place) (loads : Bool) (stores : List S) (now : FilesOn S) (view_is : seen store.fork chain loads stores ≡ now)
    (k : ℕ) (low : 1 ≤ k) (high : k ≤ length now.stores) (old new : S) (value : old ≡ get_or stores (k - 1) old)
    (read : Result (ResourceTable Place) OpenFault) (known : store.is_honest new → ReadsTable store old new read) where
  same : store.is_honest new → store.is_honest old
  same h = (known h).honest

  forks : store.is_honest new → store.fork new ≡ store.fork old
  forks h = (known h).same

  stores_are : now.stores ≡ stores
  stores_are = ap (λ (v : FilesOn S). v.stores) (sym view_is)

  there : k ≤ length stores
  there = subst (λ (xs : List S). k ≤ length xs) stores_are high

  pub within : k - 1 < length stores
  within = omega (arith, low, there)

  pub here : slice_get stores (k - 1) ≡ Some old
  here = slice_get_read stores (length stores) (k - 1) old refl within value

  -- the files are still on the stores
  pub stand_kept : StandOn store.fork store.is_ready store.is_honest stores chain → StandOn store.fork store.is_ready store.is_honest (set stores (k - 1) new) chain
  stand_kept stand = stand_set store.fork store.is_ready store.is_honest stores (k - 1) new old
      (λ h. (subst store.is_honest value (same h), forks h ∙ ap store.fork value, λ ready. (known h).still (subst store.is_ready (sym value) ready))) chain stand

  -- so is the one that is opened
  pub stand_more : (table : ResourceTable Place) → is_open k chain ≡ false → AreSmall table.rows → (store.is_honest new → AreInside (store.fork old) table.rows) → (store.is_honest new → store.is_ready new)
      → StandOn store.fork store.is_ready store.is_honest stores chain → StandOn store.fork store.is_ready store.is_honest (set stores (k - 1) new) (file_opened k table chain)
  stand_more table closed small inside ready stand =
      let held : Holds store.fork store.is_ready store.is_honest table.rows new = λ h. (ready h, subst (λ (bytes : List ℕ). AreInside bytes table.rows) (sym (forks h)) (inside h)) in
      stand_opened store.fork store.is_ready store.is_honest (set stores (k - 1) new) k table chain closed low (subst (λ (n : ℕ). k ≤ n) (sym (length-set stores (k - 1) new)) there) small
      (new_set (Holds store.fork store.is_ready store.is_honest table.rows) stores (k - 1) new held)
      (stand_kept stand)

  -- a file that isn't seen open isn't
  pub closed_there : IsFalse (is_open k now.files) → is_open k chain ≡ false
  closed_there closed = asked store.fork chain loads stores now view_is (is_open k) (is_open k chain) (sym (open-mapped (bytes_in (map store.fork stores)) k chain)) ∙ closed

  -- the files that are open are seen as before: none of them is on this store
  pub files_kept : StandOn store.fork store.is_ready store.is_honest stores chain → IsFalse (is_open k now.files) → files_on (map store.fork (set stores (k - 1) new)) chain ≡ now.files
  files_kept stand closed =
      ap (λ (forks : List (List ℕ)). files_on forks chain) (sym (set-mapped store.fork stores (k - 1) new))
      ∙ ap (λ (files : List (OpenFile (List ℕ))). let all : Files = record { files = files; current = chain.current } in all)
      (others_seen k low (map store.fork stores) (store.fork new) chain.files (from_one store.fork store.is_ready store.is_honest stores chain.files stand.each) (closed_there closed))
      ∙ ap (λ (v : FilesOn S). v.files) view_is

  fork_is : fork_of store.fork k now.stores ≡ store.fork old
  fork_is = ap (λ (xs : List S). fork_of store.fork k xs) stores_are ∙ ap (λ (found : Option S). option_map_or store.fork found []) here

  fork_there : fork_at (map store.fork (set stores (k - 1) new)) k ≡ store.fork new
  fork_there = ap (λ (o : Option (List ℕ)). unwrap_or o []) (slice_get-map store.fork (set stores (k - 1) new) (k - 1) ∙ ap (option_map store.fork) (get_set stores (k - 1) new within))

  -- what is seen of the one that is opened
  pub seen_more : (table : ResourceTable Place) (more : OpenFiles Place) → more ≡ file_opened k table chain → StandOn store.fork store.is_ready store.is_honest stores chain → IsFalse (is_open k now.files)
      → ((bytes : List ℕ) → IsOpening (Ok (table_on bytes table))) → (store.is_honest new → Reads (store.fork old) (Ok (table_on (store.fork old) table)))
      → (t : FileTable) × MayRead (HonestAt store.is_honest (set stores (k - 1) new) k) (fork_of store.fork k now.stores) (Ok t) × (files_on (map store.fork (set stores (k - 1) new)) more ≡ file_opened k t now.files)
  seen_more table more is stand closed opening reads = (
    table_on (store.fork new) table,
    (
      opening (store.fork new),
      λ honest.
          let was = mine store.fork store.is_honest chain loads stores now view_is (k - 1) within old new value honest in
          subst (λ (bytes : List ℕ). Reads bytes (Ok (table_on (store.fork new) table))) (sym fork_is) (subst (λ (bytes : List ℕ). Reads (store.fork old) (Ok (table_on bytes table))) (sym (forks was)) (reads was)),
    ),
    ap (files_on (map store.fork (set stores (k - 1) new))) is
        ∙ sym (opened-mapped (bytes_in (map store.fork (set stores (k - 1) new))) k table chain)
        ∙ ap (λ (bytes : List ℕ). file_opened k (table_on bytes table) (files_on (map store.fork (set stores (k - 1) new)) chain)) fork_there
        ∙ ap (file_opened k (table_on (store.fork new) table)) (files_kept stand closed),
  )

  -- what the code of a fault says
  pub seen_refused : (failures : S → ℕ) (fault : OpenFault) (c : OsErr) → Ok c ≡ code_of fault → (store.is_honest new → RefusesFile (store.fork old) fault) → CountsFault (failures old) (failures new) fault
      → (MayRead (HonestAt store.is_honest (set stores (k - 1) new) k) (fork_of store.fork k now.stores) (Err c) × NoneFailed failures now.stores (set stores (k - 1) new))
      ⊎ ((c ≡ IoErr) × FailedAt failures k now.stores (set stores (k - 1) new))
  seen_refused failures fault c is told counts = by (told_by_code (store.is_honest new) (store.fork old) (failures old) (failures new) fault c is told counts)
    where
      by : (IsOpening (Err c) × (store.is_honest new → Reads (store.fork old) (Err c)) × (failures new ≡ failures old)) ⊎ ((c ≡ IoErr) × Rose (failures old) (failures new))
          → (MayRead (HonestAt store.is_honest (set stores (k - 1) new) k) (fork_of store.fork k now.stores) (Err c) × NoneFailed failures now.stores (set stores (k - 1) new))
          ⊎ ((c ≡ IoErr) × FailedAt failures k now.stores (set stores (k - 1) new))
      by (inl refused) = inl (
        (refused.0, λ honest. subst (λ (bytes : List ℕ). Reads bytes (Err c)) (sym fork_is) (refused.1 (mine store.fork store.is_honest chain loads stores now view_is (k - 1) within old new value honest))),
        none_failed store.fork store.is_honest chain loads stores now view_is (k - 1) within old new value failures refused.2,
      )
      by (inr failed) = inr (failed.0, this_failed store.fork store.is_honest chain loads stores now view_is (k - 1) within old new value failures failed.1)

  -- a start finds what is read, once the store is ready
  pub found_as_read : (store.is_honest new → store.is_ready new) → HonestAt store.is_honest (set stores (k - 1) new) k → FindsAsRead store k (set stores (k - 1) new)
  found_as_read ready honest journalled =
      found_there store.fork store.is_honest store.history chain loads stores now view_is k within old new value store.may_find (λ h. store.ready_finds new journalled h (ready h)) honest

  -- what an opening does to the stores
  pub opens_store : (result : Result (Result ⊤ OsErr) HostFull) → (HonestAt store.is_honest (set stores (k - 1) new) k → IfOk result (λ done. OnOk done (FindsAsRead store k (set stores (k - 1) new))))
      → HonestAt store.is_honest (set stores (k - 1) new) k → OpensStore store k now.stores (set stores (k - 1) new) result
  opens_store result settled honest = record {
    honest = same_honest store.fork store.is_honest chain loads stores now view_is (k - 1) within old new value same k honest;
    fork = same_values store.fork store.is_honest chain loads stores now view_is (k - 1) within old new value store.fork [] forks k honest;
    any_moment = found_always store.fork store.is_honest store.history chain loads stores now view_is k within old new value store.may_find store.may_find (λ h. (known h).any_moment) honest;
    settled = settled honest;
  }

-- what holds in any case holds where there is an error
pub on_err : {A E : Type 0} (r : Result A E) (P : Type 0) → P → OnErr r P
on_err (Ok x) P holds = tt
on_err (Err e) P holds = holds
