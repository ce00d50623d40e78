-- What a call does to the stores of the resource files, of each store whose device is honest after it. It was so
-- before.
use Rattle.std.specs.Prelude.{◌≡◌, ℕ, List, Result, ⊤, IfOk, IfErr, OnOk, IfSome, IsErrOf, Ok}
use Rattle.mac_base.specs.declared.error.HostFull.{HostFull}
use Rattle.mac_base.specs.declared.error.OsErr.{OsErr}
use Rattle.fork_bytes.specs.Fork.{StandsFor}
use Rattle.fork_bytes.specs.Written.{written}
use Rattle.fork_disk.specs.declared.store.ForkStore.{Ghosts}
use Rattle.fork_disk.specs.declared.store.ReplaceFault.TheVariants.{BeforeFirstWrite, Later}
use Rattle.fork_disk.specs.Crash.{AlwaysFinds, Finds, FoundBeforeOr}
use Rattle.fork_bytes.specs.declared.place.Place.{Place}
use Rattle.fork_rows.specs.declared.fault.OpenFault.{OpenFault}
use Rattle.res_table.specs.declared.chain.ResourceTable.{ResourceTable}
use Rattle.res_table.specs.OpenFiles.{table_of}
use Rattle.res_update.specs.Changes.{Files, FileTable, saved_table}
use Rattle.res_update.specs.Device.{Reads}
use Rattle.res_update.specs.declared.fault.UpdateFault.{UpdateFault}
use Rattle.res_update.specs.declared.fault.UpdateFault.TheVariants.{Device}
use Rattle.res_update.specs.Placed.{table_on, AreInside}
use Rattle.res_files.specs.Crash.{history_of}
use Rattle.res_files.specs.FilesOn.{HonestAt, fork_of}
use Rattle.res_files.specs.Opening.{RefusesFile}

-- The table of a fork is read once its store was made ready. The fork is the same, and a start finds what it might have
-- found before.
pub record ReadsTable {S : Type 0} (store : Ghosts S) (old new : S) (result : Result (ResourceTable Place) OpenFault) : Type 0 where
  pub honest : store.is_honest old
  pub same : store.fork new ≡ store.fork old
  pub ready : OnOk result (store.is_ready new)
  pub still : store.is_ready old → store.is_ready new
  pub any_moment : AlwaysFinds store.may_find (store.may_find (store.history old)) (store.history old) (store.history new)
  pub reads : IfOk result (λ table. Reads (store.fork old) (Ok (table_on (store.fork old) table)))
  pub inside : IfOk result (λ table. AreInside (store.fork old) table.rows)
  pub refuses : IfErr result (RefusesFile (store.fork old))

-- The store of the file of a number is read at most: its device was honest, the fork is the same, and nothing happened
-- to the device.
pub record KeepsStore {S : Type 0} (store : Ghosts S) (number : ℕ) (old new : List S) : Type 0 where
  pub honest : HonestAt store.is_honest old number
  pub fork : fork_of store.fork number new ≡ fork_of store.fork number old
  pub calm : history_of store.history number new ≡ history_of store.history number old

-- so is each store whose device is honest
abbrev pub KeepsStores : {S : Type 0} → Ghosts S → List S → List S → Type 0
KeepsStores store old new = (k : ℕ) → HonestAt store.is_honest new k → KeepsStore store k old new

-- where there is a journal, a start finds the file of a number as it is read
abbrev pub FindsAsRead : {S : Type 0} → Ghosts S → ℕ → List S → Type 0
FindsAsRead store number stores = store.has_journal → Finds store.may_find (λ found. found ≡ fork_of store.fork number stores) (history_of store.history number stores)

-- The file of a number is opened, or can't be, where its device is honest. Whenever a crash comes, a start finds a fork
-- that it might have found before.
pub record OpensStore {S : Type 0} (store : Ghosts S) (number : ℕ) (old new : List S) (result : Result (Result ⊤ OsErr) HostFull) : Type 0 where
  pub honest : HonestAt store.is_honest old number
  pub fork : fork_of store.fork number new ≡ fork_of store.fork number old
  pub any_moment : AlwaysFinds store.may_find (store.may_find (history_of store.history number old)) (history_of store.history number old) (history_of store.history number new)
  pub settled : IfOk result (λ done. OnOk done (FindsAsRead store number new))

-- The file of a number is written as the table that this makes of its own, and is read as it, where its device is
-- honest. Whenever a crash comes, a start finds a fork that it might have found before, or the new one.
pub record UpdatesStore {S T : Type 0} (store : Ghosts S) (number : ℕ) (updated : FileTable → FileTable) (files : Files) (old new : List S) (result : Result T UpdateFault) : Type 0 where
  pub honest : HonestAt store.is_honest old number
  pub replaced : OnOk result (IfSome (table_of number files) (λ table. fork_of store.fork number new ≡ written (saved_table (updated table))))
  pub stands : OnOk result (IfSome (table_of number files) (λ table. StandsFor (fork_of store.fork number new) (saved_table (updated table))))
  pub before : IsErrOf result (Device BeforeFirstWrite) → KeepsStore store number old new
  pub later : IsErrOf result (Device Later) → IfSome (table_of number files) (λ table.
      store.may_leave (written (saved_table (updated table))) (fork_of store.fork number old) (fork_of store.fork number new))
  pub any_moment : IfSome (table_of number files) (λ table. AlwaysFinds store.may_find
      (FoundBeforeOr store.may_find (history_of store.history number old) (written (saved_table (updated table))))
      (history_of store.history number old) (history_of store.history number new))
  pub settled : OnOk result (FindsAsRead store number new)
