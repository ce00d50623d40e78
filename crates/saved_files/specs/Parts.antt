-- The files that bytes say.
use Rattle.std.specs.Prelude.{◌≡◌, ◌≤◌, ℕ, ◌==◌, false, if◌then◌else◌, List, length, map, Option, None, Some}
use Rattle.fork_bytes.specs.declared.place.Place.{Place}
use Rattle.res_table.specs.declared.chain.ResourceTable.{ResourceTable}
use Rattle.res_table.specs.OpenFiles.{OpenFiles, file_used, is_open}
use Rattle.res_files.specs.Standing.{fork_at}
use Rattle.res_update.specs.Device.{Disk}
use Rattle.res_update.specs.Placed.{AreInside, AreNear}
use Rattle.saved_files.specs.declared.loading.SavedFiles.{SavedFiles}
use Rattle.saved_files.specs.Saved.{Saved}
use Rattle.saved_files.specs.Sound.{disk_of}

-- what is saved of files
abbrev pub saved_in : SavedFiles → Saved
saved_in files = record { chain = files.chain; loads = files.loads; disks = map disk_of files.stores.items }

-- the chain with this current file, if there is one
abbrev pub used : Option ℕ → OpenFiles Place → OpenFiles Place
used None chain = chain
used (Some number) chain = file_used number chain

-- the current file of a byte: none for 0
abbrev pub current_in : ℕ → Option ℕ
current_in byte = if byte == 0 then None else Some byte

-- a file of this number and table can be opened after others, on its fork
pub record CanOpen (disks : List Disk) (chain : OpenFiles Place) (number : ℕ) (table : ResourceTable Place) : Type 0 where
  pub from_one : 1 ≤ number
  pub to_count : number ≤ length disks
  pub closed : is_open number chain ≡ false
  pub inside : AreInside (fork_at disks number) table.rows
  pub near : AreNear table.rows
