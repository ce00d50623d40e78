-- What is learned of a disk that is only read.
use Rattle.std.specs.Prelude.{◌≡◌, ℕ, List, Result, MatchResult}
use Rattle.fork_disk.specs.declared.disk.ForkDisk.{Ghosts}
use Rattle.fork_disk.specs.Disk.{Rose}
use Rattle.fork_disk.specs.OnDisk.{KeepsDisk}
use Rattle.hfs_tree.specs.declared.fault.ReadFault.{ReadFault}
use Rattle.hfs_tree.specs.declared.fault.ReadFault.TheVariants.{Device, Host}

-- the disk is as it was, and this holds of its bytes
pub record Learns {D : Type 0} (disk : Ghosts D) (old new : D) (P : List ℕ → Type 0) : Type 0 where
  pub keeps : KeepsDisk disk.seen disk.is_honest disk.is_stable old new
  pub known : P (disk.seen old)

-- an honest disk has bytes of which this holds
abbrev pub HasBytes : {D : Type 0} → Ghosts D → D → (List ℕ → Type 0) → Type 0
HasBytes disk d P = disk.is_honest d → P (disk.seen d)

-- the count of failures rose where the device failed, and only there
abbrev pub cause_of : ℕ → ℕ → ReadFault → Type 0
cause_of before now Device = Rose before now
cause_of before now Host = now ≡ before

abbrev pub CountsReads : {T : Type 0} → ℕ → ℕ → Result T ReadFault → Type 0
CountsReads before now result = MatchResult result (λ _. now ≡ before) (cause_of before now)
