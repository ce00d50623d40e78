-- What stays of the toolbox from one call to the next.
use Rattle.std.specs.Prelude.{ℕ, List, map, Option}
use Rattle.mac_base.specs.declared.error.OsErr.{OsErr}
use Rattle.mac_base.specs.HeadKind.{Shape}
use Rattle.mac_base.specs.Heap.{Heap}
use Rattle.mac_base.specs.LoanStep.{Loans}
use Rattle.fork_disk.specs.declared.store.ForkStore.{Ghosts}
use Rattle.res_update.specs.Changes.{handles_forgotten}
use Rattle.res_update.specs.Files.{ResState}
use Rattle.res_files.specs.FilesOn.{FilesOn, HonestAt}

-- where the zone lies, its heap, the blocks that are lent with what was written to them, and the code of the last call
-- of the Memory Manager or on a loan; the resource files with their stores, and the code of the last call of the
-- Resource Manager. There is no code where that call succeeded, or where there was none
pub record ToolState (S : Type 0) : Type 0 where
  pub shape : Shape
  pub heap : Heap
  pub loans : Loans
  pub refused : Option OsErr
  pub resources : FilesOn S
  pub resource_refused : Option OsErr

-- the zone and the resource files as the Resource Manager's calls see them: the disk of a file is the fork of its store
abbrev pub resource_state : {S : Type 0} → Ghosts S → ToolState S → ResState
resource_state store t = record { shape = t.shape; heap = t.heap; files = t.resources.files; loads = t.resources.loads; disks = map store.fork t.resources.stores }

-- The device of the file of a number returns what was written, and nobody else writes it: what is said of the bytes of
-- a file rests on the honesty of its own device.
abbrev pub IsHonest : {S : Type 0} → Ghosts S → ToolState S → ℕ → Type 0
IsHonest store t = HonestAt store.is_honest t.resources.stores

-- the files, in which no row has any of these handles
abbrev pub without_handles : {S : Type 0} → List ℕ → FilesOn S → FilesOn S
without_handles hs on = record on { files = handles_forgotten hs on.files }
