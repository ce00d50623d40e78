-- What a call that reads some of a resource's bytes does to the resource files.
use Rattle.std.specs.Prelude.{ℕ, List, length}
use Rattle.fork_disk.specs.declared.store.ForkStore.{Ghosts}
use Rattle.mac_base.specs.HandleTable.{is_full}
use Rattle.mac_base.specs.ZoneState.{ZoneState}
use Rattle.res_update.specs.declared.partial_end.PartialEnd.{PartialEnd}
use Rattle.res_update.specs.Partial.{ReadsPart, part_asked}
use Rattle.res_files.specs.FilesOn.{FailedAt, FilesOn, HonestAt, NoneFailed}

-- Over these files, a call for as many bytes as there were before it, from an offset on of the resource with a handle,
-- may end so and leave these, by what the devices answered.
abbrev pub ReadsPartOn : {S : Type 0} → Ghosts S → ZoneState → FilesOn S → ℕ → ℕ → List ℕ → List ℕ → PartialEnd → FilesOn S → Type 0
ReadsPartOn store zone old h at before after end new = ReadsPart (HonestAt store.is_honest new.stores) (NoneFailed store.failures old.stores new.stores)
    (λ k. FailedAt store.failures k old.stores new.stores) (is_full zone.heap.table h) at before after old.files (part_asked h at (length before) old.files) end
