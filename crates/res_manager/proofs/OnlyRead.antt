-- A call that reads disks at most leaves the state as it was.
use Rattle.std.proofs.Common.{◌≡◌, length, refl, sym, ◌∙◌}
use Rattle.std.proofs.lemmas.List.{length-map}
use Rattle.fork_disk.specs.declared.store.ForkStore.{Ghosts}
use Rattle.mac_base.specs.ZoneState.{ZoneState}
use Rattle.res_update.specs.Answered.{AnswersFor, IsAnswered}
use Rattle.res_files.specs.FilesOn.{FilesOn, HonestAt}
use Rattle.res_files.specs.Stores.{KeepsStores}
use Rattle.res_manager.proofs.Known.{answered-parts}
use Rattle.res_manager.proofs.OpenedFiles.{disk-fork}
use Rattle.res_manager.specs.Steps.{state_of}

pub only_read : {S : Type 0} (store : Ghosts S) (zone : ZoneState) (old new : FilesOn S) → AnswersFor (HonestAt store.is_honest new.stores) old.files new.files → new.loads ≡ old.loads → length new.stores ≡ length old.stores
    → KeepsStores store old.stores new.stores → IsAnswered (HonestAt store.is_honest new.stores) (state_of store.fork zone old) (state_of store.fork zone new)
only_read store zone old new files loads count keeps =
    answered-parts (HonestAt store.is_honest new.stores) (state_of store.fork zone old) (state_of store.fork zone new) refl refl files loads
    (length-map new.stores store.fork ∙ count ∙ sym (length-map old.stores store.fork))
    (λ k low honest. disk-fork store.fork zone new k ∙ (keeps k honest).fork ∙ sym (disk-fork store.fork zone old k))
