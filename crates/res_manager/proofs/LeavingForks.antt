-- What calls leave of the forks, by what was done to the stores.
use Rattle.std.proofs.Common.{◌≡◌, refl, true, List, [], Option, Some, None, Result, Ok, Err, ℕ, ap, subst, sym}
use Rattle.std.specs.Prelude.{IfOk, IfSome, OnOk, OnErr, ⊤}
use Rattle.std.specs.Option.{option_map_or}
use Rattle.mac_base.specs.HandleTable.{HandleTable}
use Rattle.mac_base.specs.ZoneState.{ZoneState}
use Rattle.mac_base.specs.declared.error.HostFull.{HostFull}
use Rattle.mac_base.specs.declared.error.OsErr.{OsErr}
use Rattle.mac_base.specs.declared.resource_call.ResourceCall.{ResourceCall}
use Rattle.mac_base.specs.Outcomes.{Outcome}
use Rattle.fork_disk.specs.declared.store.ForkStore.{Ghosts}
use Rattle.res_table.specs.OpenFiles.{is_open}
use Rattle.res_update.specs.Changes.{FileTable, Files}
use Rattle.res_update.specs.Steps.{IsSaved, update_in, work_of}
use Rattle.res_update.specs.Updates.{Update, update_of}
use Rattle.res_update.specs.Selected.{updated}
use Rattle.res_update.specs.declared.fault.UpdateFault.{UpdateFault}
use Rattle.res_update.specs.declared.selection.Selection.{Selection}
use Rattle.res_files.specs.FilesOn.{FilesOn, HonestAt, WereHonest}
use Rattle.res_files.specs.Crash.{OthersStay, history_of}
use Rattle.res_files.specs.Stores.{KeepsStores, OpensStore, UpdatesStore}
use Rattle.res_manager.specs.Crash.{CrashLeaves, IsSettled, LeavesForks, OpensFork, SavesFork}
use Rattle.res_manager.specs.Steps.{state_of}
use Rattle.res_manager.proofs.CalmCalls.{IsIdle, calm_reads, calm_settles}
use Rattle.res_manager.proofs.Crash.{calm_leaves, made_file, open_leaves, work_leaves, work_settles, changed_leaves}
use Rattle.res_manager.proofs.Keeping.{kept_same, one_kept}
use Rattle.res_manager.proofs.ReadingBack.{made_reads}
use Rattle.res_manager.proofs.Stepping.{if_ok}
use Rattle.res_manager.proofs.UpdatingCalls.{Makes, on_err}

module _ {S : Type 0} (store : Ghosts S) (k : ℕ) (old new : List S) (others : OthersStay k old new) where
  -- a device that is honest was so, where that of the one file was
  were_honest : (HonestAt store.is_honest new k → HonestAt store.is_honest old k) → WereHonest store.is_honest old new
  were_honest here = one_kept k old new others (λ was now. IfSome now store.is_honest → IfSome was store.is_honest) (λ o honest. honest) here

  -- a file is opened, or isn't
  pub opens_fork : {E : Type 0} (opening : Result (Result ⊤ OsErr) HostFull) (result : Result Outcome E) → (HonestAt store.is_honest new k → OpensStore store k old new opening)
      → IfOk result (λ outcome. OnOk outcome (IsSettled store (Some k) new)) → OpensFork store k old new result
  opens_fork opening result opens settled = record {
    works = record { honest = were_honest (λ honest. (opens honest).honest); any_moment = open_leaves store old new k others (λ honest. (opens honest).any_moment); settled = settled };
    forks = one_kept k old new others (λ was now. IfSome now store.is_honest → option_map_or store.fork now [] ≡ option_map_or store.fork was []) (λ o honest. refl) (λ honest. (opens honest).fork);
  }

-- a file is written, or isn't
pub saves_changed : {S T E : Type 0} (store : Ghosts S) (zone : ZoneState) (k : ℕ) (change : FileTable → FileTable) (files : Files) (old : List S) (after : FilesOn S) (writing : Result T UpdateFault) (result : Result Outcome E)
    → is_open k files ≡ true → (HonestAt store.is_honest after.stores k → UpdatesStore store k change files old after.stores writing) → OthersStay k old after.stores
    → IfOk result (λ outcome. OnOk outcome (IsSettled store (Some k) after.stores))
    → IfOk result (λ outcome. OnOk outcome (IsSaved (HonestAt store.is_honest after.stores) (update_of k change files) (state_of store.fork zone after)))
    → SavesFork store k (update_of k change files) old zone after result
saves_changed store zone k change files old after writing result there updates others settled saved = record {
  works = record {
    honest = were_honest store k old after.stores others (λ honest. (updates honest).honest);
    any_moment = changed_leaves store old after.stores k change files writing there updates others;
    settled = settled;
  };
  saved = saved;
}

-- the same with the contents of a zone
pub saves_fork : {S T E : Type 0} (store : Ghosts S) (contents : HandleTable) (zone : ZoneState) (selection : Selection) (k : ℕ) (files : Files) (old : List S) (after : FilesOn S) (writing : Result T UpdateFault) (result : Result Outcome E)
    → contents ≡ zone.heap.table → is_open k files ≡ true → (HonestAt store.is_honest after.stores k → UpdatesStore store k (updated contents selection) files old after.stores writing) → OthersStay k old after.stores
    → IfOk result (λ outcome. OnOk outcome (IsSettled store (Some k) after.stores))
    → IfOk result (λ outcome. OnOk outcome (IsSaved (HonestAt store.is_honest after.stores) (update_of k (updated zone.heap.table selection) files) (state_of store.fork zone after)))
    → SavesFork store k (update_of k (updated zone.heap.table selection) files) old zone after result
saves_fork store contents zone selection k files old after writing result same there updates others settled saved =
    let Q : HandleTable → Type 0 = λ table. HonestAt store.is_honest after.stores k → UpdatesStore store k (updated table selection) files old after.stores writing in
    saves_changed store zone k (updated zone.heap.table selection) files old after writing result there (subst Q same updates) others settled saved

-- so a call leaves the forks that makes this update
pub made_leaves : {S E : Type 0} (store : Ghosts S) (zone new : ZoneState) (on after : FilesOn S) (c : ResourceCall) (k : ℕ) (change : FileTable → FileTable) (u : Update) (result : Result Outcome E) → update_of k change on.files ≡ Some u
    → Makes store.fork zone on c u → OnErr result (after ≡ on) → SavesFork store k (update_of k change on.files) on.stores new after result → LeavesForks store zone on c result new after
made_leaves {S} store zone new on after c k change u result is made same saves =
    let work = work_of (state_of store.fork zone on) c in record {
      honest = saves.works.honest;
      reads_back = if_ok _ _ result (λ outcome saved. made_reads (HonestAt store.is_honest after.stores) store.fork zone on c u (update_of k change on.files) outcome (state_of store.fork new after) made is saved) saves.saved;
      any_moment = work_leaves store on.stores after.stores work (Some u) result (ap update_in made.work) (subst (λ (o : Option Update). CrashLeaves store o on.stores after.stores) is saves.works.any_moment);
      settled = work_settles store after.stores work (Some k) result (made_file store.fork zone on c k change u is made) saves.works.settled;
      crash_full = on_err _ _ result (λ unchanged. calm_leaves store on.stores after.stores None (λ n honest. ap (λ (f : FilesOn S). history_of store.history n f.stores) unchanged)) same;
    }

-- a call that at most reads files leaves the forks as they were
pub idle_leaves : {S E : Type 0} (store : Ghosts S) (old new : ZoneState) (on after : FilesOn S) (c : ResourceCall) (result : Result Outcome E) → KeepsStores store on.stores after.stores → IsIdle (work_of (state_of store.fork old on) c)
    → LeavesForks store old on c result new after
idle_leaves store old new on after c (Ok outcome) kept idle =
    let work = work_of (state_of store.fork old on) c in record {
      honest = λ k honest. (kept k honest).honest;
      reads_back = calm_reads (HonestAt store.is_honest after.stores) (state_of store.fork old on) (state_of store.fork new after) c idle outcome;
      any_moment = calm_leaves store on.stores after.stores (update_in work) (λ k honest. (kept k honest).calm);
      settled = calm_settles store after.stores work idle outcome;
      crash_full = tt;
    }
idle_leaves store old new on after c (Err full) kept idle =
    record { honest = λ k honest. (kept k honest).honest; reads_back = tt; any_moment = tt; settled = tt; crash_full = calm_leaves store on.stores after.stores None (λ k honest. (kept k honest).calm) }

-- and so does one of a kind without work on a file, where it keeps the stores
pub workless_leaves : {S E : Type 0} (store : Ghosts S) (old new : ZoneState) (on after : FilesOn S) (c d : ResourceCall) (result : Result Outcome E) → c ≡ d → IsIdle (work_of (state_of store.fork old on) d) → after.stores ≡ on.stores
    → LeavesForks store old on c result new after
workless_leaves store old new on after c d result is idle same =
    idle_leaves store old new on after c result (kept_same store on.stores after.stores same) (subst (λ (d : ResourceCall). IsIdle (work_of (state_of store.fork old on) d)) (sym is) idle)

-- and so does one that is refused
pub refused_leaves : {S E : Type 0} (store : Ghosts S) (zone : ZoneState) (on : FilesOn S) (c : ResourceCall) (code : OsErr) → (let result : Result Outcome E = Ok (Err code) in LeavesForks store zone on c result zone on)
refused_leaves store zone on c code =
    record { honest = λ k honest. honest; reads_back = tt; any_moment = calm_leaves store on.stores on.stores (update_in (work_of (state_of store.fork zone on) c)) (λ k honest. refl); settled = tt; crash_full = tt }
