-- The end of a call that changes a resource's bytes in its file.
use Rattle.std.proofs.Common.{◌≡◌, ◌∙◌, ℕ, Bool, Option, Some, None, Result, Ok, Err, refl, sym, ap, subst, option_map}
use Rattle.std.specs.Prelude.{IsErr, OnOk}
use Rattle.fork_disk.specs.declared.store.ForkStore.{Ghosts}
use Rattle.mac_base.specs.HandleTable.{is_full}
use Rattle.mac_base.specs.Heap.{Heap}
use Rattle.mac_base.specs.ZoneState.{ZoneState}
use Rattle.mac_base.specs.declared.error.HostFull.{HostFull}
use Rattle.mac_base.specs.Outcomes.{Outcome}
use Rattle.res_table.specs.declared.chain.RowPlace.{RowPlace}
use Rattle.res_update.specs.declared.partial_end.PartialEnd.{PartialEnd}
use Rattle.res_update.specs.declared.partial_end.PartialEnd.TheVariants.{Done, InMemory, OutOfBounds, Refused}
use Rattle.res_update.specs.declared.patching_call.PatchingCall.{PatchingCall}
use Rattle.res_table.specs.Rows.{changed_at}
use Rattle.res_update.specs.Changes.{with_changed_rows}
use Rattle.res_update.specs.Files.{ResState}
use Rattle.res_update.specs.Patching.{Patches, end_by, end_of_patch, handle_patched, patch_asked, patch_update, patched_row, update_asked}
use Rattle.res_update.specs.Updates.{Update}
use Rattle.res_update.proofs.Answering.{none, none_honest}
use Rattle.res_files.specs.FilesOn.{FailedAt, FilesOn, HonestAt, NoneFailed}
use Rattle.res_files.specs.Stores.{KeepsStores}
use Rattle.res_manager.specs.Crash.{IsSettled, SavesFork}
use Rattle.res_manager.specs.Patching.{LeavesPatch, LeavesPatched, OnWritten, PatchesAt, PatchesOn}
use Rattle.res_manager.specs.Steps.{state_of}
use Rattle.res_manager.proofs.Crash.{calm_leaves}
use Rattle.res_manager.proofs.PatchedFiles.{Found}
use Rattle.res_manager.proofs.PatchedSteps.{update_is}

-- what holds anyhow holds where a call wrote
anyhow : (P : Type 0) (end : PartialEnd) → P → OnWritten end P
anyhow P Done holds = holds
anyhow P InMemory holds = holds
anyhow P OutOfBounds holds = tt
anyhow P (Refused code) holds = tt

module _ {S : Type 0} (store : Ghosts S) (zone : ZoneState) (old new : FilesOn S) (call : PatchingCall) where
  -- a call that is refused before any work leaves all
  pub refused_patch : (end : PartialEnd) → patch_asked call old.files ≡ Err end → (let result : Result PartialEnd HostFull = Ok end in LeavesPatch store zone old call result old)
  refused_patch end is =
      let result : Result PartialEnd HostFull = Ok end in
      subst (λ (asked : Result RowPlace PartialEnd). LeavesPatched store zone old (update_asked call old.files asked) result old) (sym is) (record {
        honest = λ k is. is;
        any_moment = calm_leaves store old.stores old.stores None (λ k is. refl);
        saved = anyhow _ end tt;
        settled = anyhow _ end (λ journal. tt);
        kept = tt;
      })

  module _ (p : RowPlace) (is : patch_asked call old.files ≡ Ok p) where
    -- how a call ends by the outcome of its update
    pub patch_ends : (outcome : Outcome) (end : PartialEnd) → end ≡ end_by (end_of_patch call (is_full zone.heap.table (handle_patched call))) outcome → PatchesAt store zone old p call outcome new → PatchesOn store zone old call end new
    patch_ends outcome end ends patched =
        let heap : patched.before.heap ≡ zone.heap = ap (λ (s : ResState). s.heap) (patched.was none (none_honest (HonestAt store.is_honest new.stores))) in
        subst (λ (asked : Result RowPlace PartialEnd). Patches (HonestAt store.is_honest new.stores) (NoneFailed store.failures old.stores new.stores) (λ k. FailedAt store.failures k old.stores new.stores) store.may_leave
        (state_of store.fork zone old) call asked end (state_of store.fork zone new)) (sym is) (record {
          device = patched.device;
          before = patched.before;
          after = patched.after;
          was = patched.was;
          becomes = patched.becomes;
          step = (outcome, patched.updates, ends ∙ sym (ap (λ (h : Heap). end_by (end_of_patch call (is_full h.table (handle_patched call))) outcome) heap));
          cause = patched.cause;
        })

    -- what it leaves, where the host had no memory for the update
    pub full_leaves : (outcome : Result Outcome HostFull) (result : Result PartialEnd HostFull) → IsErr result → KeepsStores store old.stores new.stores → SavesFork store p.file (patch_update call old.files p) old.stores zone new outcome
        → LeavesPatch store zone old call result new
    full_leaves outcome (Ok end) none keeps saves = absurd (cc none)
    full_leaves outcome (Err full) none keeps saves =
        let result : Result PartialEnd HostFull = Err full in
        subst (λ (asked : Result RowPlace PartialEnd). LeavesPatched store zone old (update_asked call old.files asked) result new) (sym is)
        (record { honest = saves.works.honest; any_moment = saves.works.any_moment; saved = tt; settled = tt; kept = keeps })

    -- and else
    pub patch_leaves : (f : Found p (handle_patched call) old.files) (outcome : Outcome) (end : PartialEnd) → (b : Bool) → end ≡ end_by (end_of_patch call b) outcome
        → (let result : Result Outcome HostFull = Ok outcome in SavesFork store p.file (patch_update call old.files p) old.stores zone new result) → (let result : Result PartialEnd HostFull = Ok end in LeavesPatch store zone old call result new)
    patch_leaves f outcome end b ends saves =
        let result : Result PartialEnd HostFull = Ok end in
        subst (λ (asked : Result RowPlace PartialEnd). LeavesPatched store zone old (update_asked call old.files asked) result new) (sym is) (record {
          honest = saves.works.honest;
          any_moment = saves.works.any_moment;
          saved = on_outcome _ outcome ends saves.saved;
          settled = on_outcome _ outcome ends (subst (λ (o : Option ℕ). OnOk outcome (IsSettled store o new.stores)) (sym file) saves.works.settled);
          kept = tt;
        })
      where
        file : option_map (λ (u : Update). u.file) (patch_update call old.files p) ≡ Some p.file
        file = ap (option_map (λ (u : Update). u.file)) (update_is p.file (with_changed_rows (changed_at p.index (patched_row call))) old.files f.table f.is)

        on_outcome : (P : Type 0) (o : Outcome) → end ≡ end_by (end_of_patch call b) o → OnOk o P → OnWritten end P
        on_outcome P (Ok results) is holds = anyhow P end holds
        on_outcome P (Err code) is holds = subst (λ (e : PartialEnd). OnWritten e P) (sym is) tt
