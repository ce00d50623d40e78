-- Calls that get or load a resource, by the load of its row.
use Rattle.std.proofs.Common.{◌≡◌, ℕ, Bool, List, Option, Some, None, Result, sym, ap, subst, ◌∙◌}
use Rattle.std.specs.Option.{IsSomeAnd, option_map_or}
use Rattle.mac_base.specs.declared.error.OsErr.{OsErr}
use Rattle.mac_base.specs.ZoneState.{ZoneState}
use Rattle.mac_base.specs.declared.resource_call.ResourceCall.{ResourceCall}
use Rattle.mac_base.specs.declared.resource_call.ResourceCall.TheVariants.{Getting}
use Rattle.mac_base.specs.declared.resource_call.GettingCall.{GettingCall}
use Rattle.mac_base.specs.GrowZone.{Ask}
use Rattle.res_update.specs.Files.{ResState, ResourceEnd}
use Rattle.res_update.specs.Loads.{loads_bytes, row_wanted}
use Rattle.res_update.specs.Steps.{StepsUnless, Work, Gets, Quiet, work_of, Memory}
use Rattle.res_update.specs.Steps as steps
use Rattle.res_update.specs.Tests.{resource_refusal}
use Rattle.res_files.specs.FilesOn.{FailedAt, FilesOn, HonestAt, NoneFailed}
use Rattle.fork_disk.specs.declared.store.ForkStore.{Ghosts}
use Rattle.res_update.specs.Answered.{answered_disks, file_of_work}
use Rattle.res_update.proofs.Answering.{none, none_honest}
use Rattle.res_update.specs.Device.{device_works}
use Rattle.std.specs.Prelude.{MatchBool}
use Rattle.res_table.specs.declared.chain.RowPlace.{RowPlace}
use Rattle.res_manager.specs.Loading.{LoadSteps, loaded_outcome}
use Rattle.res_manager.specs.Steps.{ResourceSteps, state_of}
use Rattle.res_manager.proofs.Known.{blank_files, same_passed, same_wanted}

-- such a call steps as the row's load does
pub get_steps : {S : Type 0} (store : Ghosts S) (old new : ZoneState) (on after : FilesOn S) (call : GettingCall) (p : RowPlace) (loads : Bool) (asks : List Ask) (result : Result ℕ OsErr)
    → resource_refusal (state_of store.fork old on) (Getting call) ≡ None → row_wanted (state_of store.fork old on) (Getting call) ≡ Some p → ((state : ResState) → state.loads ≡ on.loads → loads ≡ loads_bytes state (Getting call))
    → LoadSteps store old on p loads asks result new after → ResourceSteps store old on (Getting call) asks (loaded_outcome (Getting call) result) new after
get_steps {S} store old new on after call p loads asks result passed place loads_so load =
    let c : ResourceCall = Getting call in
    let real : ResState = state_of store.fork old on in
    let state : ResState = load.before in
    let honest = HonestAt store.is_honest after.stores in
    let unknown = load.was none (none_honest honest) in
    let blank : blank_files state.files ≡ blank_files real.files = ap (λ (s : ResState). s.files) unknown in
    let end : ResourceEnd = record { outcome = loaded_outcome c result; state = load.after } in
    let disks = answered_disks honest store.may_leave in
    let accepted : resource_refusal state c ≡ None = same_passed state real blank call ∙ passed in
    let work : work_of state c ≡ Gets p = ap (λ (o : Option RowPlace). option_map_or Gets o Quiet) (same_wanted state real blank call ∙ place) in
    let same : loads_bytes state c ≡ loads = sym (loads_so state (ap (λ (s : ResState). s.loads) unknown)) in
    let P : Option OsErr → Type 0 = λ o. StepsUnless Memory disks o load.device state c asks end in
    let Q : Work → Type 0 = λ w. steps.Works Memory disks load.device state c asks end w in
    let Cause : Work → Type 0 = λ w. MatchBool (device_works load.device) (NoneFailed store.failures on.stores after.stores) (IsSomeAnd (file_of_work w) (λ k. FailedAt store.failures k on.stores after.stores)) in
    record {
      device = load.device;
      before = state;
      after = load.after;
      was = load.was;
      becomes = load.becomes;
      step = subst P (sym accepted) (subst Q (sym work) (load.step c same));
      cause = subst Cause (sym work) load.cause;
    }
