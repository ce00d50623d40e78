-- Calls that seek a resource, by the load of the row that they find.
use Rattle.std.proofs.Common.{◌≡◌, ℕ, Bool, List, [], Option, Some, None, Result, Ok, Err, pos, refl, sym, ap, subst, ◌∙◌}
use Rattle.mac_base.specs.declared.error.OsErr.{OsErr}
use Rattle.mac_base.specs.ZoneState.{ZoneState}
use Rattle.mac_base.specs.declared.resource_call.ResourceCall.{ResourceCall}
use Rattle.mac_base.specs.declared.resource_call.ResourceCall.TheVariants.{Getting}
use Rattle.mac_base.specs.declared.resource_call.GettingCall.TheVariants.{GetResource}
use Rattle.mac_base.specs.GrowZone.{Ask}
use Rattle.mac_base.specs.Outcomes.{Outcome}
use Rattle.res_update.specs.Answered.{answered_disks}
use Rattle.res_update.specs.Changes.{FileRow}
use Rattle.res_update.specs.Device as device
use Rattle.res_update.specs.Files.{ResState}
use Rattle.res_update.specs.Loads.{loads_bytes}
use Rattle.res_update.specs.Sought.{AnswersSought, GetsIt, getting_it}
use Rattle.res_update.specs.Steps.{GetsPlace, Memory}
use Rattle.res_update.proofs.Answering.{itself, none, none_honest}
use Rattle.res_files.specs.FilesOn.{FailedAt, FilesOn, HonestAt, NoneFailed}
use Rattle.res_table.specs.declared.chain.RowPlace.{RowPlace}
use Rattle.res_table.specs.OpenFiles.{row_at}
use Rattle.fork_disk.specs.declared.store.ForkStore.{Ghosts}
use Rattle.res_manager.specs.Loading.{LoadSteps, loaded_outcome}
use Rattle.res_manager.specs.Steps.{state_of}

-- what such a call does that found this
abbrev pub FoundSteps : {S : Type 0} → Ghosts S → ZoneState → FilesOn S → Result RowPlace OsErr → List Ask → Outcome → ZoneState → FilesOn S → Type 0
FoundSteps store old on found asks outcome new after = AnswersSought (HonestAt store.is_honest after.stores)
    (NoneFailed store.failures on.stores after.stores) (λ k. FailedAt store.failures k on.stores after.stores)
    Memory store.may_leave (state_of store.fork old on) found asks outcome (state_of store.fork new after)

-- one that is refused
pub sought_refused : {S : Type 0} (store : Ghosts S) (zone : ZoneState) (on : FilesOn S) (found : Result RowPlace OsErr) (asks : List Ask) (code : OsErr) → asks ≡ [] → found ≡ Err code
    → FoundSteps store zone on found asks (Err code) zone on
sought_refused {S} store zone on found asks code unasked is =
    let state : ResState = state_of store.fork zone on in
    let honest = HonestAt store.is_honest on.stores in
    let refused : FoundSteps store zone on (Err code) asks (Err code) zone on =
    record { device = device.Works; before = state; after = state; was = itself honest state; becomes = itself honest state; step = (unasked, refl); cause = refl } in
    subst (λ (found : Result RowPlace OsErr). FoundSteps store zone on found asks (Err code) zone on) (sym is) refused

-- GetResource of any resource
abbrev any : ResourceCall
any = Getting (GetResource [] (pos 0))

-- what a call gives that got a row, or the code of its refusal
abbrev pub got_outcome : Result ℕ OsErr → Outcome
got_outcome result = loaded_outcome any result

-- one that found a row, which is loaded
pub sought_got : {S : Type 0} (store : Ghosts S) (old new : ZoneState) (on after : FilesOn S) (found : Result RowPlace OsErr) (p : RowPlace) (loads : Bool) (asks : List Ask) (result : Result ℕ OsErr)
    → found ≡ Ok p → loads ≡ on.loads → LoadSteps store old on p loads asks result new after → FoundSteps store old on found asks (got_outcome result) new after
sought_got {S} store old new on after found p loads asks result is loads_so load =
    let got : FoundSteps store old on (Ok p) asks (got_outcome result) new after =
    record { device = load.device; before = load.before; after = load.after; was = load.was; becomes = load.becomes; step = by (row_at p load.before.files) result load.step; cause = load.cause } in
    subst (λ (found : Result RowPlace OsErr). FoundSteps store old on found asks (got_outcome result) new after) (sym is) got
  where
    same : load.before.loads ≡ loads
    same = ap (λ (s : ResState). s.loads) (load.was none (none_honest (HonestAt store.is_honest after.stores))) ∙ sym loads_so

    by : (o : Option FileRow) (result : Result ℕ OsErr)
        → ((call : ResourceCall) → loads_bytes load.before call ≡ loads → GetsPlace Memory (answered_disks (HonestAt store.is_honest after.stores) store.may_leave) load.device load.before call asks (record { outcome = loaded_outcome call result; state = load.after }) p o)
        → GetsIt Memory (answered_disks (HonestAt store.is_honest after.stores) store.may_leave) load.device load.before asks (record { outcome = got_outcome result; state = load.after }) p o
    by None result loaded = loaded any same
    by (Some r) (Ok h) loaded = loaded (getting_it r) same
    by (Some r) (Err code) loaded = loaded (getting_it r) same
