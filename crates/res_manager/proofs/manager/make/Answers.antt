use Rattle.std.proofs.Common.{◌≡◌, ℕ, ℤ, List, Option, SFits, w64, Ok, rules, refl, ap, sym, subst, ◌∙◌}
use Rattle.std.proofs.lemmas.Int.{to_z-of_z}
use Rattle.mac_base.specs.declared.resource_call.ResourceCall.TheVariants.{AddResource, GetResInfo}
use Rattle.res_update.specs.Files.{ResState}
use Rattle.res_update.specs.Tests.{resource_refusal}
use Rattle.res_manager.proofs.Refusals.{passed-early}
use Rattle.res_manager.proofs.UpdatingCalls.{on_err}
use Rattle.mac_base.specs.Outcomes.{Outcome}
use Rattle.mac_base.specs.declared.resource_call.ResourceCall.{ResourceCall}
use Rattle.res_update.specs.Quiet.{quiet_results, quiet_state}
use Rattle.res_update.specs.Steps.{work_of}
use Rattle.std.specs.Prelude.{IfOk, option_copied}
use Rattle.res_manager.specs.Ends.{EndsTested}
use Rattle.res_manager.specs.Steps.{ResourceSteps, state_of}
use Rattle.res_manager.specs.Tests.{Tests, early_tests, late_tests}
use Rattle.res_manager.proofs.CalmCalls.{IsIdle, getting_work, no_work}
use Rattle.res_manager.proofs.LeavingForks.{idle_leaves, workless_leaves}
use Rattle.res_manager.proofs.Stepping.{tested_steps, told_if_ok, told_steps}
use Rattle.res_manager.proofs.manager.make.Goals as goal

pub returns-in-Getting-clause-leaves : goal.returns-in-Getting-clause-leaves
returns-in-Getting-clause-leaves g c =
    let state = state_of g.S.ForkStore.fork c.args.memory.now c.args.files.now in
    let idle = subst (λ (d : ResourceCall). IsIdle (work_of state d)) (sym c.in-Getting.is) (getting_work state c.in-Getting.call) in
    idle_leaves g.S.ForkStore c.args.memory.now c.get.new.memory c.args.files.now c.get.new.files c.args.call.now (Ok c.get.result) c.get.ensures.keeps idle

pub returns-in-Looking-clause-step : goal.returns-in-Looking-clause-step
returns-in-Looking-clause-step g c =
    let S = g.S.ForkStore in
    let zone = c.args.memory.now in
    let on = c.args.files.now in
    let state = state_of S.fork zone on in
    let call = c.args.call.now in
    let passed = subst (λ (d : ResourceCall). Tests state (early_tests d) c.look.result) (sym c.in-Looking.is) (c.look.ensures.passed state refl) in
    let value = subst (λ (d : ResourceCall). IfOk c.look.result (λ results. results ≡ quiet_results state d)) (sym c.in-Looking.is) (c.look.ensures.value state refl) in
    told_steps S zone on call _ c.look.result c.requires.unasked (ap late_tests c.in-Looking.is) (ap (work_of state) c.in-Looking.is) (ap (λ (d : ResourceCall). quiet_state d state) c.in-Looking.is) passed value

pub returns-in-Looking-clause-leaves : goal.returns-in-Looking-clause-leaves
returns-in-Looking-clause-leaves g c = workless_leaves g.S.ForkStore c.args.memory.now c.args.memory.now c.args.files.now c.args.files.now c.args.call.now _ _ c.in-Looking.is no_work refl

pub returns-in-Changing-clause-step : goal.returns-in-Changing-clause-step
returns-in-Changing-clause-step g c =
    let S = g.S.ForkStore in
    let zone = c.args.memory.now in
    let on = c.args.files.now in
    let state = state_of S.fork zone on in
    let ends = subst (λ (d : ResourceCall). EndsTested S.fork zone on d c.change.result c.change.new.memory c.change.new.files) (sym c.in-Changing.is) c.change.ensures.quiet in
    subst (λ (o : Outcome). ResourceSteps S zone on c.args.call.now (g.G.GrowZone.asks c.args.procedure.now) o c.change.new.memory c.change.new.files) (sym c.done.ensures)
    (tested_steps S zone c.change.new.memory on c.change.new.files c.args.call.now _ c.change.result c.requires.unasked (ap late_tests c.in-Changing.is) (ap (work_of state) c.in-Changing.is) c.change.ensures.stores ends)

pub returns-in-Changing-clause-leaves : goal.returns-in-Changing-clause-leaves
returns-in-Changing-clause-leaves g c = workless_leaves g.S.ForkStore c.args.memory.now c.change.new.memory c.args.files.now c.change.new.files c.args.call.now _ _ c.in-Changing.is no_work c.change.ensures.stores

pub returns-in_ok-add-in-AddResource-clause-step : goal.returns-in_ok-add-in-AddResource-clause-step
returns-in_ok-add-in-AddResource-clause-step g c =
    let S = g.S.ForkStore in
    let zone = c.args.memory.now in
    let on = c.args.files.now in
    let state = state_of S.fork zone on in
    let fits : SFits w64 c.in-AddResource.id = search rules in
    let named : option_copied c.map-name.result ≡ c.in-AddResource.name = search rules in
    let P : ℤ → Type 0 = λ i. EndsTested S.fork zone on (AddResource c.in-AddResource.handle c.in-AddResource.kind i (option_copied c.map-name.result)) c.in_ok-add-in-AddResource.field-0 c.add.new.memory c.add.new.files in
    let Q : Option (List ℕ) → Type 0 = λ n. EndsTested S.fork zone on (AddResource c.in-AddResource.handle c.in-AddResource.kind c.in-AddResource.id n) c.in_ok-add-in-AddResource.field-0 c.add.new.memory c.add.new.files in
    let added = subst Q named (subst P (to_z-of_z w64 c.in-AddResource.id fits) c.in_ok-add-in-AddResource.ensures.quiet) in
    let ends = subst (λ (d : ResourceCall). EndsTested S.fork zone on d c.in_ok-add-in-AddResource.field-0 c.add.new.memory c.add.new.files) (sym c.in-AddResource.is) added in
    subst (λ (o : Outcome). ResourceSteps S zone on c.args.call.now (g.G.GrowZone.asks c.args.procedure.now) o c.add.new.memory c.add.new.files) (sym c.done-in-AddResource.ensures)
    (tested_steps S zone c.add.new.memory on c.add.new.files c.args.call.now _ c.in_ok-add-in-AddResource.field-0 c.requires.unasked (ap late_tests c.in-AddResource.is) (ap (work_of state) c.in-AddResource.is) c.add.ensures.stores ends)

pub returns-in_ok-add-in-AddResource-clause-leaves : goal.returns-in_ok-add-in-AddResource-clause-leaves
returns-in_ok-add-in-AddResource-clause-leaves g c = workless_leaves g.S.ForkStore c.args.memory.now c.add.new.memory c.args.files.now c.add.new.files c.args.call.now _ _ c.in-AddResource.is no_work c.add.ensures.stores

pub returns-in_err-add-in-AddResource-clause-leaves : goal.returns-in_err-add-in-AddResource-clause-leaves
returns-in_err-add-in-AddResource-clause-leaves g c = workless_leaves g.S.ForkStore c.args.memory.now c.add.new.memory c.args.files.now c.add.new.files c.args.call.now _ _ c.in-AddResource.is no_work c.add.ensures.stores

pub returns-in-GetResInfo-clause-step : goal.returns-in-GetResInfo-clause-step
returns-in-GetResInfo-clause-step g c =
    let S = g.S.ForkStore in
    let zone = c.args.memory.now in
    let on = c.args.files.now in
    let state = state_of S.fork zone on in
    let P : ResourceCall → Type 0 = λ d. IfOk c.info.result (λ outcome. (state : ResState) → state.files ≡ on.files → Tests state (early_tests d) outcome) in
    let Q : ResourceCall → Type 0 = λ d. IfOk c.info.result (λ outcome. (state : ResState) → state.files ≡ on.files → IfOk outcome (λ results. results ≡ quiet_results state d)) in
    told_if_ok S zone on c.args.call.now _ c.info.result c.requires.unasked (ap late_tests c.in-GetResInfo.is) (ap (work_of state) c.in-GetResInfo.is) (ap (λ (d : ResourceCall). quiet_state d state) c.in-GetResInfo.is)
    (subst P (sym c.in-GetResInfo.is) c.info.ensures.passed) (subst Q (sym c.in-GetResInfo.is) c.info.ensures.value)

pub returns-in-GetResInfo-clause-leaves : goal.returns-in-GetResInfo-clause-leaves
returns-in-GetResInfo-clause-leaves g c = workless_leaves g.S.ForkStore c.args.memory.now c.args.memory.now c.args.files.now c.args.files.now c.args.call.now _ _ c.in-GetResInfo.is no_work refl

pub returns-in-GetResInfo-clause-late : goal.returns-in-GetResInfo-clause-late
returns-in-GetResInfo-clause-late g c =
    let state = state_of g.S.ForkStore.fork c.args.memory.now c.args.files.now in
    on_err _ _ c.info.result (λ passes. ap (resource_refusal state) c.in-GetResInfo.is ∙ passed-early state (GetResInfo c.in-GetResInfo.handle) (passes state refl)) c.info.ensures.late

pub returns-in-OpenResFile-clause-late : goal.returns-in-OpenResFile-clause-late
returns-in-OpenResFile-clause-late g c =
    let state = state_of g.S.ForkStore.fork c.args.memory.now c.args.files.now in
    on_err _ _ c.open_file.result (λ late. ap (resource_refusal state) c.in-OpenResFile.is ∙ late) c.open_file.ensures.late
