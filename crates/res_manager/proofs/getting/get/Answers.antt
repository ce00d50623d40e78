use Rattle.std.proofs.Common.{◌≡◌, Ok, Err, rules, refl, sym, subst}
use Rattle.mac_base.specs.Outcomes.{Outcome}
use Rattle.mac_base.specs.declared.reply.Results.{Results}
use Rattle.mac_base.specs.declared.resource_call.ResourceCall.TheVariants.{Getting}
use Rattle.res_manager.specs.Steps.{ResourceSteps, state_of}
use Rattle.res_manager.proofs.GettingCalls.{get_steps}
use Rattle.res_manager.proofs.Stepping.{refused_steps, unasked_steps}
use Rattle.res_manager.proofs.getting.get.Goals as goal

pub returns-in_err-place-clause-step : goal.returns-in_err-place-clause-step
returns-in_err-place-clause-step g c =
    let zone = c.args.memory.now in
    let on = c.args.files.now in
    let is : c.from_residual.result ≡ Err c.in_err-place.field-0.0 = search rules in
    let P : Outcome → Type 0 = λ outcome. ResourceSteps g.S.ForkStore zone on (Getting c.args.call) (g.G.GrowZone.asks c.args.procedure.now) outcome zone on in
    subst P (sym is) (unasked_steps g.S.ForkStore zone zone on on (Getting c.args.call) _ (Err c.in_err-place.field-0.0) c.requires.unasked
    (refused_steps g.S.ForkStore zone on (Getting c.args.call) c.in_err-place.field-0.0 (c.in_err-place.ensures.passed (state_of g.S.ForkStore.fork zone on) refl)))

pub returns-in_err-handle-clause-step : goal.returns-in_err-handle-clause-step
returns-in_err-handle-clause-step g c =
    let state = state_of g.S.ForkStore.fork c.args.memory.now c.args.files.now in
    let is : c.from_residual-in_err-handle.result ≡ Err c.in_err-handle.field-0.0 = search rules in
    let P : Outcome → Type 0 = λ outcome. ResourceSteps g.S.ForkStore c.args.memory.now c.args.files.now (Getting c.args.call) (g.G.GrowZone.asks c.get_row.new.procedure) outcome c.get_row.new.memory c.get_row.new.files in
    subst P (sym is) (get_steps g.S.ForkStore c.args.memory.now c.get_row.new.memory c.args.files.now c.get_row.new.files c.args.call c.in_ok-place.place c.loads_bytes-loads.result (g.G.GrowZone.asks c.get_row.new.procedure) (Err c.in_err-handle.field-0.0)
    (c.in_ok-place.ensures.passed state refl) (c.in_ok-place.ensures.value state refl) c.loads_bytes-loads.ensures c.in_err-handle.ensures.step)

pub returns-clause-step : goal.returns-clause-step
returns-clause-step g c =
    let state = state_of g.S.ForkStore.fork c.args.memory.now c.args.files.now in
    let P : Results → Type 0 = λ r. ResourceSteps g.S.ForkStore c.args.memory.now c.args.files.now (Getting c.args.call) (g.G.GrowZone.asks c.get_row.new.procedure) (Ok r) c.get_row.new.memory c.get_row.new.files in
    subst P (sym c.given.ensures) (get_steps g.S.ForkStore c.args.memory.now c.get_row.new.memory c.args.files.now c.get_row.new.files c.args.call c.in_ok-place.place c.loads_bytes-loads.result (g.G.GrowZone.asks c.get_row.new.procedure) (Ok c.in_ok-handle.handle)
    (c.in_ok-place.ensures.passed state refl) (c.in_ok-place.ensures.value state refl) c.loads_bytes-loads.ensures c.in_ok-handle.ensures.step)
