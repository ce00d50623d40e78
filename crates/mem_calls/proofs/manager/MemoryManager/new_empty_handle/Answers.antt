use Rattle.std.proofs.Common.{refl, ap, ◌∙◌}
use Rattle.mac_base.specs.ZoneState.{ZoneState}
use Rattle.mac_base.specs.declared.memory_call.MemoryCall.TheVariants.{Requesting}
use Rattle.mac_base.specs.declared.memory_call.RequestingCall.TheVariants.{NewEmptyHandle}
use Rattle.mac_base.specs.declared.request.Request.TheVariants.{NewEmpty}
use Rattle.mac_base.specs.Outcomes.{handle_outcome}
use Rattle.mem_calls.proofs.KeptLoans.{kept}
use Rattle.mem_calls.proofs.Stepping.{exact-requested, step-exact, handle_ends, mapped}
use Rattle.mem_calls.proofs.manager.MemoryManager.new_empty_handle.Goals as goal

pub returns : goal.returns
returns g c =
    let exact = exact-requested c.args.self.now c.self.inside.zone c.request.new.zone c.self.view_is c.request.ensures.sound (Requesting NewEmptyHandle) refl
    NewEmpty (g.G.GrowZone.asks c.request.new.procedure) c.request.result (handle_outcome c.map.result) refl (λ x t. refl) c.request.ensures.run
    (ap handle_outcome (mapped c.request.result c.map.result c.map.ensures.cases) ∙ handle_ends (Requesting NewEmptyHandle) (λ x. refl) c.request.result) in
    record { exact = exact; step = step-exact c.args.self.now c.self.inside.zone c.request.new.zone c.self.view_is c.request.ensures.sound (Requesting NewEmptyHandle) (g.G.GrowZone.asks c.request.new.procedure) (handle_outcome c.map.result) exact; source = c.request.ensures.source; shape = c.request.ensures.shape ∙ ap (λ (z : ZoneState). z.shape) c.self.view_is; loans = kept c.request.ensures.loans c.self.view_is }
