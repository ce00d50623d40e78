use Rattle.std.proofs.Common.{refl, ap, ◌∙◌}
use Rattle.mac_base.specs.ZoneState.{ZoneState}
use Rattle.mac_base.specs.declared.memory_call.MemoryCall.TheVariants.{Requesting}
use Rattle.mac_base.specs.declared.memory_call.RequestingCall.TheVariants.{MoreMasters}
use Rattle.mac_base.specs.declared.request.Request.TheVariants.{NewMaster}
use Rattle.mac_base.specs.Outcomes.{done_outcome}
use Rattle.mem_calls.proofs.KeptLoans.{kept}
use Rattle.mem_calls.proofs.Stepping.{exact-requested, step-exact, done_ends, mapped_done}
use Rattle.mem_calls.proofs.manager.MemoryManager.more_masters.Goals as goal

pub returns : goal.returns
returns g c =
    let exact = exact-requested c.args.self.now c.self.inside.zone c.request.new.zone c.self.view_is c.request.ensures.sound (Requesting MoreMasters) refl
    NewMaster (g.G.GrowZone.asks c.request.new.procedure) c.request.result (done_outcome c.map.result) refl (λ x t. refl) c.request.ensures.run
    (done_ends (Requesting MoreMasters) (λ x. refl) c.map.result c.request.result (mapped_done c.request.result c.map.result _ c.map.ensures.cases)) in
    record { exact = exact; step = step-exact c.args.self.now c.self.inside.zone c.request.new.zone c.self.view_is c.request.ensures.sound (Requesting MoreMasters) (g.G.GrowZone.asks c.request.new.procedure) (done_outcome c.map.result) exact; source = c.request.ensures.source; shape = c.request.ensures.shape ∙ ap (λ (z : ZoneState). z.shape) c.self.view_is; loans = kept c.request.ensures.loans c.self.view_is }
