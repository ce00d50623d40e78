use Rattle.std.proofs.Common.{refl, ap, None, ◌∙◌}
use Rattle.mac_base.specs.ZoneState.{ZoneState}
use Rattle.std.specs.Option.{option_or}
use Rattle.mac_base.specs.declared.memory_call.MemoryCall.TheVariants.{Requesting}
use Rattle.mac_base.specs.declared.memory_call.RequestingCall.TheVariants.{ReserveMem}
use Rattle.mac_base.specs.declared.request.Request.TheVariants.{Reserve}
use Rattle.mac_base.specs.Outcomes.{done_outcome}
use Rattle.mem_calls.proofs.KeptLoans.{kept}
use Rattle.mem_calls.proofs.Stepping.{exact-requested, step-exact, done_ends, mapped_done}
use Rattle.mem_calls.proofs.manager.MemoryManager.reserve_mem.Goals as goal

pub returns : goal.returns
returns g c =
    let exact = exact-requested c.args.self.now c.self.inside.zone c.request.new.zone c.self.view_is c.request.ensures.sound (Requesting (ReserveMem c.args.size)) (ap (λ o. option_or o None) c.in_ok-test_size.ensures)
    (Reserve c.args.size) (g.G.GrowZone.asks c.request.new.procedure) c.request.result (done_outcome c.map.result) refl (λ x t. refl) c.request.ensures.run
    (done_ends (Requesting (ReserveMem c.args.size)) (λ x. refl) c.map.result c.request.result (mapped_done c.request.result c.map.result _ c.map.ensures.cases)) in
    record { exact = exact; step = step-exact c.args.self.now c.self.inside.zone c.request.new.zone c.self.view_is c.request.ensures.sound (Requesting (ReserveMem c.args.size)) (g.G.GrowZone.asks c.request.new.procedure) (done_outcome c.map.result) exact; source = c.request.ensures.source; shape = c.request.ensures.shape ∙ ap (λ (z : ZoneState). z.shape) c.self.view_is; loans = kept c.request.ensures.loans c.self.view_is }
