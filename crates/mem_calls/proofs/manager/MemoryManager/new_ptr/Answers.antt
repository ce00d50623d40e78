use Rattle.std.proofs.Common.{refl, ap, ◌∙◌, None}
use Rattle.mac_base.specs.ZoneState.{ZoneState}
use Rattle.std.specs.Option.{option_or}
use Rattle.mac_base.specs.declared.memory_call.MemoryCall.TheVariants.{Requesting}
use Rattle.mac_base.specs.declared.memory_call.RequestingCall.TheVariants.{NewPtr}
use Rattle.mac_base.specs.declared.request.Request.TheVariants.{NewPointer}
use Rattle.mac_base.specs.Outcomes.{pointer_outcome}
use Rattle.mem_calls.proofs.KeptLoans.{kept}
use Rattle.mem_calls.proofs.Stepping.{exact-requested, step-exact, pointer_ends, mapped}
use Rattle.mem_calls.proofs.manager.MemoryManager.new_ptr.Goals as goal

pub returns : goal.returns
returns g c =
    let exact = exact-requested c.args.self.now c.self.inside.zone c.request.new.zone c.self.view_is c.request.ensures.sound (Requesting (NewPtr c.args.size)) (ap (λ o. option_or o None) c.in_ok-test_size.ensures)
    (NewPointer c.args.size) (g.G.GrowZone.asks c.request.new.procedure) c.request.result (pointer_outcome c.map.result) refl (λ x t. refl) c.request.ensures.run
    (ap pointer_outcome (mapped c.request.result c.map.result c.map.ensures.cases) ∙ pointer_ends (Requesting (NewPtr c.args.size)) (λ x. refl) c.request.result) in
    record { exact = exact; step = step-exact c.args.self.now c.self.inside.zone c.request.new.zone c.self.view_is c.request.ensures.sound (Requesting (NewPtr c.args.size)) (g.G.GrowZone.asks c.request.new.procedure) (pointer_outcome c.map.result) exact; source = c.request.ensures.source; shape = c.request.ensures.shape ∙ ap (λ (z : ZoneState). z.shape) c.self.view_is; loans = kept c.request.ensures.loans c.self.view_is }
