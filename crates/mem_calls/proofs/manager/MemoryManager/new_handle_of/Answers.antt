use Rattle.std.proofs.Common.{None, length, refl, ap, ◌∙◌}
use Rattle.mac_base.specs.ZoneState.{ZoneState}
use Rattle.std.specs.Option.{option_or}
use Rattle.mac_base.specs.declared.request.Request.TheVariants.{NewBlock}
use Rattle.mac_base.specs.declared.memory_call.MemoryCall.TheVariants.{Filling}
use Rattle.mac_base.specs.declared.memory_call.FillingCall.TheVariants.{NewHandleOf}
use Rattle.mac_base.specs.Outcomes.{handle_outcome}
use Rattle.mem_calls.proofs.KeptLoans.{kept}
use Rattle.mem_calls.proofs.Stepping.{exact-copied, handle_ends, step-exact}
use Rattle.mem_calls.proofs.manager.MemoryManager.new_handle_of.Goals as goal

pub returns : goal.returns
returns g c =
    let bytes = c.args.bytes.now in
    let exact = exact-copied c.args.self.now c.self.inside.zone c.bring_new.new.zone c.self.view_is c.bring_new.ensures.sound (Filling (NewHandleOf bytes)) (ap (λ o. option_or o None) c.in_ok-test_count.ensures.size)
    (NewBlock (length bytes)) bytes (g.G.GrowZone.asks c.bring_new.new.procedure) c.bring_new.result (handle_outcome c.bring_new.result) refl (λ x t. refl) c.bring_new.ensures.run
    (handle_ends (Filling (NewHandleOf bytes)) (λ x. refl) c.bring_new.result) in
    record { exact = exact; step = step-exact c.args.self.now c.self.inside.zone c.bring_new.new.zone c.self.view_is c.bring_new.ensures.sound (Filling (NewHandleOf c.args.bytes.now)) (g.G.GrowZone.asks c.bring_new.new.procedure) (handle_outcome c.bring_new.result) exact; source = c.bring_new.ensures.source; shape = c.bring_new.ensures.shape ∙ ap (λ (z : ZoneState). z.shape) c.self.view_is; loans = kept c.bring_new.ensures.loans c.self.view_is }
