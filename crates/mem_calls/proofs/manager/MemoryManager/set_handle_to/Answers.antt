use Rattle.std.proofs.Common.{◌+◌, ◌++◌, length, take, Some, refl, ap, arith, ◌∙◌}
use Rattle.mac_base.specs.ZoneState.{ZoneState}
use Rattle.mac_base.specs.HandleTable.{bytes_of}
use Rattle.mac_base.specs.declared.request.Request.TheVariants.{Resize}
use Rattle.mac_base.specs.declared.memory_call.MemoryCall.TheVariants.{Filling}
use Rattle.mac_base.specs.declared.memory_call.FillingCall.TheVariants.{SetHandleTo}
use Rattle.mac_base.specs.Outcomes.{done_outcome}
use Rattle.mem_calls.proofs.KeptLoans.{kept}
use Rattle.mem_calls.proofs.Stepping.{exact-copied, done_ends, step-exact}
use Rattle.mem_calls.proofs.manager.MemoryManager.set_handle_to.Goals as goal

pub returns : goal.returns
returns g c =
    let entry = c.self.inside.zone.heap.table in
    let h = c.args.handle in
    let bytes = c.args.bytes.now in
    let run = rw c.number-block.ensures at c.bring_after.ensures.run in
    let exact = exact-copied c.args.self.now c.self.inside.zone c.bring_after.new.zone c.self.view_is c.bring_after.ensures.sound (Filling (SetHandleTo h bytes)) c.in_ok-test_handle_for.ensures.tests
    (Resize h (0 + length bytes)) (take 0 (bytes_of entry h) ++ bytes) (g.G.GrowZone.asks c.bring_after.new.procedure) run.0 (done_outcome c.bring_after.result)
    (ap (λ k. Some (Resize h k)) (omega arith))
    (λ x t. refl)
    run.2 (done_ends (Filling (SetHandleTo h bytes)) (λ x. refl) c.bring_after.result run.0 run.1) in
    record { exact = exact; step = step-exact c.args.self.now c.self.inside.zone c.bring_after.new.zone c.self.view_is c.bring_after.ensures.sound (Filling (SetHandleTo c.args.handle c.args.bytes.now)) (g.G.GrowZone.asks c.bring_after.new.procedure) (done_outcome c.bring_after.result) exact; source = c.bring_after.ensures.source; shape = c.bring_after.ensures.shape ∙ ap (λ (z : ZoneState). z.shape) c.self.view_is; loans = kept c.bring_after.ensures.loans c.self.view_is }
