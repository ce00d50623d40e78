use Rattle.std.proofs.Common.{◌+◌, ◌++◌, take, Some, refl, ap, arith, ◌∙◌}
use Rattle.mac_base.specs.ZoneState.{ZoneState}
use Rattle.mac_base.specs.HandleTable.{bytes_of}
use Rattle.mac_base.specs.declared.request.Request.TheVariants.{Resize}
use Rattle.mac_base.specs.declared.memory_call.MemoryCall.TheVariants.{Filling}
use Rattle.mac_base.specs.declared.memory_call.FillingCall.TheVariants.{PtrToXHand}
use Rattle.mac_base.specs.Outcomes.{done_outcome}
use Rattle.mem_calls.proofs.KeptLoans.{kept}
use Rattle.mem_calls.proofs.Stepping.{exact-copied, done_ends, step-exact}
use Rattle.mem_calls.proofs.manager.MemoryManager.ptr_to_xhand.Goals as goal

pub returns : goal.returns
returns g c =
    let entry = c.self.inside.zone.heap.table in
    let p = c.args.pointer in
    let h = c.args.handle in
    let n = c.args.count in
    let run = rw c.number-from.ensures at rw c.number-to.ensures at c.copy_after.ensures.run in
    let exact = exact-copied c.args.self.now c.self.inside.zone c.copy_after.new.zone c.self.view_is c.copy_after.ensures.sound (Filling (PtrToXHand c.args.pointer c.args.handle c.args.count))
    c.in_ok-test_pointer_for.ensures
    (Resize h (0 + n)) (take 0 (bytes_of entry h) ++ take n (bytes_of entry p)) (g.G.GrowZone.asks c.copy_after.new.procedure) run.0 (done_outcome c.copy_after.result)
    (ap (λ k. Some (Resize h k)) (omega arith))
    (λ x t. refl)
    run.2 (done_ends (Filling (PtrToXHand c.args.pointer c.args.handle c.args.count)) (λ x. refl) c.copy_after.result run.0 run.1) in
    record { exact = exact; step = step-exact c.args.self.now c.self.inside.zone c.copy_after.new.zone c.self.view_is c.copy_after.ensures.sound (Filling (PtrToXHand c.args.pointer c.args.handle c.args.count)) (g.G.GrowZone.asks c.copy_after.new.procedure) (done_outcome c.copy_after.result) exact; source = c.copy_after.ensures.source; shape = c.copy_after.ensures.shape ∙ ap (λ (z : ZoneState). z.shape) c.self.view_is; loans = kept c.copy_after.ensures.loans c.self.view_is }
