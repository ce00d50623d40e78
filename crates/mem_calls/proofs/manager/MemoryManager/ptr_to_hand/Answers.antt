use Rattle.std.proofs.Common.{[], ◌∷◌, take, refl, ap, ◌∙◌}
use Rattle.mac_base.specs.ZoneState.{ZoneState}
use Rattle.mac_base.specs.HandleTable.{bytes_of}
use Rattle.mac_base.specs.declared.request.Request.TheVariants.{NewBlock}
use Rattle.mac_base.specs.declared.memory_call.MemoryCall.TheVariants.{Filling}
use Rattle.mac_base.specs.declared.memory_call.FillingCall.TheVariants.{PtrToHand}
use Rattle.mac_base.specs.Outcomes.{handle_outcome}
use Rattle.mem_calls.proofs.KeptLoans.{kept}
use Rattle.mac_base.specs.Tests.{IsPointer, IsWithin, NotLent}
use Rattle.mem_calls.proofs.Passing.{passed-both}
use Rattle.mem_calls.proofs.Stepping.{exact-copied, handle_ends, step-exact}
use Rattle.mem_calls.proofs.manager.MemoryManager.ptr_to_hand.Goals as goal

pub returns : goal.returns
returns g c =
    let entry = c.self.inside.zone.heap.table in
    let p = c.args.pointer in
    let n = c.args.count in
    let exact = exact-copied c.args.self.now c.self.inside.zone c.copy_to_new.new.zone c.self.view_is c.copy_to_new.ensures.sound (Filling (PtrToHand p n))
    (passed-both c.self.inside.zone.shape c.self.inside.zone.heap (IsPointer c.args.pointer ∷ NotLent c.args.pointer ∷ []) (IsWithin c.args.pointer 0 c.args.count ∷ []) c.in_ok-test_pointer_here.ensures
    (rw c.number-block.ensures at c.in_ok-test_within.ensures))
    (NewBlock n) (take n (bytes_of entry p)) (g.G.GrowZone.asks c.copy_to_new.new.procedure) c.copy_to_new.result (handle_outcome c.copy_to_new.result) refl (λ x t. refl)
    (rw c.number-block.ensures at c.copy_to_new.ensures.run) (handle_ends (Filling (PtrToHand p n)) (λ x. refl) c.copy_to_new.result) in
    record { exact = exact; step = step-exact c.args.self.now c.self.inside.zone c.copy_to_new.new.zone c.self.view_is c.copy_to_new.ensures.sound (Filling (PtrToHand c.args.pointer c.args.count)) (g.G.GrowZone.asks c.copy_to_new.new.procedure) (handle_outcome c.copy_to_new.result) exact; source = c.copy_to_new.ensures.source; shape = c.copy_to_new.ensures.shape ∙ ap (λ (z : ZoneState). z.shape) c.self.view_is; loans = kept c.copy_to_new.ensures.loans c.self.view_is }
