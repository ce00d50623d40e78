use Rattle.std.proofs.Common.{◌≡◌, length, take, Some, refl, ap, sym, ◌∙◌}
use Rattle.mac_base.specs.ZoneState.{ZoneState}
use Rattle.mac_base.specs.HandleTable.{HandleTable, bytes_of, with_bytes}
use Rattle.mac_base.specs.declared.request.Request.TheVariants.{NewBlock}
use Rattle.mac_base.specs.declared.memory_call.MemoryCall.TheVariants.{Filling}
use Rattle.mac_base.specs.declared.memory_call.FillingCall.TheVariants.{HandToHand}
use Rattle.mac_base.specs.Outcomes.{handle_outcome}
use Rattle.mem_calls.proofs.Copies.{whole}
use Rattle.mem_calls.proofs.KeptLoans.{kept}
use Rattle.mem_calls.proofs.Stepping.{exact-copied, handle_ends, step-exact}
use Rattle.mem_calls.proofs.manager.MemoryManager.hand_to_hand.Goals as goal

pub returns : goal.returns
returns g c =
    let entry = c.self.inside.zone.heap.table in
    let h = c.args.handle in
    let n = c.length-count.result in
    let long : n ≡ length (bytes_of entry h) = rw c.number-block.ensures at rw c.linked.ensures.zone at c.length-count.ensures in
    let exact = exact-copied c.args.self.now c.self.inside.zone c.copy_to_new.new.zone c.self.view_is c.copy_to_new.ensures.sound (Filling (HandToHand h)) c.in_ok-test_full_here.ensures
    (NewBlock n) (take n (bytes_of entry h)) (g.G.GrowZone.asks c.copy_to_new.new.procedure) c.copy_to_new.result (handle_outcome c.copy_to_new.result) (ap (λ n. Some (NewBlock n)) (sym long))
    (λ x (t : HandleTable). ap (λ bytes. with_bytes x bytes t) (whole n (bytes_of entry h) long)) (rw c.number-block.ensures at c.copy_to_new.ensures.run) (handle_ends (Filling (HandToHand h)) (λ x. refl) c.copy_to_new.result) in
    record { exact = exact; step = step-exact c.args.self.now c.self.inside.zone c.copy_to_new.new.zone c.self.view_is c.copy_to_new.ensures.sound (Filling (HandToHand c.args.handle)) (g.G.GrowZone.asks c.copy_to_new.new.procedure) (handle_outcome c.copy_to_new.result) exact; source = c.copy_to_new.ensures.source; shape = c.copy_to_new.ensures.shape ∙ ap (λ (z : ZoneState). z.shape) c.self.view_is; loans = kept c.copy_to_new.ensures.loans c.self.view_is }
