use Rattle.std.proofs.Common.{[], ◌∷◌, ◌≡◌, ◌+◌, ◌++◌, length, take, Some, refl, ap, sym, ◌∙◌}
use Rattle.mac_base.specs.ZoneState.{ZoneState}
use Rattle.mac_base.specs.HandleTable.{HandleTable, bytes_of, with_bytes}
use Rattle.mac_base.specs.declared.request.Request.TheVariants.{Resize}
use Rattle.mac_base.specs.declared.memory_call.MemoryCall.TheVariants.{Filling}
use Rattle.mac_base.specs.declared.memory_call.FillingCall.TheVariants.{HandAndHand}
use Rattle.mac_base.specs.Outcomes.{done_outcome}
use Rattle.mac_base.specs.Tests.{IsHandle, NotEmpty, NotLent}
use Rattle.mem_calls.proofs.Copies.{whole}
use Rattle.mem_calls.proofs.KeptLoans.{kept}
use Rattle.mem_calls.proofs.Passing.{passed-both, refused-first, refused-later}
use Rattle.mem_calls.proofs.Stepping.{exact-copied, both-refused, refused_outcome, done_ends, step-exact}
use Rattle.mem_calls.proofs.manager.MemoryManager.hand_and_hand.Goals as goal

pub returns : goal.returns
returns g c =
    let entry = c.self.inside.zone.heap.table in
    let a = c.args.one in
    let b = c.args.other in
    let n = c.length-count.result in
    let offset = c.length-length.result in
    let short : n ≡ length (bytes_of entry a) = rw c.number-from.ensures at rw c.linked.ensures.zone at c.length-count.ensures in
    let long : offset ≡ length (bytes_of entry b) = rw c.number-to.ensures at rw c.linked-2.ensures.zone at c.length-length.ensures in
    let run = rw c.number-from.ensures at rw c.number-to.ensures at c.copy_after.ensures.run in
    let exact = exact-copied c.args.self.now c.self.inside.zone c.copy_after.new.zone c.self.view_is c.copy_after.ensures.sound (Filling (HandAndHand c.args.one c.args.other))
    (passed-both c.self.inside.zone.shape c.self.inside.zone.heap (IsHandle c.args.one ∷ NotEmpty c.args.one ∷ NotLent c.args.one ∷ []) (IsHandle c.args.other ∷ NotEmpty c.args.other ∷ NotLent c.args.other ∷ [])
    c.in_ok-test_full_here.ensures c.in_ok-test_full_here-2.ensures)
    (Resize b (offset + n)) (take offset (bytes_of entry b) ++ take n (bytes_of entry a)) (g.G.GrowZone.asks c.copy_after.new.procedure) run.0 (done_outcome c.copy_after.result)
    (ap (λ k. Some (Resize b (k + length (bytes_of entry a)))) (sym long) ∙ ap (λ k. Some (Resize b (offset + k))) (sym short))
    (λ x (t : HandleTable). ap (λ bytes. with_bytes b (bytes ++ bytes_of entry a) t) (whole offset (bytes_of entry b) long) ∙ ap (λ bytes. with_bytes b (take offset (bytes_of entry b) ++ bytes) t) (whole n (bytes_of entry a) short))
    run.2 (done_ends (Filling (HandAndHand c.args.one c.args.other)) (λ x. refl) c.copy_after.result run.0 run.1) in
    record { exact = exact; step = step-exact c.args.self.now c.self.inside.zone c.copy_after.new.zone c.self.view_is c.copy_after.ensures.sound (Filling (HandAndHand c.args.one c.args.other)) (g.G.GrowZone.asks c.copy_after.new.procedure) (done_outcome c.copy_after.result) exact; source = c.copy_after.ensures.source; shape = c.copy_after.ensures.shape ∙ ap (λ (z : ZoneState). z.shape) c.self.view_is; loans = kept c.copy_after.ensures.loans c.self.view_is }

pub returns-in_err-test_full_here : goal.returns-in_err-test_full_here
returns-in_err-test_full_here g c = let end = c.from_residual in
    let both = both-refused c.args.self.now c.self.inside.zone c.self.view_is (Filling (HandAndHand c.args.one c.args.other)) c.in_err-test_full_here.field-0.0 (g.G.GrowZone.asks c.args.procedure.now) (done_outcome end.result)
    (refused-first c.self.inside.zone.shape c.self.inside.zone.heap (IsHandle c.args.one ∷ NotEmpty c.args.one ∷ NotLent c.args.one ∷ []) (IsHandle c.args.other ∷ NotEmpty c.args.other ∷ NotLent c.args.other ∷ []) c.in_err-test_full_here.field-0.0 c.in_err-test_full_here.ensures)
    c.requires (refused_outcome done_outcome (λ code. refl) end.result c.in_err-test_full_here.field-0.0 end.ensures.1) in
    record { exact = both.0; step = both.1; source = refl; shape = refl; loans = (refl, λ x loan held. held) }

pub returns-in_err-test_full_here-2 : goal.returns-in_err-test_full_here-2
returns-in_err-test_full_here-2 g c = let end = c.from_residual-in_err-test_full_here-2 in
    let both = both-refused c.args.self.now c.self.inside.zone c.self.view_is (Filling (HandAndHand c.args.one c.args.other)) c.in_err-test_full_here-2.field-0.0 (g.G.GrowZone.asks c.args.procedure.now) (done_outcome end.result)
    (refused-later c.self.inside.zone.shape c.self.inside.zone.heap (IsHandle c.args.one ∷ NotEmpty c.args.one ∷ NotLent c.args.one ∷ []) (IsHandle c.args.other ∷ NotEmpty c.args.other ∷ NotLent c.args.other ∷ []) c.in_err-test_full_here-2.field-0.0 c.in_ok-test_full_here.ensures c.in_err-test_full_here-2.ensures)
    c.requires (refused_outcome done_outcome (λ code. refl) end.result c.in_err-test_full_here-2.field-0.0 end.ensures.1) in
    record { exact = both.0; step = both.1; source = refl; shape = refl; loans = (refl, λ x loan held. held) }
