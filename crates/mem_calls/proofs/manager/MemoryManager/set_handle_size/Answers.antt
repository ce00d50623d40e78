use Rattle.std.proofs.Common.{[], ◌∷◌, refl, ap, ◌∙◌}
use Rattle.mac_base.specs.ZoneState.{ZoneState}
use Rattle.mem_calls.proofs.Passing.{passed-set_handle_size, refused-first, refused-later}
use Rattle.mac_base.specs.declared.memory_call.MemoryCall.TheVariants.{Requesting}
use Rattle.mac_base.specs.declared.memory_call.RequestingCall.TheVariants.{SetHandleSize}
use Rattle.mac_base.specs.declared.request.Request.TheVariants.{Resize}
use Rattle.mac_base.specs.Outcomes.{done_outcome}
use Rattle.mac_base.specs.Tests.{IsHandle, NotEmpty, NotLent, IsSize}
use Rattle.mem_calls.proofs.KeptLoans.{kept}
use Rattle.mem_calls.proofs.Stepping.{refused_outcome, both-refused, exact-requested, step-exact, done_ends, mapped_done}
use Rattle.mem_calls.proofs.manager.MemoryManager.set_handle_size.Goals as goal

pub returns : goal.returns
returns g c =
    let exact = exact-requested c.args.self.now c.self.inside.zone c.request.new.zone c.self.view_is c.request.ensures.sound (Requesting (SetHandleSize c.args.handle c.args.size)) (passed-set_handle_size c.self.inside.zone.shape c.self.inside.zone.heap c.args.handle c.args.size c.in_ok-test_full.ensures (rw c.number-block.ensures at c.in_ok-test_new_size.ensures))
    (Resize c.args.handle c.args.size) (g.G.GrowZone.asks c.request.new.procedure) c.request.result (done_outcome c.map.result) refl (λ x t. refl) (rw c.number-block.ensures at c.request.ensures.run)
    (done_ends (Requesting (SetHandleSize c.args.handle c.args.size)) (λ x. refl) c.map.result c.request.result (mapped_done c.request.result c.map.result _ c.map.ensures.cases)) in
    record { exact = exact; step = step-exact c.args.self.now c.self.inside.zone c.request.new.zone c.self.view_is c.request.ensures.sound (Requesting (SetHandleSize c.args.handle c.args.size)) (g.G.GrowZone.asks c.request.new.procedure) (done_outcome c.map.result) exact; source = c.request.ensures.source; shape = c.request.ensures.shape ∙ ap (λ (z : ZoneState). z.shape) c.self.view_is; loans = kept c.request.ensures.loans c.self.view_is }

pub returns-in_err-test_full : goal.returns-in_err-test_full
returns-in_err-test_full g c = let end = c.from_residual in
    let both = both-refused c.args.self.now c.self.inside.zone c.self.view_is (Requesting (SetHandleSize c.args.handle c.args.size)) c.in_err-test_full.field-0.0 (g.G.GrowZone.asks c.args.procedure.now) (done_outcome end.result)
    (refused-first c.self.inside.zone.shape c.self.inside.zone.heap (IsHandle c.args.handle ∷ NotEmpty c.args.handle ∷ []) (NotLent c.args.handle ∷ IsSize c.args.size ∷ []) c.in_err-test_full.field-0.0 c.in_err-test_full.ensures)
    c.requires (refused_outcome done_outcome (λ code. refl) end.result c.in_err-test_full.field-0.0 end.ensures.1) in
    record { exact = both.0; step = both.1; source = refl; shape = refl; loans = (refl, λ x loan held. held) }

pub returns-in_err-test_new_size : goal.returns-in_err-test_new_size
returns-in_err-test_new_size g c = let end = c.from_residual-in_err-test_new_size in
    let both = both-refused c.args.self.now c.self.inside.zone c.self.view_is (Requesting (SetHandleSize c.args.handle c.args.size)) c.in_err-test_new_size.field-0.0 (g.G.GrowZone.asks c.args.procedure.now) (done_outcome end.result)
    (refused-later c.self.inside.zone.shape c.self.inside.zone.heap (IsHandle c.args.handle ∷ NotEmpty c.args.handle ∷ []) (NotLent c.args.handle ∷ IsSize c.args.size ∷ []) c.in_err-test_new_size.field-0.0 c.in_ok-test_full.ensures (rw c.number-block.ensures at c.in_err-test_new_size.ensures))
    c.requires (refused_outcome done_outcome (λ code. refl) end.result c.in_err-test_new_size.field-0.0 end.ensures.1) in
    record { exact = both.0; step = both.1; source = refl; shape = refl; loans = (refl, λ x loan held. held) }
