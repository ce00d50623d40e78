use Rattle.std.proofs.Common.{[], ◌∷◌, Ok, refl, ap}
use Rattle.mac_base.specs.ZoneState.{ZoneState}
use Rattle.mac_base.specs.declared.memory_call.MemoryCall.TheVariants.{OnBlock}
use Rattle.mac_base.specs.declared.memory_call.BlockCall.TheVariants.{BlockMove}
use Rattle.mac_base.specs.declared.reply.Results.TheVariants.{Nothing}
use Rattle.mac_base.specs.Outcomes.{done_outcome}
use Rattle.mac_base.specs.Tests.{IsBlock, NotEmpty, NotLent, IsWithin}
use Rattle.mem_calls.proofs.KeptLoans.{kept}
use Rattle.mem_calls.proofs.Passing.{passed-block_move, refused-first, refused-later}
use Rattle.mem_calls.proofs.Stepping.{exact-done, both-refused, refused_outcome, step-exact}
use Rattle.mem_calls.proofs.manager.MemoryManager.block_move.Goals as goal

pub returns-clause-exact : goal.returns-clause-exact
returns-clause-exact c =
    exact-done c.args.self.now c.self.inside.zone c.copy.new.self c.self.view_is c.first_block.ensures.sound (OnBlock (BlockMove c.args.from c.args.start c.args.to c.args.offset c.args.count))
    (passed-block_move c.self.inside.zone.shape c.self.inside.zone.heap c.args.from c.args.start c.args.to c.args.offset c.args.count (rw (← c.self.view_is) at c.in_ok-test_block_here.ensures.refusal) (rw (← c.self.view_is) at c.in_ok-test_block_here-2.ensures.refusal) c.in_ok-test_within.ensures c.in_ok-test_within-2.ensures)
    (Ok Nothing) refl (ap (λ (z : ZoneState). z.heap) c.copy.ensures.zone) refl

pub returns-clause-step : goal.returns-clause-step
returns-clause-step c = step-exact c.args.self.now c.self.inside.zone c.copy.new.self c.self.view_is c.first_block.ensures.sound (OnBlock (BlockMove c.args.from c.args.start c.args.to c.args.offset c.args.count)) [] (Ok Nothing) (returns-clause-exact c)

pub returns-clause-loans : goal.returns-clause-loans
returns-clause-loans c = kept c.copy.ensures.loans c.self.view_is

pub returns-in_err-test_block_here : goal.returns-in_err-test_block_here
returns-in_err-test_block_here c = let end = c.from_residual in
    let both = both-refused c.args.self.now c.self.inside.zone c.self.view_is (OnBlock (BlockMove c.args.from c.args.start c.args.to c.args.offset c.args.count)) c.in_err-test_block_here.field-0.0 [] (done_outcome end.result)
    (refused-first c.self.inside.zone.shape c.self.inside.zone.heap (IsBlock c.args.from ∷ NotEmpty c.args.from ∷ NotLent c.args.from ∷ []) (IsBlock c.args.to ∷ NotEmpty c.args.to ∷ NotLent c.args.to ∷ IsWithin c.args.from c.args.start c.args.count ∷ IsWithin c.args.to c.args.offset c.args.count ∷ []) c.in_err-test_block_here.field-0.0 (rw (← c.self.view_is) at c.in_err-test_block_here.ensures.refusal))
    refl (refused_outcome done_outcome (λ code. refl) end.result c.in_err-test_block_here.field-0.0 end.ensures.1) in
    record { exact = both.0; step = both.1; shape = refl; loans = (refl, λ x loan held. held) }

pub returns-in_err-test_block_here-2 : goal.returns-in_err-test_block_here-2
returns-in_err-test_block_here-2 c = let end = c.from_residual-in_err-test_block_here-2 in
    let both = both-refused c.args.self.now c.self.inside.zone c.self.view_is (OnBlock (BlockMove c.args.from c.args.start c.args.to c.args.offset c.args.count)) c.in_err-test_block_here-2.field-0.0 [] (done_outcome end.result)
    (refused-later c.self.inside.zone.shape c.self.inside.zone.heap (IsBlock c.args.from ∷ NotEmpty c.args.from ∷ NotLent c.args.from ∷ []) (IsBlock c.args.to ∷ NotEmpty c.args.to ∷ NotLent c.args.to ∷ IsWithin c.args.from c.args.start c.args.count ∷ IsWithin c.args.to c.args.offset c.args.count ∷ []) c.in_err-test_block_here-2.field-0.0 (rw (← c.self.view_is) at c.in_ok-test_block_here.ensures.refusal) (refused-first c.self.inside.zone.shape c.self.inside.zone.heap (IsBlock c.args.to ∷ NotEmpty c.args.to ∷ NotLent c.args.to ∷ []) (IsWithin c.args.from c.args.start c.args.count ∷ IsWithin c.args.to c.args.offset c.args.count ∷ []) c.in_err-test_block_here-2.field-0.0 (rw (← c.self.view_is) at c.in_err-test_block_here-2.ensures.refusal)))
    refl (refused_outcome done_outcome (λ code. refl) end.result c.in_err-test_block_here-2.field-0.0 end.ensures.1) in
    record { exact = both.0; step = both.1; shape = refl; loans = (refl, λ x loan held. held) }

pub returns-in_err-test_within : goal.returns-in_err-test_within
returns-in_err-test_within c = let end = c.from_residual-in_err-test_within in
    let both = both-refused c.args.self.now c.self.inside.zone c.self.view_is (OnBlock (BlockMove c.args.from c.args.start c.args.to c.args.offset c.args.count)) c.in_err-test_within.field-0.0 [] (done_outcome end.result)
    (refused-later c.self.inside.zone.shape c.self.inside.zone.heap (IsBlock c.args.from ∷ NotEmpty c.args.from ∷ NotLent c.args.from ∷ []) (IsBlock c.args.to ∷ NotEmpty c.args.to ∷ NotLent c.args.to ∷ IsWithin c.args.from c.args.start c.args.count ∷ IsWithin c.args.to c.args.offset c.args.count ∷ []) c.in_err-test_within.field-0.0 (rw (← c.self.view_is) at c.in_ok-test_block_here.ensures.refusal) (refused-later c.self.inside.zone.shape c.self.inside.zone.heap (IsBlock c.args.to ∷ NotEmpty c.args.to ∷ NotLent c.args.to ∷ []) (IsWithin c.args.from c.args.start c.args.count ∷ IsWithin c.args.to c.args.offset c.args.count ∷ []) c.in_err-test_within.field-0.0 (rw (← c.self.view_is) at c.in_ok-test_block_here-2.ensures.refusal)
    (refused-first c.self.inside.zone.shape c.self.inside.zone.heap (IsWithin c.args.from c.args.start c.args.count ∷ []) (IsWithin c.args.to c.args.offset c.args.count ∷ []) c.in_err-test_within.field-0.0 c.in_err-test_within.ensures)))
    refl (refused_outcome done_outcome (λ code. refl) end.result c.in_err-test_within.field-0.0 end.ensures.1) in
    record { exact = both.0; step = both.1; shape = refl; loans = (refl, λ x loan held. held) }

pub returns-in_err-test_within-2 : goal.returns-in_err-test_within-2
returns-in_err-test_within-2 c = let end = c.from_residual-in_err-test_within-2 in
    let both = both-refused c.args.self.now c.self.inside.zone c.self.view_is (OnBlock (BlockMove c.args.from c.args.start c.args.to c.args.offset c.args.count)) c.in_err-test_within-2.field-0.0 [] (done_outcome end.result)
    (refused-later c.self.inside.zone.shape c.self.inside.zone.heap (IsBlock c.args.from ∷ NotEmpty c.args.from ∷ NotLent c.args.from ∷ []) (IsBlock c.args.to ∷ NotEmpty c.args.to ∷ NotLent c.args.to ∷ IsWithin c.args.from c.args.start c.args.count ∷ IsWithin c.args.to c.args.offset c.args.count ∷ []) c.in_err-test_within-2.field-0.0 (rw (← c.self.view_is) at c.in_ok-test_block_here.ensures.refusal) (refused-later c.self.inside.zone.shape c.self.inside.zone.heap (IsBlock c.args.to ∷ NotEmpty c.args.to ∷ NotLent c.args.to ∷ []) (IsWithin c.args.from c.args.start c.args.count ∷ IsWithin c.args.to c.args.offset c.args.count ∷ []) c.in_err-test_within-2.field-0.0 (rw (← c.self.view_is) at c.in_ok-test_block_here-2.ensures.refusal)
    (refused-later c.self.inside.zone.shape c.self.inside.zone.heap (IsWithin c.args.from c.args.start c.args.count ∷ []) (IsWithin c.args.to c.args.offset c.args.count ∷ []) c.in_err-test_within-2.field-0.0 c.in_ok-test_within.ensures c.in_err-test_within-2.ensures)))
    refl (refused_outcome done_outcome (λ code. refl) end.result c.in_err-test_within-2.field-0.0 end.ensures.1) in
    record { exact = both.0; step = both.1; shape = refl; loans = (refl, λ x loan held. held) }
