use Rattle.std.proofs.Common.{[], Ok, refl, ap}
use Rattle.mac_base.specs.ZoneState.{ZoneState}
use Rattle.mac_base.specs.declared.memory_call.MemoryCall.TheVariants.{OnBlock}
use Rattle.mac_base.specs.declared.memory_call.BlockCall.TheVariants.{MoveHHi}
use Rattle.mac_base.specs.declared.reply.Results.TheVariants.{Nothing}
use Rattle.mem_calls.proofs.KeptLoans.{kept}
use Rattle.mem_calls.proofs.Stepping.{exact-done, step-exact}
use Rattle.mem_calls.proofs.manager.MemoryManager.move_hhi.Goals as goal

pub returns-clause-exact : goal.returns-clause-exact
returns-clause-exact c =
    exact-done c.args.self.now c.self.inside.zone c.move_high.new.self c.self.view_is c.first_block.ensures.sound (OnBlock (MoveHHi c.args.handle)) c.in_ok-test_movable.ensures.refusal
    (Ok Nothing) refl (ap (λ (z : ZoneState). z.heap) c.move_high.ensures.zone) refl

pub returns-clause-step : goal.returns-clause-step
returns-clause-step c = step-exact c.args.self.now c.self.inside.zone c.move_high.new.self c.self.view_is c.first_block.ensures.sound (OnBlock (MoveHHi c.args.handle)) [] (Ok Nothing) (returns-clause-exact c)

pub returns-clause-loans : goal.returns-clause-loans
returns-clause-loans c = kept c.move_high.ensures.loans c.self.view_is
