use Rattle.std.proofs.Common.{[], cond, None, Ok, Err, refl, ap, sym, ◌∙◌}
use Rattle.std.specs.Option.{option_or}
use Rattle.mac_base.specs.declared.error.OsErr.TheVariants.{MemFullErr}
use Rattle.mac_base.specs.ZoneState.{ZoneState}
use Rattle.mac_base.specs.declared.memory_call.MemoryCall.TheVariants.{OnZone}
use Rattle.mac_base.specs.declared.memory_call.ZoneCall.TheVariants.{PurgeMem}
use Rattle.mac_base.specs.declared.reply.Results.TheVariants.{Nothing}
use Rattle.mem_calls.proofs.KeptLoans.{kept}
use Rattle.mem_calls.proofs.Stepping.{exact-done, step-exact}
use Rattle.mem_calls.proofs.manager.MemoryManager.purge_mem.Goals as goal

pub returns-then-not-purge_to-clause-exact : goal.returns-then-not-purge_to-clause-exact
returns-then-not-purge_to-clause-exact c =
    exact-done c.args.self.now c.self.inside.zone c.purge_to.new.self c.self.view_is c.first_block.ensures.sound (OnZone (PurgeMem c.args.size)) (ap (λ o. option_or o None) c.in_ok-test_size.ensures)
    (Err MemFullErr) refl (ap (λ (z : ZoneState). z.heap) c.purge_to.ensures.zone) (sym (ap (λ b. cond b (Ok Nothing) (Err MemFullErr)) (sym c.purge_to.ensures.enough ∙ c.if-not-purge_to.true)))

pub returns-then-not-purge_to-clause-step : goal.returns-then-not-purge_to-clause-step
returns-then-not-purge_to-clause-step c = step-exact c.args.self.now c.self.inside.zone c.purge_to.new.self c.self.view_is c.first_block.ensures.sound (OnZone (PurgeMem c.args.size)) [] (Err MemFullErr) (returns-then-not-purge_to-clause-exact c)

pub returns-then-not-purge_to-clause-loans : goal.returns-then-not-purge_to-clause-loans
returns-then-not-purge_to-clause-loans c = kept c.purge_to.ensures.loans c.self.view_is

pub returns-clause-exact : goal.returns-clause-exact
returns-clause-exact c =
    exact-done c.args.self.now c.self.inside.zone c.purge_to.new.self c.self.view_is c.first_block.ensures.sound (OnZone (PurgeMem c.args.size)) (ap (λ o. option_or o None) c.in_ok-test_size.ensures)
    (Ok Nothing) refl (ap (λ (z : ZoneState). z.heap) c.purge_to.ensures.zone) (sym (ap (λ b. cond b (Ok Nothing) (Err MemFullErr)) (sym c.purge_to.ensures.enough ∙ c.if-not-purge_to.false)))

pub returns-clause-step : goal.returns-clause-step
returns-clause-step c = step-exact c.args.self.now c.self.inside.zone c.purge_to.new.self c.self.view_is c.first_block.ensures.sound (OnZone (PurgeMem c.args.size)) [] (Ok Nothing) (returns-clause-exact c)

pub returns-clause-loans : goal.returns-clause-loans
returns-clause-loans c = kept c.purge_to.ensures.loans c.self.view_is
