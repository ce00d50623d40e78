use Rattle.std.proofs.Common.{[], None, Ok, refl, ap}
use Rattle.std.specs.Option.{option_or}
use Rattle.mac_base.specs.ZoneState.{ZoneState}
use Rattle.mac_base.specs.declared.memory_call.MemoryCall.TheVariants.{OnZone}
use Rattle.mac_base.specs.declared.memory_call.ZoneCall.TheVariants.{CompactMem}
use Rattle.mac_base.specs.declared.reply.Results.TheVariants.{Number}
use Rattle.mem_calls.proofs.KeptLoans.{kept}
use Rattle.mem_calls.proofs.Stepping.{exact-done, step-exact}
use Rattle.mem_calls.proofs.manager.MemoryManager.compact_mem.Goals as goal

pub returns-clause-exact : goal.returns-clause-exact
returns-clause-exact c =
    exact-done c.args.self.now c.self.inside.zone c.compact.new.self c.self.view_is c.first_block.ensures.sound (OnZone (CompactMem c.args.size)) (ap (λ o. option_or o None) c.in_ok-test_size.ensures)
    (Ok (Number c.compact.result)) refl (ap (λ (z : ZoneState). z.heap) c.compact.ensures.zone) (ap (λ n. Ok (Number n)) c.compact.ensures.largest)

pub returns-clause-step : goal.returns-clause-step
returns-clause-step c = step-exact c.args.self.now c.self.inside.zone c.compact.new.self c.self.view_is c.first_block.ensures.sound (OnZone (CompactMem c.args.size)) [] (Ok (Number c.compact.result)) (returns-clause-exact c)

pub returns-clause-loans : goal.returns-clause-loans
returns-clause-loans c = kept c.compact.ensures.loans c.self.view_is
