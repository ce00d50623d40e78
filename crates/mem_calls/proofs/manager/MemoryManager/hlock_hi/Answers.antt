use Rattle.std.proofs.Common.{[], true, Ok, refl, ap, ◌∙◌}
use Rattle.mac_base.specs.declared.block.Flags.{Flags}
use Rattle.mac_base.specs.HandleTable.{with_flags}
use Rattle.mac_base.specs.Compaction.{moved_high}
use Rattle.mac_base.specs.Heap.{with_map, with_table}
use Rattle.mac_base.specs.ZoneState.{ZoneState}
use Rattle.mac_base.specs.declared.memory_call.MemoryCall.TheVariants.{OnBlock}
use Rattle.mac_base.specs.declared.memory_call.BlockCall.TheVariants.{HLockHi}
use Rattle.mac_base.specs.declared.reply.Results.TheVariants.{Nothing}
use Rattle.mem_calls.proofs.KeptLoans.{kept}
use Rattle.mem_calls.proofs.Stepping.{exact-done, step-exact}
use Rattle.mem_calls.proofs.manager.MemoryManager.hlock_hi.Goals as goal

pub returns-clause-exact : goal.returns-clause-exact
returns-clause-exact c =
    let h = c.args.handle in
    let old = c.self.inside.zone.heap in
    let mid = with_map (moved_high old.table h old.map) old in
    let flags : Flags = record c.in_ok-flags.flags { lock = true } in
    exact-done c.args.self.now c.self.inside.zone c.set_flags.new.self c.self.view_is c.first_block.ensures.sound (OnBlock (HLockHi h)) c.in_ok-flags.ensures.refusal
    (Ok Nothing) refl
    (c.set_flags.ensures.heap ∙ ap (λ (z : ZoneState). with_table (with_flags h flags z.heap.table) z.heap) c.move_high.ensures.zone
    ∙ ap (λ (f : Flags). with_table (with_flags h (record f { lock = true }) mid.table) mid) c.in_ok-flags.ensures.value)
    refl

pub returns-clause-step : goal.returns-clause-step
returns-clause-step c = step-exact c.args.self.now c.self.inside.zone c.set_flags.new.self c.self.view_is c.first_block.ensures.sound (OnBlock (HLockHi c.args.handle)) [] (Ok Nothing) (returns-clause-exact c)

pub returns-clause-loans : goal.returns-clause-loans
returns-clause-loans c = kept (c.set_flags.ensures.loans.0 ∙ c.move_high.ensures.loans.0, λ x loan lent. c.set_flags.ensures.loans.1 x loan (c.move_high.ensures.loans.1 x loan lent)) c.self.view_is
