use Rattle.std.proofs.Common.{[], ◌∙◌}
use Rattle.mac_base.specs.HandleTable.{bytes_of}
use Rattle.mac_base.specs.ZoneState.{overwritten}
use Rattle.mac_base.specs.declared.memory_call.MemoryCall.TheVariants.{OnBlock, Requesting}
use Rattle.mac_base.specs.declared.memory_call.BlockCall.TheVariants.{HLock}
use Rattle.mac_base.specs.declared.memory_call.RequestingCall.TheVariants.{NewHandle}
use Rattle.zone_laws.proofs.LentSteps.{step_keeps_lent}
use Rattle.paint_trace.specs.Trace.{asks_of}
use Rattle.paint_trace.proofs.LockedBlocks.{locked_by, locked_is_full, still_locked}
use Rattle.paint_trace.proofs.palette.new_palette.Goals as goal

pub returns-in_err-palette-clause-nothing_lent : goal.returns-in_err-palette-clause-nothing_lent
returns-in_err-palette-clause-nothing_lent c =
    step_keeps_lent c.args.memory.now.shape c.args.memory.now.heap (Requesting (NewHandle 48)) (asks_of c.new_handle.new.procedure) _ c.new_handle.new.self.heap c.in_err-palette.ensures.step ∙ c.requires.nothing_lent

pub returns-in_err-hlock-clause-nothing_lent : goal.returns-in_err-hlock-clause-nothing_lent
returns-in_err-hlock-clause-nothing_lent c =
    step_keeps_lent c.new_handle.new.self.shape c.new_handle.new.self.heap (OnBlock (HLock c.in_ok-palette.palette)) [] _ c.hlock.new.self.heap c.in_err-hlock.ensures.step
    ∙ step_keeps_lent c.args.memory.now.shape c.args.memory.now.heap (Requesting (NewHandle 48)) (asks_of c.new_handle.new.procedure) _ c.new_handle.new.self.heap c.in_ok-palette.ensures.step ∙ c.requires.nothing_lent

pub contents_mut-requires : goal.contents_mut-requires
contents_mut-requires c = locked_is_full c.hlock.new.self.heap.table c.in_ok-palette.palette c.number.result c.number.ensures
    (step_keeps_lent c.new_handle.new.self.shape c.new_handle.new.self.heap (OnBlock (HLock c.in_ok-palette.palette)) [] _ c.hlock.new.self.heap c.in_ok-hlock.ensures.step ∙ step_keeps_lent c.args.memory.now.shape c.args.memory.now.heap (Requesting (NewHandle 48)) (asks_of c.new_handle.new.procedure) _ c.new_handle.new.self.heap c.in_ok-palette.ensures.step ∙ c.requires.nothing_lent)
    (locked_by c.new_handle.new.self.shape c.new_handle.new.self.heap c.hlock.new.self.heap c.in_ok-palette.palette c.in_ok-hlock.ensures.step)

pub returns-clause-nothing_lent : goal.returns-clause-nothing_lent
returns-clause-nothing_lent c =
    step_keeps_lent c.new_handle.new.self.shape c.new_handle.new.self.heap (OnBlock (HLock c.in_ok-palette.palette)) [] _ c.hlock.new.self.heap c.in_ok-hlock.ensures.step
    ∙ step_keeps_lent c.args.memory.now.shape c.args.memory.now.heap (Requesting (NewHandle 48)) (asks_of c.new_handle.new.procedure) _ c.new_handle.new.self.heap c.in_ok-palette.ensures.step ∙ c.requires.nothing_lent

pub returns-clause-locked : goal.returns-clause-locked
returns-clause-locked c =
    let t = c.hlock.new.self.heap.table in
    still_locked t c.in_ok-palette.palette c.number.result (overwritten (bytes_of t c.number.result) c.fill.new.self) c.number.ensures (locked_by c.new_handle.new.self.shape c.new_handle.new.self.heap c.hlock.new.self.heap c.in_ok-palette.palette c.in_ok-hlock.ensures.step)
