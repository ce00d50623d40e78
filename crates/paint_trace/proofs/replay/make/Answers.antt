use Rattle.std.proofs.Common.{[], arith, refl, ◌∙◌}
use Rattle.zone_laws.proofs.LentSteps.{step_keeps_lent}
use Rattle.mac_base.specs.declared.memory_call.MemoryCall.TheVariants.{Requesting}
use Rattle.mac_base.specs.declared.memory_call.RequestingCall.TheVariants.{NewHandle, SetHandleSize}
use Rattle.paint_trace.specs.declared.trace.Action.TheVariants as action
use Rattle.paint_trace.specs.Trace.{asks_of}
use Rattle.paint_trace.proofs.LockedSteps.{none_answered, others_given, others_kept}
use Rattle.paint_trace.proofs.replay.make.Goals as goal

pub returns-in_err-handles-in-NewHandle-clause-others : goal.returns-in_err-handles-in-NewHandle-clause-others
returns-in_err-handles-in-NewHandle-clause-others c = others_kept c.args.handles.now c.args.step.block c.index-handles-step.result c.args.memory.now.shape c.args.memory.now.heap (action.NewHandle c.in-NewHandle.size) (asks_of c.new_handle.new.procedure) _ c.new_handle.new.self.heap (omega (arith, c.requires, c.told-handles)) (none_answered c.new_handle.new.procedure (c.in_err-handles-in-NewHandle.ensures.source ∙ c.without_cushion.ensures.source)) c.in_err-handles-in-NewHandle.ensures.step

pub returns-in_err-handles-in-NewHandle-clause-lent : goal.returns-in_err-handles-in-NewHandle-clause-lent
returns-in_err-handles-in-NewHandle-clause-lent c = step_keeps_lent c.args.memory.now.shape c.args.memory.now.heap (Requesting (NewHandle c.in-NewHandle.size)) (asks_of c.new_handle.new.procedure) _ c.new_handle.new.self.heap c.in_err-handles-in-NewHandle.ensures.step

pub returns-in_ok-handles-in-NewHandle-clause-others : goal.returns-in_ok-handles-in-NewHandle-clause-others
returns-in_ok-handles-in-NewHandle-clause-others c = others_given c.args.handles.now c.args.step.block c.in-NewHandle.size c.args.memory.now.shape c.args.memory.now.heap c.new_handle.new.procedure c.in_ok-handles-in-NewHandle.field-0 c.new_handle.new.self.heap (c.in_ok-handles-in-NewHandle.ensures.source ∙ c.without_cushion.ensures.source) c.in_ok-handles-in-NewHandle.ensures.step

pub returns-in_ok-handles-in-NewHandle-clause-lent : goal.returns-in_ok-handles-in-NewHandle-clause-lent
returns-in_ok-handles-in-NewHandle-clause-lent c = step_keeps_lent c.args.memory.now.shape c.args.memory.now.heap (Requesting (NewHandle c.in-NewHandle.size)) (asks_of c.new_handle.new.procedure) _ c.new_handle.new.self.heap c.in_ok-handles-in-NewHandle.ensures.step

pub returns-in-SetHandleSize-clause-others : goal.returns-in-SetHandleSize-clause-others
returns-in-SetHandleSize-clause-others c = others_kept c.args.handles.now c.args.step.block c.index-handles-step.result c.args.memory.now.shape c.args.memory.now.heap (action.SetHandleSize c.in-SetHandleSize.size) (asks_of c.set_handle_size.new.procedure) _ c.set_handle_size.new.self.heap (omega (arith, c.requires, c.told-handles)) (none_answered c.set_handle_size.new.procedure (c.set_handle_size.ensures.source ∙ c.without_cushion.ensures.source)) c.set_handle_size.ensures.step

pub returns-in-SetHandleSize-clause-lent : goal.returns-in-SetHandleSize-clause-lent
returns-in-SetHandleSize-clause-lent c = step_keeps_lent c.args.memory.now.shape c.args.memory.now.heap (Requesting (SetHandleSize _ c.in-SetHandleSize.size)) (asks_of c.set_handle_size.new.procedure) _ c.set_handle_size.new.self.heap c.set_handle_size.ensures.step

pub returns-in-HLock-clause-others : goal.returns-in-HLock-clause-others
returns-in-HLock-clause-others c = others_kept c.args.handles.now c.args.step.block c.index-handles-step.result c.args.memory.now.shape c.args.memory.now.heap action.HLock [] _ c.hlock.new.self.heap (omega (arith, c.requires, c.told-handles)) refl c.hlock.ensures.step

pub returns-in-HUnlock-clause-others : goal.returns-in-HUnlock-clause-others
returns-in-HUnlock-clause-others c = others_kept c.args.handles.now c.args.step.block c.index-handles-step.result c.args.memory.now.shape c.args.memory.now.heap action.HUnlock [] _ c.hunlock.new.self.heap (omega (arith, c.requires, c.told-handles)) refl c.hunlock.ensures.step

pub returns-in-HPurge-clause-others : goal.returns-in-HPurge-clause-others
returns-in-HPurge-clause-others c = others_kept c.args.handles.now c.args.step.block c.index-handles-step.result c.args.memory.now.shape c.args.memory.now.heap action.HPurge [] _ c.hpurge.new.self.heap (omega (arith, c.requires, c.told-handles)) refl c.hpurge.ensures.step

pub returns-in-DisposeHandle-clause-others : goal.returns-in-DisposeHandle-clause-others
returns-in-DisposeHandle-clause-others c = others_kept c.args.handles.now c.args.step.block c.index-handles-step.result c.args.memory.now.shape c.args.memory.now.heap action.DisposeHandle [] _ c.dispose_handle.new.self.heap (omega (arith, c.requires, c.told-handles)) refl c.dispose_handle.ensures.step
