use Rattle.std.proofs.Common.{inl, inr}
use Rattle.script_run.proofs.Opening.{on_fault, on_fault_of}
use Rattle.script_run.proofs.machine.Machine.run_call.Goals as goal

pub returns-in_err-reply-clause-stops : goal.returns-in_err-reply-clause-stops
returns-in_err-reply-clause-stops g c = on_fault c.from_residual.result (inl (rw c.resolve-call.ensures at c.in_err-reply.ensures.unchanged, rw c.resolve-call.ensures at c.in_err-reply.ensures.full, rw c.resolve-call.ensures at c.in_err-reply.ensures.late))

pub returns-clause-stops : goal.returns-clause-stops
returns-clause-stops g c =
    let step = rw c.resolve-call.ensures at c.in_ok-reply.ensures.step in
    let long = rw (c.as_slice.ensures.value, c.asked.ensures, c.name.ensures) at c.put.ensures.long in
    on_fault_of c.put.result (λ long. inr (c.in_ok-reply.reply, c.step_queued.new.queue.asks, step, long)) long
