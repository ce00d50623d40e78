use Rattle.std.proofs.Common.{refl, sym}
use Rattle.std.proofs.lemmas.Result.{err_from_is_err_and}
use Rattle.mac_base.specs.declared.memory_call.MemoryCall.TheVariants.{Showing}
use Rattle.mac_base.specs.declared.memory_call.ShowingCall.TheVariants.{Peek}
use Rattle.held_calls.proofs.Parts.{refused_step, peek_step}
use Rattle.held_calls.proofs.bytes.peek.Goals as goal

pub returns-in_err-test_part-clause-refused : goal.returns-in_err-test_part-clause-refused
returns-in_err-test_part-clause-refused c =
    let p = err_from_is_err_and c.from_residual.result c.from_residual.ensures.1 in
    rw (p.1, p.2) (refused_step c.args.memory.now (Showing (Peek c.args.block c.args.offset c.args.count)) c.in_err-test_part.field-0.0 (sym c.in_err-test_part.ensures.refusal))

pub returns-clause-step : goal.returns-clause-step
returns-clause-step c = peek_step c.args.memory.now c.args.block c.args.offset c.args.count c.contents.result.now _ (sym c.in_ok-test_part.ensures.refusal) c.contents.ensures refl
