use Rattle.std.proofs.Common.{sym}
use Rattle.std.proofs.lemmas.Result.{err_from_is_err_and}
use Rattle.mac_base.specs.declared.memory_call.MemoryCall.TheVariants.{OnBlock}
use Rattle.mac_base.specs.declared.memory_call.BlockCall.TheVariants.{Poke}
use Rattle.mem_calls.proofs.Brought.{KeepsLoans-written}
use Rattle.held_calls.proofs.Parts.{refused_step, poke_step}
use Rattle.held_calls.proofs.bytes.poke.Goals as goal

pub returns-in_err-test_part-clause-step : goal.returns-in_err-test_part-clause-step
returns-in_err-test_part-clause-step c =
    let p = err_from_is_err_and c.from_residual.result c.from_residual.ensures.1 in
    rw (p.1, p.2) (refused_step c.args.memory.now (OnBlock (Poke c.args.block c.args.offset c.args.bytes.now)) c.in_err-test_part.field-0.0 (sym c.in_err-test_part.ensures.refusal))

pub returns-clause-step : goal.returns-clause-step
returns-clause-step c = poke_step c.args.memory.now c.args.block c.args.offset c.args.bytes.now c.contents_mut-contents.result.now c.copy_from_slice.new.self (sym c.in_ok-test_part.ensures.refusal) c.in_ok-test_part.ensures.within c.contents_mut-contents.ensures.value c.copy_from_slice.ensures.after

pub returns-clause-loans : goal.returns-clause-loans
returns-clause-loans c = KeepsLoans-written c.args.memory.now c.args.block _ c.in_ok-test_part.ensures.full
