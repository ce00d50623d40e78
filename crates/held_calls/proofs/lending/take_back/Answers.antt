use Rattle.std.proofs.Common.{sym}
use Rattle.held_calls.proofs.Holding.{Holds-returned, return_step, taken_is_loan}
use Rattle.held_calls.proofs.lending.take_back.Goals as goal

pub give_back-requires : goal.give_back-requires
give_back-requires c =
    let taken = rw c.in_ok-loan.ensures.ok_part at c.take_out.ensures.loan in
    taken_is_loan c.args.memory.now c.args.block c.args.loans.now c.in_ok-loan.loan c.take_out.new.self taken c.requires.each

pub returns-clause-step : goal.returns-clause-step
returns-clause-step c =
    let taken = rw c.in_ok-loan.ensures.ok_part at c.take_out.ensures.loan in
    return_step c.args.memory.now c.give_back.new.self c.args.block c.args.loans.now c.in_ok-loan.loan c.take_out.new.self taken c.give_back.ensures.zone (sym c.in_ok-test_live.ensures) c.requires

pub returns-clause-holds : goal.returns-clause-holds
returns-clause-holds c =
    let taken = rw c.in_ok-loan.ensures.ok_part at c.take_out.ensures.loan in
    Holds-returned c.args.memory.now c.give_back.new.self c.args.block c.args.loans.now c.in_ok-loan.loan c.take_out.new.self taken c.give_back.ensures.zone c.give_back.ensures.loans c.requires
