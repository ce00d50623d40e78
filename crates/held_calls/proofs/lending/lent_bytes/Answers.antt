use Rattle.std.proofs.Common.{◌≡◌, ◌<◌, ◌≤◌, ◌+◌, true, false, sym, length, arith}
use Rattle.std.specs.Prelude.{nat_le}
use Rattle.std.proofs.lemmas.Bool.Decides.{nat_tests}
use Rattle.mac_base.specs.LoanStep.{held_bytes}
use Rattle.held_calls.specs.Holding.{loans_of}
use Rattle.held_calls.proofs.Holding.{exceeds_lent, reaches_lent}
use Rattle.held_calls.proofs.lending.lent_bytes.Goals as goal

pub returns-then-has_part-clause-refusal : goal.returns-then-has_part-clause-refusal
returns-then-has_part-clause-refusal c =
    let all = rw c.in_ok-lent.ensures.ok_part at c.bytes.ensures.bytes in
    let is = rw c.in_ok-lent.ensures.ok_part at c.bytes.ensures.held in
    let part : nat_le (c.args.offset + c.args.count) (length c.in_ok-lent.lent.now) ≡ true = sym c.if-has_part.ensures in
    let within : c.args.offset + c.args.count ≤ length (held_bytes c.args.block (loans_of c.args.loans.now)) = rw (← all) (grind (arith, nat_tests)) in
    sym (reaches_lent c.args.memory.now c.args.loans.now c.args.block c.args.offset c.args.count c.requires (sym c.in_ok-test_live.ensures) (sym is) within)

pub returns-else-has_part-clause-refusal : goal.returns-else-has_part-clause-refusal
returns-else-has_part-clause-refusal c =
    let all = rw c.in_ok-lent.ensures.ok_part at c.bytes.ensures.bytes in
    let is = rw c.in_ok-lent.ensures.ok_part at c.bytes.ensures.held in
    let part : nat_le (c.args.offset + c.args.count) (length c.in_ok-lent.lent.now) ≡ false = sym c.if-has_part.ensures in
    let beyond : length (held_bytes c.args.block (loans_of c.args.loans.now)) < c.args.offset + c.args.count = rw (← all) (grind (arith, nat_tests)) in
    sym (exceeds_lent c.args.memory.now c.args.loans.now c.args.block c.args.offset c.args.count c.requires (sym c.in_ok-test_live.ensures) (sym is) beyond)
