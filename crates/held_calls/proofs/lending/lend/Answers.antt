use Rattle.std.proofs.Common.{sym, subst, List}
use Rattle.held_calls.specs.Holding.{Holds}
use Rattle.held_calls.specs.declared.loans.Held.{Held}
use Rattle.held_calls.proofs.Holding.{passed-Lend, room_to_lend, Holds-lent}
use Rattle.held_calls.proofs.lending.lend.Goals as goal

pub add-requires : goal.add-requires
add-requires c = record { room = room_to_lend c.args.memory.now c.args.loans.now c.args.block c.requires (sym c.in_ok-loan.ensures.refusal) }

pub returns-clause-holds : goal.returns-clause-holds
returns-clause-holds c =
    let free = (passed-Lend c.args.memory.now.shape c.args.memory.now.heap c.args.block (sym c.in_ok-loan.ensures.refusal)).not_lent in
    let now = Holds-lent c.args.memory.now c.lend.new.self c.args.loans.now c.args.block c.in_ok-loan.loan c.in_ok-loan.ensures.zone c.in_ok-loan.ensures.loan c.lend.ensures.loans free c.requires in
    let P : List Held → Type 0 = λ hs. Holds c.lend.new.self hs in
    subst P (sym c.add.ensures) now
