use Rattle.std.proofs.Common.{sym, subst, List}
use Rattle.held_calls.specs.Holding.{Holds}
use Rattle.held_calls.specs.declared.loans.Held.{Held}
use Rattle.held_calls.proofs.Holding.{lent_poke_step, Holds-written}
use Rattle.held_calls.proofs.lending.lent_poke.Goals as goal

pub returns-clause-step : goal.returns-clause-step
returns-clause-step c = lent_poke_step c.args.memory.now c.args.loans.now c.args.block c.args.offset c.args.bytes.now c.write.new.self c.requires (sym c.in_ok-lent_bytes.ensures.refusal) c.write.ensures

pub returns-clause-holds : goal.returns-clause-holds
returns-clause-holds c =
    let now = Holds-written c.args.memory.now c.args.loans.now c.args.block c.args.offset c.args.bytes.now (rw (← c.in_ok-lent_bytes.ensures.bytes) c.in_ok-lent_bytes.ensures.within) c.requires in
    let P : List Held → Type 0 = λ hs. Holds c.args.memory.now hs in
    subst P (sym c.write.ensures) now
