use Rattle.held_calls.proofs.Places.{first_at}
use Rattle.held_calls.proofs.loans.first_block.Goals as goal

pub returns-in-Some-clause-first : goal.returns-in-Some-clause-first
returns-in-Some-clause-first c = first_at c.args.places.now c.loop-held.held-index _ c.in-Some.held c.loop-held-test.true c.held-item.is c.in-Some.is c.loop-held.invariant
