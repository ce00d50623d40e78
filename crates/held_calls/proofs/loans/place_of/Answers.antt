use Rattle.held_calls.proofs.Places.{stands_at}
use Rattle.held_calls.proofs.loans.place_of.Goals as goal

pub returns-in-loop-place-clause-stands : goal.returns-in-loop-place-clause-stands
returns-in-loop-place-clause-stands c = stands_at c.args.block c.args.places.now c.loop-place.place _ c.in-Some.held c.loop-place-test.true c.index-places-place.is c.in-Some.is c.if-held-block.true c.loop-place.invariant
