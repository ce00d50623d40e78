use Rattle.std.proofs.Common.{sym, ◌∙◌}
use Rattle.held_calls.proofs.Places.{free_at, free_inside}
use Rattle.held_calls.proofs.loans.free_place.Goals as goal

pub returns : goal.returns
returns c = free_at c.args.places.now c.loop-place.place _ (free_inside c.args.places.now c.loop-place.place c.loop-place.invariant c.requires) c.index-places-place.is (sym c.is_some.ensures ∙ c.loop-place-test.false)
