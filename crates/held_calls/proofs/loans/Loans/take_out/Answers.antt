use Rattle.std.proofs.Common.{◌∙◌, sym}
use Rattle.held_calls.proofs.Places.{taken_at}
use Rattle.held_calls.proofs.loans.Loans.take_out.Goals as goal

pub returns-clause-loan : goal.returns-clause-loan
returns-clause-loan c = rw (← c.self.view_is) (taken_at c.args.block c.self.inside.places c.in_ok-place.place _ c.in_ok-loan.field-0 _ c.in_ok-place.ensures.stands c.index-self-place.is (c.index-self-place.is ∙ sym c.in_ok-loan.ensures.value) c.take.ensures.after)
