use Rattle.std.proofs.Common.{◌∙◌, None, sym, refl}
use Rattle.held_calls.proofs.Places.{taken_at}
use Rattle.held_calls.proofs.loans.Loans.window.Goals as goal

pub returns-clause-window : goal.returns-clause-window
returns-clause-window c = rw (← c.self.view_is) (c.in_ok-held.held.now.loan, _, taken_at c.args.block c.self.inside.places c.in_ok-place.place _ c.in_ok-held.held.now None c.in_ok-place.ensures.stands c.index-self-place.is (c.index-self-place.is ∙ sym c.in_ok-held.ensures.value) refl, c.window_on.ensures)
