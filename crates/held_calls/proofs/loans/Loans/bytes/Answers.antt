use Rattle.std.proofs.Common.{◌∙◌, ap, sym, List}
use Rattle.mac_base.specs.LoanStep.{held_bytes}
use Rattle.held_calls.specs.Holding.{loans_of}
use Rattle.held_calls.specs.declared.loans.Held.{Held}
use Rattle.held_calls.proofs.Places.{bytes_at}
use Rattle.held_calls.proofs.loans.Loans.bytes.Goals as goal

pub returns-clause-bytes : goal.returns-clause-bytes
returns-clause-bytes c =
    c.bytes.ensures
    ∙ bytes_at c.args.block c.self.inside.places c.in_ok-place.place _ c.in_ok-held.held.now c.in_ok-place.ensures.stands c.index-self-place.is (c.index-self-place.is ∙ sym c.in_ok-held.ensures.value)
    ∙ ap (λ (hs : List Held). held_bytes c.args.block (loans_of hs)) c.self.view_is
