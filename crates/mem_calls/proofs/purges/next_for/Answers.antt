use Rattle.std.proofs.Common.{◌∙◌, subst}
use Rattle.linked_zone.specs.Loans.{KeepsLoans}
use Rattle.mem_calls.proofs.purges.next_for.Goals as goal
use Rattle.mem_calls.proofs.purges.next_for.Goals.{then-lacks_slot+else-is_some+else-is_err, else-lacks_slot}

pub returns-clause-loans : goal.returns-clause-loans
returns-clause-loans c = elim c.if-lacks_slot.branch [
  | then-lacks_slot+else-is_some+else-is_err w ↦
      let last = subst (λ z. KeepsLoans z c.next_purge.new.self) w.zone-is c.next_purge.ensures.loans in
      let first = w.next_purge-first.ensures.loans in
      let made = w.attempt.ensures.loans in
      (last.0 ∙ made.0 ∙ first.0, λ x loan lent. last.1 x loan (made.1 x loan (first.1 x loan lent)))
  | else-lacks_slot w ↦ subst (λ z. KeepsLoans z c.next_purge.new.self) w.zone-is c.next_purge.ensures.loans
]
