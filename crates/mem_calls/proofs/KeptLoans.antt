-- What a zone keeps of its loans, the Memory Manager keeps.
use Rattle.std.proofs.Common.{◌≡◌, ℕ, subst}
use Rattle.mac_base.specs.ZoneState.{ZoneState}
use Rattle.linked_zone.specs.Loans.{KeepsLoans, KeepsOtherLoans}

-- the loans of the zone are those of what shows it
pub kept : {old zone new : ZoneState} → KeepsLoans zone new → zone ≡ old → KeepsLoans old new
kept {new = new} keeps is = subst (λ (z : ZoneState). KeepsLoans z new) is keeps

-- all but one
pub kept_others : {x : ℕ} {old zone new : ZoneState} → KeepsOtherLoans x zone new → zone ≡ old → KeepsOtherLoans x old new
kept_others {x = x} {new = new} keeps is = subst (λ (z : ZoneState). KeepsOtherLoans x z new) is keeps
