use Rattle.std.proofs.Common.{◌<◌, sym, subst}
use Rattle.mac_base.specs.Loans.{most_loans, lent_out}
use Rattle.mac_base.specs.ZoneState.{ZoneState, with_heap}
use Rattle.linked_zone.specs.Loans.{IsLoanOf}
use Rattle.linked_zone.proofs.Standing.{Kept, stands-now}
use Rattle.linked_zone.proofs.Unlent.{count-read}
use Rattle.linked_zone.proofs.EndsLoans.{lend-can, lend-ends, lend-loan, lend-bytes}
use Rattle.linked_zone.proofs.zone.LinkedZone.lend.Goals as goal

pub lend-requires-clause-held : goal.lend-requires-clause-held
lend-requires-clause-held c = lend-can _ _ (stands-now c.self.invariant c.self.view_is) c.args.block c.address_of-at.result c.address_of-at.ensures c.requires.here

pub lend-requires-clause-few : goal.lend-requires-clause-few
lend-requires-clause-few c = subst (λ n. n < most_loans) (sym (count-read _ _ (stands-now c.self.invariant c.self.view_is))) c.requires.few

-- how it ends
ends : (c : goal.After-lend) → Kept c.lend.new.self (with_heap (lent_out c.args.block c.args.self.now.heap) c.args.self.now)
ends c = lend-ends _ _ (stands-now c.self.invariant c.self.view_is) c.args.block c.address_of-at.result c.address_of-at.ensures c.requires.here c.requires.few c.lend.new.self c.lend.ensures.zone

pub invariant_of-self : goal.invariant_of-self
invariant_of-self c = (ends c).inside

pub returns-clause-zone : goal.returns-clause-zone
returns-clause-zone c = (ends c).same

pub returns-clause-loan : goal.returns-clause-loan
returns-clause-loan c =
    subst (λ (z : ZoneState). IsLoanOf z c.args.block c.lend.result) (sym (ends c).same)
    (lend-loan _ _ (stands-now c.self.invariant c.self.view_is) c.args.block c.address_of-at.result c.address_of-at.ensures c.requires.here c.lend.result c.lend.ensures.loan)

pub returns-clause-bytes : goal.returns-clause-bytes
returns-clause-bytes c = lend-bytes _ _ (stands-now c.self.invariant c.self.view_is) c.args.block c.address_of-at.result c.address_of-at.ensures c.requires.here c.lend.result c.lend.ensures.loan
