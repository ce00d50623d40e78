use Rattle.std.proofs.Common.{◌∙◌, ap, subst}
use Rattle.mac_base.specs.HandleTable.{is_handle, is_lent}
use Rattle.mac_base.specs.ZoneState.{ZoneState}
use Rattle.linked_zone.specs.Loans.{KeepsLoans}
use Rattle.zone_heap.proofs.zone.Zone.empty.Goals as goal

pub empty-requires-clause-live : goal.empty-requires-clause-live
empty-requires-clause-live c = ap (λ (z : ZoneState). is_handle z.heap.table c.args.handle) c.self.view_is ∙ c.requires.live

pub empty-requires-clause-here : goal.empty-requires-clause-here
empty-requires-clause-here c = ap (λ (z : ZoneState). is_lent z.heap.table c.args.handle) c.self.view_is ∙ c.requires.here

pub returns-clause-loans : goal.returns-clause-loans
returns-clause-loans c = subst (λ old. KeepsLoans old c.empty.new.pointers) c.self.view_is c.empty.ensures.loans
