use Rattle.std.proofs.Common.{subst}
use Rattle.linked_zone.specs.Loans.{KeepsLoans}
use Rattle.zone_heap.proofs.zone.Zone.attempt.Goals as goal

pub returns-in_ok-new_block-in-NewBlock-clause-loans : goal.returns-in_ok-new_block-in-NewBlock-clause-loans
returns-in_ok-new_block-in-NewBlock-clause-loans c = subst (λ old. KeepsLoans old c.new_block.new.zone) c.self.view_is c.new_block.ensures.loans

pub returns-in_ok-new_pointer-in-NewPointer-clause-loans : goal.returns-in_ok-new_pointer-in-NewPointer-clause-loans
returns-in_ok-new_pointer-in-NewPointer-clause-loans c = subst (λ old. KeepsLoans old c.new_pointer.new.zone) c.self.view_is c.new_pointer.ensures.loans

pub returns-in_ok-resize_block-in-Resize-clause-loans : goal.returns-in_ok-resize_block-in-Resize-clause-loans
returns-in_ok-resize_block-in-Resize-clause-loans c = subst (λ old. KeepsLoans old c.resize_block.new.zone) c.self.view_is c.resize_block.ensures.loans

pub returns-in_ok-replace-in-Replace-clause-loans : goal.returns-in_ok-replace-in-Replace-clause-loans
returns-in_ok-replace-in-Replace-clause-loans c = subst (λ old. KeepsLoans old c.replace.new.zone) c.self.view_is c.replace.ensures.loans
