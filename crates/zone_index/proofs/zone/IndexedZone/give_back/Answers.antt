use Rattle.std.proofs.Common.{ℕ, List, sym, subst, refl}
use Rattle.mac_base.specs.ZoneState.{ZoneState}
use Rattle.zone_index.specs.Marks.{AreMarked}
use Rattle.zone_index.proofs.Table.{returned-marked}
use Rattle.zone_index.proofs.Rules.{Rule, fixes, goes}
use Rattle.zone_index.specs.LeafSums.{AreLeaves}
use Rattle.mac_base.specs.Loans.{returned}
use Rattle.linked_zone.specs.Loans.{IsLoanOf}
use Rattle.zone_index.specs.Pages.{ArePages}
use Rattle.zone_index.proofs.Changed.{returned-weights}
use Rattle.zone_index.proofs.PagesRenewed.{pages-still}
use Rattle.zone_index.proofs.Measured.{lengths-kept, lengths-of, same-with_bytes}
use Rattle.zone_index.proofs.LeavesChanged.{leaves-still}
use Rattle.zone_index.proofs.zone.IndexedZone.give_back.Goals as goal

pub invariant_of-self : goal.invariant_of-self
invariant_of-self c =
    let keep : (r : Rule) (marks : List ℕ) → AreMarked r.test c.self.inside.zone marks → AreMarked r.test c.give_back.new.self marks = λ r marks are. subst (λ (z : ZoneState). AreMarked r.test z marks) (sym c.give_back.ensures) (returned-marked r c.self.inside.zone marks are c.args.block c.args.loan.bytes) in record {
      fixed = keep fixes _ c.self.invariant.fixed;
      purgeable = keep goes _ c.self.invariant.purgeable;
      leaves = subst (λ (z : ZoneState). AreLeaves z c.self.inside.leaves) (sym c.give_back.ensures) (leaves-still c.self.inside.zone _ c.self.inside.leaves c.self.invariant.leaves refl (returned-weights c.self.inside.zone c.args.block c.args.loan.bytes));
      pages = subst (λ (z : ZoneState). ArePages z c.self.inside.pages) (sym c.give_back.ensures) (pages-still c.self.inside.zone _ c.self.inside.pages c.self.invariant.pages refl (returned-weights c.self.inside.zone c.args.block c.args.loan.bytes));
      lengths = (let loan = subst (λ (z : ZoneState). IsLoanOf z c.args.block c.args.loan) (sym c.self.view_is) c.requires in
          lengths-of c.self.inside.lengths c.give_back.ensures (lengths-kept c.self.inside.zone.heap.table (returned c.args.block c.args.loan.bytes c.self.inside.zone.heap).table c.self.inside.lengths c.self.invariant.lengths (same-with_bytes c.args.block c.args.loan.bytes c.self.inside.zone.heap.table loan.long)));
    }
