use Rattle.std.proofs.Common.{ℕ, List, sym, subst, refl}
use Rattle.mac_base.specs.ZoneState.{ZoneState}
use Rattle.zone_index.specs.Marks.{AreMarked}
use Rattle.zone_index.proofs.Table.{lent_out-marked}
use Rattle.zone_index.proofs.Rules.{Rule, fixes, goes}
use Rattle.zone_index.specs.LeafSums.{AreLeaves}
use Rattle.zone_index.specs.Pages.{ArePages}
use Rattle.zone_index.proofs.Changed.{lent-weights}
use Rattle.zone_index.proofs.PagesRenewed.{pages-still}
use Rattle.zone_index.proofs.Measured.{lengths-of}
use Rattle.zone_index.proofs.LeavesChanged.{leaves-still}
use Rattle.zone_index.proofs.zone.IndexedZone.lend.Goals as goal

pub invariant_of-self : goal.invariant_of-self
invariant_of-self c =
    let keep : (r : Rule) (marks : List ℕ) → AreMarked r.test c.self.inside.zone marks → AreMarked r.test c.lend.new.self marks = λ r marks are. subst (λ (z : ZoneState). AreMarked r.test z marks) (sym c.lend.ensures.zone) (lent_out-marked r c.self.inside.zone marks are c.args.block) in record {
      fixed = keep fixes _ c.self.invariant.fixed;
      purgeable = keep goes _ c.self.invariant.purgeable;
      leaves = subst (λ (z : ZoneState). AreLeaves z c.self.inside.leaves) (sym c.lend.ensures.zone) (leaves-still c.self.inside.zone _ c.self.inside.leaves c.self.invariant.leaves refl (lent-weights c.self.inside.zone c.args.block));
      pages = subst (λ (z : ZoneState). ArePages z c.self.inside.pages) (sym c.lend.ensures.zone) (pages-still c.self.inside.zone _ c.self.inside.pages c.self.invariant.pages refl (lent-weights c.self.inside.zone c.args.block));
      lengths = lengths-of c.self.inside.lengths c.lend.ensures.zone c.self.invariant.lengths;
    }
