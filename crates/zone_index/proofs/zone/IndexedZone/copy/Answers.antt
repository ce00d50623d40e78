use Rattle.std.proofs.Common.{ℕ, List, sym, subst, refl}
use Rattle.mac_base.specs.ZoneState.{ZoneState}
use Rattle.zone_index.specs.Marks.{AreMarked}
use Rattle.zone_index.proofs.Table.{rewritten-marked}
use Rattle.zone_index.proofs.Rules.{Rule, fixes, goes}
use Rattle.zone_index.specs.LeafSums.{AreLeaves}
use Rattle.linked_zone.specs.Copying.{CanCopy, copied}
use Rattle.zone_index.specs.Pages.{ArePages}
use Rattle.zone_index.proofs.Bytes.{weights-bytes}
use Rattle.zone_index.proofs.PagesRenewed.{pages-still}
use Rattle.zone_index.proofs.Measured.{lengths-kept, lengths-of, same-copied}
use Rattle.zone_index.proofs.LeavesChanged.{leaves-still}
use Rattle.zone_index.proofs.zone.IndexedZone.copy.Goals as goal

pub invariant_of-self : goal.invariant_of-self
invariant_of-self c =
    let keep : (r : Rule) (marks : List ℕ) → AreMarked r.test c.self.inside.zone marks → AreMarked r.test c.copy.new.self marks = λ r marks are. subst (λ (z : ZoneState). AreMarked r.test z marks) (sym c.copy.ensures) (rewritten-marked r c.self.inside.zone marks are c.args.to _) in record {
      fixed = keep fixes _ c.self.invariant.fixed;
      purgeable = keep goes _ c.self.invariant.purgeable;
      leaves = subst (λ (z : ZoneState). AreLeaves z c.self.inside.leaves) (sym c.copy.ensures) (leaves-still c.self.inside.zone _ c.self.inside.leaves c.self.invariant.leaves refl (weights-bytes c.self.inside.zone.heap.table c.args.to _ c.self.inside.zone.heap.map));
      pages = subst (λ (z : ZoneState). ArePages z c.self.inside.pages) (sym c.copy.ensures) (pages-still c.self.inside.zone _ c.self.inside.pages c.self.invariant.pages refl (weights-bytes c.self.inside.zone.heap.table c.args.to _ c.self.inside.zone.heap.map));
      lengths = (let can = subst (λ (z : ZoneState). CanCopy z c.args.from c.args.start c.args.to c.args.offset c.args.count) (sym c.self.view_is) c.requires in
          lengths-of c.self.inside.lengths c.copy.ensures (lengths-kept c.self.inside.zone.heap.table (copied c.args.from c.args.start c.args.to c.args.offset c.args.count c.self.inside.zone).heap.table c.self.inside.lengths c.self.invariant.lengths (same-copied c.self.inside.zone c.args.from c.args.start c.args.to c.args.offset c.args.count can)));
    }
