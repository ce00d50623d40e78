use Rattle.std.proofs.Common.{ℕ, List, sym, subst, ◌≡◌, Some, refl}
use Rattle.mac_base.specs.ZoneState.{ZoneState}
use Rattle.zone_index.specs.Marks.{AreMarked}
use Rattle.zone_index.proofs.Table.{given_back-marked}
use Rattle.zone_index.proofs.Rules.{Rule, fixes, goes}
use Rattle.mac_base.specs.HandleTable.{EmptyHandle, live_at, without}
use Rattle.zone_index.specs.LeafSums.{AreLeaves}
use Rattle.zone_index.specs.Pages.{ArePages}
use Rattle.zone_index.proofs.Changed.{released-weights}
use Rattle.zone_index.proofs.PagesRenewed.{pages-still}
use Rattle.zone_index.proofs.Measured.{lengths-of, lengths-kept, same-without}
use Rattle.zone_index.proofs.LeavesChanged.{leaves-still}
use Rattle.zone_index.proofs.zone.IndexedZone.release.Goals as goal

pub invariant_of-self : goal.invariant_of-self
invariant_of-self c =
    let keep : (r : Rule) (marks : List ℕ) → AreMarked r.test c.self.inside.zone marks → AreMarked r.test c.release.new.self marks = λ r marks are. subst (λ (z : ZoneState). AreMarked r.test z marks) (sym c.release.ensures) (given_back-marked r c.self.inside.zone marks are c.args.handle) in
    let empty = subst (λ (z : ZoneState). live_at z.heap.table c.args.handle ≡ Some EmptyHandle) (sym c.self.view_is) c.requires in record {
      fixed = keep fixes _ c.self.invariant.fixed;
      purgeable = keep goes _ c.self.invariant.purgeable;
      leaves = subst (λ (z : ZoneState). AreLeaves z c.self.inside.leaves) (sym c.release.ensures) (leaves-still c.self.inside.zone _ c.self.inside.leaves c.self.invariant.leaves refl (released-weights c.self.inside.zone c.args.handle empty));
      pages = subst (λ (z : ZoneState). ArePages z c.self.inside.pages) (sym c.release.ensures) (pages-still c.self.inside.zone _ c.self.inside.pages c.self.invariant.pages refl (released-weights c.self.inside.zone c.args.handle empty));
      lengths = (let empty = subst (λ (z : ZoneState). live_at z.heap.table c.args.handle ≡ Some EmptyHandle) (sym c.self.view_is) c.requires in lengths-of c.self.inside.lengths c.release.ensures (lengths-kept c.self.inside.zone.heap.table (without c.args.handle c.self.inside.zone.heap.table) c.self.inside.lengths c.self.invariant.lengths (same-without c.args.handle c.self.inside.zone.heap.table empty)));
    }
