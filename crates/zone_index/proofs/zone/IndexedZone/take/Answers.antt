use Rattle.zone_index.proofs.Rules.{fixes, goes}
use Rattle.zone_index.proofs.Table.{take-marked}
use Rattle.std.proofs.Common.{refl}
use Rattle.mac_base.specs.HandleTable.{EmptyHandle}
use Rattle.mac_base.specs.ZoneState.{ZoneState}
use Rattle.zone_index.proofs.Changed.{taken-kept}
use Rattle.zone_index.specs.Pages.{ArePages}
use Rattle.zone_index.specs.LeafSums.{AreLeaves}
use Rattle.zone_index.proofs.PagesRenewed.{pages-still}
use Rattle.zone_index.proofs.Measured.{lengths-given, lengths-of, lengths-still}
use Rattle.zone_index.proofs.LeavesChanged.{leaves-still}
use Rattle.zone_index.proofs.zone.IndexedZone.take.Goals as goal

pub invariant_of-self : goal.invariant_of-self
invariant_of-self c =
    record {
      fixed = take-marked fixes c.self.inside.zone c.self.inside.marks c.self.invariant.fixed c.take.new.self c.take.result c.take.ensures;
      purgeable = take-marked goes c.self.inside.zone c.self.inside.purgeable c.self.invariant.purgeable c.take.new.self c.take.result c.take.ensures;
      leaves = taken-kept (λ (z : ZoneState). AreLeaves z c.self.inside.leaves) c.self.inside.zone (λ heap. leaves-still c.self.inside.zone heap c.self.inside.leaves c.self.invariant.leaves) c.spec-spec.ensures.fits c.take.result c.take.new.self c.self.invariant.leaves c.take.ensures;
      pages = taken-kept (λ (z : ZoneState). ArePages z c.self.inside.pages) c.self.inside.zone (λ heap. pages-still c.self.inside.zone heap c.self.inside.pages c.self.invariant.pages) c.spec-spec.ensures.fits c.take.result c.take.new.self c.self.invariant.pages c.take.ensures;
      lengths = lengths-of c.self.inside.lengths c.in_err-handle.ensures.1 c.self.invariant.lengths;
    }

pub invariant_of-self-2 : goal.invariant_of-self-2
invariant_of-self-2 c =
    record {
      fixed = take-marked fixes c.self.inside.zone c.self.inside.marks c.self.invariant.fixed c.take.new.self c.take.result c.take.ensures;
      purgeable = take-marked goes c.self.inside.zone c.self.inside.purgeable c.self.invariant.purgeable c.take.new.self c.take.result c.take.ensures;
      leaves = taken-kept (λ (z : ZoneState). AreLeaves z c.self.inside.leaves) c.self.inside.zone (λ heap. leaves-still c.self.inside.zone heap c.self.inside.leaves c.self.invariant.leaves) c.spec-spec.ensures.fits c.take.result c.take.new.self c.self.invariant.leaves c.take.ensures;
      pages = taken-kept (λ (z : ZoneState). ArePages z c.self.inside.pages) c.self.inside.zone (λ heap. pages-still c.self.inside.zone heap c.self.inside.pages c.self.invariant.pages) c.spec-spec.ensures.fits c.take.result c.take.new.self c.self.invariant.pages c.take.ensures;
      lengths = lengths-of c.note.new.self c.in_ok-handle.ensures.1
          (lengths-given c.self.inside.zone.heap.table c.reach.new.self c.note.new.self c.in_ok-handle.handle c.number-2.result 0 c.number-2.ensures
          (lengths-still c.self.inside.zone.heap.table c.self.inside.lengths c.reach.new.self c.self.invariant.lengths c.reach.ensures) c.note.ensures EmptyHandle refl);
    }
