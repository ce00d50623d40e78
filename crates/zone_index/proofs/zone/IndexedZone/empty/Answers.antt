use Rattle.std.proofs.Common.{ap, sym, ◌∙◌, set, subst, refl}
use Rattle.mac_base.specs.Gap.{is_fixed}
use Rattle.mac_base.specs.ZoneState.{ZoneState}
use Rattle.linked_zone.specs.Changes.{without_block}
use Rattle.zone_index.specs.Marks.{AreMarked}
use Rattle.zone_index.specs.Purging.{may_go}
use Rattle.zone_index.proofs.Freed.{emptied-marked}
use Rattle.zone_index.proofs.Placed.{placed}
use Rattle.zone_index.proofs.Rules.{fixes, goes}
use Rattle.zone_index.specs.LeafSums.{AreLeaves}
use Rattle.linked_zone.specs.Fit.{Fits}
use Rattle.zone_index.proofs.Changed.{emptied-other}
use Rattle.zone_index.proofs.Changing.{pages-other}
use Rattle.zone_index.proofs.PagesKept.{forgets-read, pages-kept}
use Rattle.mac_base.specs.HandleTable.{EmptyHandle}
use Rattle.zone_index.proofs.Measured.{lengths-given, lengths-of}
use Rattle.zone_index.proofs.LeavesChanged.{leaf-there, leaves-other, touched-first}
use Rattle.zone_index.proofs.zone.IndexedZone.empty.Goals as goal

pub invariant_of-self : goal.invariant_of-self
invariant_of-self c =
    let z = c.self.inside.zone in
    let p = placed z c.args.self.now c.self.view_is c.block_of-at.result c.place-place.result c.place-place.ensures.value c.place-place.ensures.inside c.place-place.ensures.sizes in
    let fits = subst Fits (sym c.self.view_is) c.page-page.ensures.fits in
    let other = emptied-other c.self.inside.zone c.args.handle fits c.block_of-at.ensures in record {
      fixed = subst (λ (z : ZoneState). AreMarked is_fixed z c.set.new.self) (sym c.empty.ensures)
          (subst (AreMarked is_fixed (without_block c.args.handle z)) (sym (c.set.ensures ∙ ap (λ p. set c.self.inside.marks p 0) p.value))
          (emptied-marked fixes z c.self.inside.marks c.self.invariant.fixed c.args.handle c.block_of-at.result p.sizes c.block_of-at.ensures p.inside));
      purgeable = subst (λ (z : ZoneState). AreMarked may_go z c.set-2.new.self) (sym c.empty.ensures)
          (subst (AreMarked may_go (without_block c.args.handle z)) (sym (c.set-2.ensures ∙ ap (λ p. set c.self.inside.purgeable p 0) p.value))
          (emptied-marked goes z c.self.inside.purgeable c.self.invariant.purgeable c.args.handle c.block_of-at.result p.sizes c.block_of-at.ensures p.inside));
      leaves = subst (λ (z : ZoneState). AreLeaves z c.touch.new.self) (sym c.empty.ensures)
          (leaves-other c.self.inside.zone _ c.block_of-at.result c.self.inside.leaves c.touch.new.self c.self.invariant.leaves other
          (touched-first c.self.inside.leaves c.touch.new.self c.block_of-at.result c.self.view_is c.leaf-leaf.ensures.value c.touch.ensures));
      pages = pages-kept c.forget.new.self c.empty.ensures
          (pages-other c.self.inside.zone _ c.block_of-at.result c.self.inside.pages c.forget.new.self c.self.invariant.pages other
          (forgets-read c.block_of-at.result c.block_of-at.result c.self.view_is c.page-page.ensures.value c.page-page.ensures.value c.forget.ensures));
      lengths = lengths-of c.note.new.self c.empty.ensures (lengths-given c.self.inside.zone.heap.table c.self.inside.lengths c.note.new.self c.args.handle c.number.result 0 c.number.ensures c.self.invariant.lengths c.note.ensures EmptyHandle refl);
    }

pub touch-requires : goal.touch-requires
touch-requires c = leaf-there c.self.inside.zone c.args.self.now c.self.view_is _ c.self.inside.leaves c.self.invariant.leaves c.leaf-leaf.ensures.inside
