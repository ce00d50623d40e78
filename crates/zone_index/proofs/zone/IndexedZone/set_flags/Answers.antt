use Rattle.std.proofs.Common.{◌≡◌, ap, sym, ◌∙◌, set, subst, true}
use Rattle.mac_base.specs.Gap.{is_fixed}
use Rattle.mac_base.specs.HandleTable.{is_full, with_flags}
use Rattle.mac_base.specs.ZoneState.{ZoneState}
use Rattle.linked_zone.specs.Changes.{flagged}
use Rattle.linked_zone.specs.Fit.{Fits}
use Rattle.zone_index.specs.Marks.{AreMarked}
use Rattle.zone_index.specs.Purging.{may_go}
use Rattle.zone_index.proofs.Fresh.{flagged-marked}
use Rattle.zone_index.proofs.Placed.{placed}
use Rattle.zone_index.proofs.Rules.{fixes, goes}
use Rattle.place_numbers.specs.Bits.{mark_of}
use Rattle.zone_index.specs.LeafSums.{AreLeaves}
use Rattle.zone_index.proofs.Changed.{flagged-other}
use Rattle.zone_index.proofs.Changing.{pages-other}
use Rattle.zone_index.proofs.PagesKept.{forgets-read, pages-kept}
use Rattle.zone_index.proofs.Measured.{lengths-of, lengths-kept, same-with_flags}
use Rattle.zone_index.proofs.LeavesChanged.{leaf-there, leaves-other, touched-first}
use Rattle.zone_index.proofs.zone.IndexedZone.set_flags.Goals as goal

pub invariant_of-self : goal.invariant_of-self
invariant_of-self c =
    let z = c.self.inside.zone in
    let p = placed z c.args.self.now c.self.view_is c.block_of-at.result c.place-place.result c.place-place.ensures.value c.place-place.ensures.inside c.place-place.ensures.sizes in
    let fits = subst (λ (z : ZoneState). Fits z) (sym c.self.view_is) c.place-place.ensures.fits in
    let full = subst (λ (z : ZoneState). is_full z.heap.table c.args.handle ≡ true) (sym c.self.view_is) c.requires in
    let goes_now = ap mark_of c.may_purge.ensures in
    let other = flagged-other c.self.inside.zone c.args.handle fits c.block_of-at.ensures c.args.flags in record {
      fixed = subst (λ (z : ZoneState). AreMarked is_fixed z c.set.new.self) (sym c.set_flags.ensures)
          (subst (AreMarked is_fixed (flagged c.args.handle c.args.flags z)) (sym (c.set.ensures ∙ ap (λ p. set c.self.inside.marks p (mark_of c.args.flags.lock)) p.value))
          (flagged-marked fixes z c.self.inside.marks c.self.invariant.fixed c.args.handle c.block_of-at.result c.args.flags fits p.sizes full c.block_of-at.ensures p.inside (mark_of c.args.flags.lock) (ap mark_of) (ap mark_of)));
      purgeable = subst (λ (z : ZoneState). AreMarked may_go z c.set-2.new.self) (sym c.set_flags.ensures)
          (subst (AreMarked may_go (flagged c.args.handle c.args.flags z)) (sym (c.set-2.ensures ∙ ap (λ p. set c.self.inside.purgeable p (mark_of c.may_purge.result)) p.value))
          (flagged-marked goes z c.self.inside.purgeable c.self.invariant.purgeable c.args.handle c.block_of-at.result c.args.flags fits p.sizes full c.block_of-at.ensures p.inside (mark_of c.may_purge.result) (λ is. goes_now ∙ ap mark_of is) (λ is. goes_now ∙ ap mark_of is)));
      leaves = subst (λ (z : ZoneState). AreLeaves z c.touch.new.self) (sym c.set_flags.ensures)
          (leaves-other c.self.inside.zone _ c.block_of-at.result c.self.inside.leaves c.touch.new.self c.self.invariant.leaves other
          (touched-first c.self.inside.leaves c.touch.new.self c.block_of-at.result c.self.view_is c.leaf-leaf.ensures.value c.touch.ensures));
      pages = pages-kept c.forget.new.self c.set_flags.ensures
          (pages-other c.self.inside.zone _ c.block_of-at.result c.self.inside.pages c.forget.new.self c.self.invariant.pages other
          (forgets-read c.block_of-at.result c.block_of-at.result c.self.view_is c.page-page.ensures.value c.page-page.ensures.value c.forget.ensures));
      lengths = lengths-of c.self.inside.lengths c.set_flags.ensures (lengths-kept c.self.inside.zone.heap.table (with_flags c.args.handle c.args.flags c.self.inside.zone.heap.table) c.self.inside.lengths c.self.invariant.lengths (same-with_flags c.args.handle c.args.flags c.self.inside.zone.heap.table));
    }

pub touch-requires : goal.touch-requires
touch-requires c = leaf-there c.self.inside.zone c.args.self.now c.self.view_is _ c.self.inside.leaves c.self.invariant.leaves c.leaf-leaf.ensures.inside
