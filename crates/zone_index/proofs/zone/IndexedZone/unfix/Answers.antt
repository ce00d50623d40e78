use Rattle.std.proofs.Common.{ap, sym, ◌∙◌, set, subst, IsTrue, refl}
use Rattle.linked_zone.specs.Changes.{unfixed}
use Rattle.linked_zone.specs.Places.{NamedAt}
use Rattle.zone_index.proofs.Freed.{unfixed-kept, unfixed-marked}
use Rattle.zone_index.proofs.Rules.{fixes, goes}
use Rattle.mac_base.specs.Gap.{is_fixed}
use Rattle.zone_index.specs.Purging.{may_go}
use Rattle.mac_base.specs.ZoneState.{ZoneState}
use Rattle.zone_index.specs.Marks.{AreMarked}
use Rattle.zone_index.proofs.Placed.{placed}
use Rattle.mac_base.specs.HandleTable.{is_pointer}
use Rattle.zone_index.specs.LeafSums.{AreLeaves}
use Rattle.linked_zone.specs.Fit.{Fits}
use Rattle.zone_index.proofs.Changed.{unfixed-other}
use Rattle.zone_index.proofs.Changing.{pages-other}
use Rattle.zone_index.proofs.PagesKept.{forgets-read, pages-kept}
use Rattle.zone_index.proofs.Measured.{lengths-of, lengths-out}
use Rattle.zone_index.proofs.LeavesChanged.{leaf-there, leaves-other, touched-first}
use Rattle.zone_index.proofs.zone.IndexedZone.unfix.Goals as goal

pub invariant_of-self : goal.invariant_of-self
invariant_of-self c =
    let p = placed c.self.inside.zone c.args.self.now c.self.view_is c.address_of-at.result c.place-place.result c.place-place.ensures.value c.place-place.ensures.inside c.place-place.ensures.sizes in
    let own = subst (λ p. NamedAt c.self.inside.zone p c.address_of-at.result) c.number.ensures c.address_of-at.ensures in
    let live = subst (λ (z : ZoneState). IsTrue (is_pointer z.heap.table c.args.pointer)) (sym c.self.view_is) c.requires.live in
    let fits = subst Fits (sym c.self.view_is) c.page-page.ensures.fits in
    let other = unfixed-other c.self.inside.zone c.args.pointer fits own live in record {
      fixed = subst (λ (z : ZoneState). AreMarked is_fixed z c.set.new.self) (sym c.unfix.ensures)
          (subst (AreMarked is_fixed (unfixed c.args.pointer c.self.inside.zone)) (sym (c.set.ensures ∙ ap (λ p. set c.self.inside.marks p 0) p.value))
          (unfixed-marked fixes c.self.inside.zone c.self.inside.marks c.self.invariant.fixed c.args.pointer c.address_of-at.result p.sizes (subst (λ x. NamedAt c.self.inside.zone x c.address_of-at.result) c.number.ensures c.address_of-at.ensures) p.inside));
      purgeable = subst (λ (z : ZoneState). AreMarked may_go z c.self.inside.purgeable) (sym c.unfix.ensures) (unfixed-kept goes c.self.inside.zone c.self.inside.purgeable c.self.invariant.purgeable c.args.pointer);
      leaves = subst (λ (z : ZoneState). AreLeaves z c.touch.new.self) (sym c.unfix.ensures)
          (leaves-other c.self.inside.zone _ c.address_of-at.result c.self.inside.leaves c.touch.new.self c.self.invariant.leaves other
          (touched-first c.self.inside.leaves c.touch.new.self c.address_of-at.result c.self.view_is c.leaf-leaf.ensures.value c.touch.ensures));
      pages = pages-kept c.forget.new.self c.unfix.ensures
          (pages-other c.self.inside.zone _ c.address_of-at.result c.self.inside.pages c.forget.new.self c.self.invariant.pages other
          (forgets-read c.address_of-at.result c.address_of-at.result c.self.view_is c.page-page.ensures.value c.page-page.ensures.value c.forget.ensures));
      lengths = lengths-of c.note.new.self c.unfix.ensures (lengths-out c.self.inside.zone.heap.table c.self.inside.lengths c.note.new.self c.args.pointer c.number-2.result 0 c.number-2.ensures c.self.invariant.lengths c.note.ensures refl);
    }

pub touch-requires : goal.touch-requires
touch-requires c = leaf-there c.self.inside.zone c.args.self.now c.self.view_is _ c.self.inside.leaves c.self.invariant.leaves c.leaf-leaf.ensures.inside
