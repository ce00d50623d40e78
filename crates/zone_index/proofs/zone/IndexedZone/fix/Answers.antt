use Rattle.std.proofs.Common.{◌≡◌, ap, sym, ◌∙◌, set, subst, ◌+◌}
use Rattle.linked_zone.specs.Changes.{fixed}
use Rattle.linked_zone.specs.Places.{RoomFor}
use Rattle.mac_base.specs.Gap.{is_fixed}
use Rattle.zone_index.specs.Purging.{may_go}
use Rattle.zone_index.proofs.Exchanged.{fixed-kept}
use Rattle.zone_index.proofs.Fresh.{fixed-marked}
use Rattle.mac_base.specs.ZoneState.{ZoneState}
use Rattle.zone_index.specs.Marks.{AreMarked}
use Rattle.zone_index.proofs.Placed.{placed}
use Rattle.linked_zone.specs.Fit.{Fits}
use Rattle.zone_index.specs.LeafSums.{AreLeaves}
use Rattle.zone_index.proofs.Changed.{fixed-other}
use Rattle.zone_index.proofs.Changing.{pages-other}
use Rattle.zone_index.proofs.PagesKept.{forgets-read, pages-kept}
use Rattle.std.proofs.lemmas.List.{length-replicate}
use Rattle.mac_base.specs.HandleTable.{Pointer, zeros}
use Rattle.mac_base.specs.HeadKind.{head_size}
use Rattle.zone_index.proofs.Measured.{lengths-given, lengths-of}
use Rattle.zone_index.proofs.LeavesChanged.{leaf-there, leaves-other, touched-first}
use Rattle.zone_index.proofs.zone.IndexedZone.fix.Goals as goal

pub invariant_of-self : goal.invariant_of-self
invariant_of-self c =
    let p = placed c.self.inside.zone c.args.self.now c.self.view_is c.args.at c.place-place.result c.place-place.ensures.value c.place-place.ensures.inside c.place-place.ensures.sizes in
    let room = subst (λ (z : ZoneState). RoomFor z c.args.at c.args.length) (sym c.self.view_is) c.requires in
    let fits = subst Fits (c.fix-pointer.ensures.zone room) c.spec-spec.ensures.fits in
    let other = fixed-other c.self.inside.zone room.free c.args.length fits in record {
      fixed = subst (λ (z : ZoneState). AreMarked is_fixed z c.set.new.self) (sym (c.fix-pointer.ensures.zone room))
          (subst (AreMarked is_fixed (fixed c.args.length c.self.inside.zone room.free)) (sym (c.set.ensures ∙ ap (λ p. set c.self.inside.marks p 1) p.value)) (fixed-marked c.self.inside.zone c.self.inside.marks c.self.invariant.fixed c.args.length c.args.at room.free p.inside));
      purgeable = subst (λ (z : ZoneState). AreMarked may_go z c.self.inside.purgeable) (sym (c.fix-pointer.ensures.zone room)) (fixed-kept c.self.inside.zone c.self.inside.purgeable c.self.invariant.purgeable c.args.length c.args.at room.free);
      leaves = subst (λ (z : ZoneState). AreLeaves z c.touch.new.self) (sym (c.fix-pointer.ensures.zone room))
          (leaves-other c.self.inside.zone _ c.args.at c.self.inside.leaves c.touch.new.self c.self.invariant.leaves other
          (touched-first c.self.inside.leaves c.touch.new.self c.args.at c.self.view_is c.leaf-leaf.ensures.value c.touch.ensures));
      pages = pages-kept c.forget.new.self (c.fix-pointer.ensures.zone room)
          (pages-other c.self.inside.zone _ c.args.at c.self.inside.pages c.forget.new.self c.self.invariant.pages other
          (forgets-read c.args.at c.args.at c.self.view_is c.page-page.ensures.value c.page-page.ensures.value c.forget.ensures));
      lengths = (let long = length-replicate c.args.length 0 in
          lengths-of c.note.new.self (c.fix-pointer.ensures.zone room) (lengths-given c.self.inside.zone.heap.table c.self.inside.lengths c.note.new.self (c.args.at + head_size c.self.inside.zone.shape.heads) c.number.result c.args.length (c.number.ensures ∙ c.fix-pointer.ensures.pointer) c.self.invariant.lengths c.note.ensures (Pointer (zeros c.args.length)) long));
    }

pub returns-clause-zone : goal.returns-clause-zone
returns-clause-zone c =
    subst (λ (z : ZoneState). (r : RoomFor z c.args.at c.args.length) → c.fix-pointer.new.self ≡ fixed c.args.length z r.free) c.self.view_is c.fix-pointer.ensures.zone

pub touch-requires : goal.touch-requires
touch-requires c = leaf-there c.self.inside.zone c.args.self.now c.self.view_is _ c.self.inside.leaves c.self.invariant.leaves c.leaf-leaf.ensures.inside
