use Rattle.std.proofs.Common.{◌≡◌, ap, sym, ◌∙◌, set, subst}
use Rattle.mac_base.specs.HeadKind.{master_length}
use Rattle.linked_zone.specs.Changes.{with_master}
use Rattle.linked_zone.specs.Places.{RoomFor}
use Rattle.mac_base.specs.Gap.{is_fixed}
use Rattle.zone_index.specs.Purging.{may_go}
use Rattle.zone_index.proofs.Exchanged.{master-kept}
use Rattle.zone_index.proofs.Fresh.{master-marked}
use Rattle.mac_base.specs.ZoneState.{ZoneState}
use Rattle.zone_index.specs.Marks.{AreMarked}
use Rattle.zone_index.proofs.Placed.{placed}
use Rattle.zone_index.specs.LeafSums.{AreLeaves}
use Rattle.zone_index.proofs.Changed.{master-other}
use Rattle.zone_index.proofs.Changing.{pages-other}
use Rattle.zone_index.proofs.PagesKept.{forgets-read, pages-kept}
use Rattle.zone_index.proofs.Measured.{lengths-of}
use Rattle.zone_index.proofs.LeavesChanged.{leaf-there, leaves-other, touched-first}
use Rattle.zone_index.proofs.zone.IndexedZone.build_master.Goals as goal

pub invariant_of-self : goal.invariant_of-self
invariant_of-self c =
    let p = placed c.self.inside.zone c.args.self.now c.self.view_is c.args.at c.place-place.result c.place-place.ensures.value c.place-place.ensures.inside c.place-place.ensures.sizes in
    let room = subst (λ (z : ZoneState). RoomFor z c.args.at master_length) (sym c.self.view_is) c.requires in
    let other = master-other c.self.inside.zone room.free in record {
      fixed = subst (λ (z : ZoneState). AreMarked is_fixed z c.set.new.self) (sym (c.build_master.ensures room))
          (subst (AreMarked is_fixed (with_master c.self.inside.zone room.free)) (sym (c.set.ensures ∙ ap (λ p. set c.self.inside.marks p 1) p.value)) (master-marked c.self.inside.zone c.self.inside.marks c.self.invariant.fixed c.args.at room.free p.inside));
      purgeable = subst (λ (z : ZoneState). AreMarked may_go z c.self.inside.purgeable) (sym (c.build_master.ensures room)) (master-kept c.self.inside.zone c.self.inside.purgeable c.self.invariant.purgeable c.args.at room.free);
      leaves = subst (λ (z : ZoneState). AreLeaves z c.touch.new.self) (sym (c.build_master.ensures room))
          (leaves-other c.self.inside.zone _ c.args.at c.self.inside.leaves c.touch.new.self c.self.invariant.leaves other
          (touched-first c.self.inside.leaves c.touch.new.self c.args.at c.self.view_is c.leaf-leaf.ensures.value c.touch.ensures));
      pages = pages-kept c.forget.new.self (c.build_master.ensures room)
          (pages-other c.self.inside.zone _ c.args.at c.self.inside.pages c.forget.new.self c.self.invariant.pages other
          (forgets-read c.args.at c.args.at c.self.view_is c.page-page.ensures.value c.page-page.ensures.value c.forget.ensures));
      lengths = lengths-of c.self.inside.lengths (c.build_master.ensures room) c.self.invariant.lengths;
    }

pub returns : goal.returns
returns c =
    subst (λ (z : ZoneState). (r : RoomFor z c.args.at master_length) → c.build_master.new.self ≡ with_master z r.free) c.self.view_is c.build_master.ensures

pub touch-requires : goal.touch-requires
touch-requires c = leaf-there c.self.inside.zone c.args.self.now c.self.view_is _ c.self.inside.leaves c.self.invariant.leaves c.leaf-leaf.ensures.inside
