use Rattle.std.proofs.Common.{◌≡◌, ap, slice_index, sym, ◌∙◌, set, subst, IsFalse, true}
use Rattle.std.specs.Prelude.{IsFalse, ◌||◌}
use Rattle.mac_base.specs.Gap.{is_fixed}
use Rattle.mac_base.specs.HandleTable.{is_locked, is_full, is_pointer}
use Rattle.mac_base.specs.ZoneState.{ZoneState}
use Rattle.linked_zone.specs.Changes.{relocated}
use Rattle.linked_zone.specs.Places.{RoomFor}
use Rattle.zone_index.specs.Marks.{AreMarked}
use Rattle.zone_index.specs.Purging.{may_go}
use Rattle.zone_index.proofs.Freed.{moved-marked, relocated-marked}
use Rattle.zone_index.proofs.Placed.{placed}
use Rattle.zone_index.specs.LeafSums.{AreLeaves}
use Rattle.linked_zone.specs.Fit.{Fits}
use Rattle.zone_index.proofs.Changing.{pages-relocated}
use Rattle.zone_index.proofs.PagesKept.{forgets-read, pages-kept}
use Rattle.zone_index.proofs.Measured.{lengths-of, lengths-sized}
use Rattle.zone_index.proofs.LeavesChanged.{leaf-there, leaf-touched, leaves-relocated, touched-first}
use Rattle.zone_index.proofs.zone.IndexedZone.relocate.Goals as goal

pub invariant_of-self : goal.invariant_of-self
invariant_of-self c =
    let z = c.self.inside.zone in
    let room = subst (λ (z : ZoneState). RoomFor z c.args.at c.args.length) (sym c.self.view_is) c.requires.room in
    let unlocked = subst (λ (z : ZoneState). IsFalse (is_locked z.heap.table c.args.handle)) (sym c.self.view_is) c.requires.unlocked in
    let old = placed z c.args.self.now c.self.view_is c.block_of-from.result c.place-old.result c.place-old.ensures.value c.place-old.ensures.inside c.place-old.ensures.sizes in
    let new = placed z c.args.self.now c.self.view_is c.args.at c.place-new.result c.place-new.ensures.value c.place-new.ensures.inside c.place-new.ensures.sizes in
    let marks = c.self.inside.purgeable in
    let mark = c.get-mark.ensures ∙ ap (slice_index marks) old.value in
    let first = c.set.ensures ∙ ap (λ p. set marks p 0) old.value in
    let both = c.set-2.ensures ∙ (λ i. set (first i) (new.value i) (mark i)) in
    let fits = subst Fits (sym c.self.view_is) c.page-from_page.ensures.fits in record {
      fixed = subst (λ (z : ZoneState). AreMarked is_fixed z c.self.inside.marks) (sym (c.relocate.ensures room)) (relocated-marked z c.self.inside.marks c.self.invariant.fixed c.args.handle c.args.length c.args.at room.free unlocked);
      purgeable = subst (λ (z : ZoneState). AreMarked may_go z c.set-2.new.self) (sym (c.relocate.ensures room))
          (subst (AreMarked may_go (relocated c.args.handle c.args.length z room.free)) (sym both)
          (moved-marked z marks c.self.invariant.purgeable old.sizes c.args.handle c.args.length c.block_of-from.result c.args.at room.free c.block_of-from.ensures old.inside new.inside));
      leaves = subst (λ (z : ZoneState). AreLeaves z c.touch-2.new.self) (sym (c.relocate.ensures room))
          (leaves-relocated c.self.inside.zone c.self.inside.leaves c.touch.new.self c.self.invariant.leaves c.block_of-from.result
          (touched-first c.self.inside.leaves c.touch.new.self c.block_of-from.result c.self.view_is c.leaf-from_leaf.ensures.value c.touch.ensures)
          c.args.handle c.args.length c.args.at c.touch-2.new.self room.free fits c.block_of-from.ensures
          (touched-first c.touch.new.self c.touch-2.new.self c.args.at c.self.view_is c.leaf-to_leaf.ensures.value c.touch-2.ensures));
      pages = pages-kept c.forget-2.new.self (c.relocate.ensures room)
          (pages-relocated c.self.inside.zone c.self.inside.pages c.forget.new.self c.self.invariant.pages c.block_of-from.result
          (forgets-read c.block_of-from.result c.block_of-from.result c.self.view_is c.page-from_page.ensures.value c.page-from_page.ensures.value c.forget.ensures)
          c.args.handle c.args.length c.args.at c.forget-2.new.self room.free fits c.block_of-from.ensures
          (forgets-read c.args.at c.args.at c.self.view_is c.page-to_page.ensures.value c.page-to_page.ensures.value c.forget-2.ensures));
      lengths = (let full = subst (λ (z : ZoneState). is_full z.heap.table c.args.handle ≡ true) (sym c.self.view_is) c.requires.full in
          lengths-of c.note.new.self (c.relocate.ensures room) (lengths-sized c.self.inside.zone.heap.table c.self.inside.lengths c.note.new.self c.args.handle c.number.result c.args.length c.number.ensures c.self.invariant.lengths c.note.ensures (ap (λ b. b || is_pointer c.self.inside.zone.heap.table c.args.handle) full)));
    }

pub returns : goal.returns
returns c =
    subst (λ (z : ZoneState). (r : RoomFor z c.args.at c.args.length) → c.relocate.new.self ≡ relocated c.args.handle c.args.length z r.free) c.self.view_is c.relocate.ensures

pub touch-requires : goal.touch-requires
touch-requires c = leaf-there c.self.inside.zone c.args.self.now c.self.view_is _ c.self.inside.leaves c.self.invariant.leaves c.leaf-from_leaf.ensures.inside

pub touch-requires-2 : goal.touch-requires-2
touch-requires-2 c = leaf-touched _ _ c.self.inside.leaves c.touch.new.self c.touch.ensures (leaf-there c.self.inside.zone c.args.self.now c.self.view_is _ c.self.inside.leaves c.self.invariant.leaves c.leaf-to_leaf.ensures.inside)
