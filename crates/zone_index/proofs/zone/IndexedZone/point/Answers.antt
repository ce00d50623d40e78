use Rattle.std.proofs.Common.{ℕ, List, ◌≡◌, sym, subst, Some}
use Rattle.mac_base.specs.ZoneState.{ZoneState}
use Rattle.linked_zone.specs.Changes.{pointed}
use Rattle.linked_zone.specs.Places.{RoomFor}
use Rattle.zone_index.specs.Marks.{AreMarked}
use Rattle.zone_index.proofs.Exchanged.{pointed-marked}
use Rattle.zone_index.proofs.Rules.{Rule, fixes, goes}
use Rattle.mac_base.specs.HandleTable.{EmptyHandle, live_at, FullHandle, no_flags, zeros}
use Rattle.zone_index.specs.LeafSums.{AreLeaves}
use Rattle.zone_index.proofs.Changed.{pointed-other}
use Rattle.zone_index.proofs.Changing.{pages-other}
use Rattle.zone_index.proofs.PagesKept.{forgets-read, pages-kept}
use Rattle.std.proofs.lemmas.List.{length-replicate}
use Rattle.zone_index.proofs.Measured.{lengths-given, lengths-of}
use Rattle.zone_index.proofs.LeavesChanged.{leaf-there, leaves-other, touched-first}
use Rattle.zone_index.proofs.zone.IndexedZone.point.Goals as goal

pub invariant_of-self : goal.invariant_of-self
invariant_of-self c =
    let room = subst (λ (z : ZoneState). RoomFor z c.args.at c.args.length) (sym c.self.view_is) c.requires.room in
    let keep : (r : Rule) (marks : List ℕ) → AreMarked r.test c.self.inside.zone marks → AreMarked r.test c.point.new.self marks = λ r marks are. subst (λ (z : ZoneState). AreMarked r.test z marks) (sym (c.point.ensures room)) (pointed-marked r c.self.inside.zone marks are c.args.handle c.args.length c.args.at room.free) in
    let empty = subst (λ (z : ZoneState). live_at z.heap.table c.args.handle ≡ Some EmptyHandle) (sym c.self.view_is) c.requires.empty in
    let other = pointed-other c.self.inside.zone room.free c.args.handle c.args.length empty in record {
      fixed = keep fixes _ c.self.invariant.fixed;
      purgeable = keep goes _ c.self.invariant.purgeable;
      leaves = subst (λ (z : ZoneState). AreLeaves z c.touch.new.self) (sym (c.point.ensures room))
          (leaves-other c.self.inside.zone _ c.args.at c.self.inside.leaves c.touch.new.self c.self.invariant.leaves other
          (touched-first c.self.inside.leaves c.touch.new.self c.args.at c.self.view_is c.leaf-leaf.ensures.value c.touch.ensures));
      pages = pages-kept c.forget.new.self (c.point.ensures room)
          (pages-other c.self.inside.zone _ c.args.at c.self.inside.pages c.forget.new.self c.self.invariant.pages other
          (forgets-read c.args.at c.args.at c.self.view_is c.page-page.ensures.value c.page-page.ensures.value c.forget.ensures));
      lengths = (let long = length-replicate c.args.length 0 in
          lengths-of c.note.new.self (c.point.ensures room) (lengths-given c.self.inside.zone.heap.table c.self.inside.lengths c.note.new.self c.args.handle c.number.result c.args.length c.number.ensures c.self.invariant.lengths c.note.ensures (FullHandle no_flags (zeros c.args.length)) long));
    }

pub returns : goal.returns
returns c =
    subst (λ (z : ZoneState). (r : RoomFor z c.args.at c.args.length) → c.point.new.self ≡ pointed c.args.handle c.args.length z r.free) c.self.view_is c.point.ensures

pub touch-requires : goal.touch-requires
touch-requires c = leaf-there c.self.inside.zone c.args.self.now c.self.view_is _ c.self.inside.leaves c.self.invariant.leaves c.leaf-leaf.ensures.inside
