use Rattle.std.proofs.Common.{◌≤◌, ℕ, List, ◌≡◌, sym, subst, ◌+◌, true, arith, refl}
use Rattle.mac_base.specs.ZoneState.{ZoneState}
use Rattle.mac_base.specs.ZoneMap.{address_after}
use Rattle.linked_zone.specs.Changes.{held_there}
use Rattle.linked_zone.specs.Places.{CanHold, NamedAt}
use Rattle.zone_index.specs.Marks.{AreMarked}
use Rattle.zone_index.proofs.Exchanged.{held-marked}
use Rattle.zone_index.proofs.Rules.{Rule, fixes, goes}
use Rattle.mac_base.specs.HandleTable.{has_block}
use Rattle.linked_zone.specs.Fit.{Fits}
use Rattle.zone_index.specs.LeafSums.{AreLeaves}
use Rattle.zone_index.proofs.Named.{named-owner}
use Rattle.zone_index.proofs.PagesKept.{forgets-read, named-place, named-reach, pages-kept}
use Rattle.zone_index.proofs.Changing.{pages-held}
use Rattle.zone_index.proofs.Measured.{lengths-of, lengths-sized}
use Rattle.zone_index.proofs.LeavesChanged.{leaf-there, leaf-touched, leaves-held, touched-first, touched-next}
use Rattle.zone_index.proofs.zone.IndexedZone.hold.Goals as goal
use Rattle.zone_index.proofs.zone.IndexedZone.hold.Goals.{After-page-first}

-- where the block is, and that it ends within the zone
named : (c : After-page-first) → NamedAt c.args.self.now c.args.block c.address_of-at.result
named c = subst (λ (z : ZoneState). NamedAt z c.args.block c.address_of-at.result) c.self.view_is c.address_of-at.ensures

high : (c : After-page-first) → c.address_of-at.result + c.args.size ≤ address_after c.args.self.now.shape c.args.self.now.heap.map
high c =
    let can = c.requires.room in
    named-reach c.args.self.now c.args.block c.address_of-at.result c.args.size c.page-first.ensures.fits (named c) can.before can.here can.after can.map can.named (let within = can.fits.within in omega arith)

pub invariant_of-self : goal.invariant_of-self
invariant_of-self c =
    let can = subst (λ (z : ZoneState). CanHold z c.args.block c.args.size c.args.length) (sym c.self.view_is) c.requires.room in
    let keep : (r : Rule) (marks : List ℕ) → AreMarked r.test c.self.inside.zone marks → AreMarked r.test c.hold.new.self marks = λ r marks are. subst (λ (z : ZoneState). AreMarked r.test z marks) (sym (c.hold.ensures can)) (held-marked r c.self.inside.zone marks are can) in
    let fits = c.spec-spec.ensures.fits in
    let place = named-place c.self.inside.zone c.args.block c.address_of-at.result fits c.address_of-at.ensures can.before can.here can.after can.map can.named in record {
      fixed = keep fixes _ c.self.invariant.fixed;
      purgeable = keep goes _ c.self.invariant.purgeable;
      leaves = subst (λ (z : ZoneState). AreLeaves z c.touch-2.new.self) (sym (c.hold.ensures can))
          (leaves-held c.self.inside.zone c.self.inside.leaves c.touch-2.new.self c.self.invariant.leaves can place
          (touched-next c.self.inside.leaves c.touch.new.self c.touch-2.new.self (c.address_of-at.result + c.args.size) (touched-first c.self.inside.leaves c.touch.new.self c.address_of-at.result c.self.view_is c.leaf-low.ensures.value c.touch.ensures) c.self.view_is c.leaf_at-high.ensures.value c.touch-2.ensures));
      pages = pages-kept c.forget.new.self (c.hold.ensures can)
          (pages-held c.self.inside.zone c.self.inside.pages c.forget.new.self c.self.invariant.pages can place
          (forgets-read c.address_of-at.result (c.address_of-at.result + c.args.size) c.self.view_is c.page-first.ensures.value c.page_at-last.ensures.value c.forget.ensures));
      lengths = (let has = named-owner c.self.inside.zone c.args.block can.before can.here can.after fits can.map can.named in
          lengths-of c.note.new.self (c.hold.ensures can) (lengths-sized c.self.inside.zone.heap.table c.self.inside.lengths c.note.new.self c.args.block c.args.block c.args.length refl c.self.invariant.lengths c.note.ensures has));
    }

pub returns : goal.returns
returns c =
    subst (λ (z : ZoneState). (can : CanHold z c.args.block c.args.size c.args.length) → c.hold.new.self ≡ held_there z can) c.self.view_is c.hold.ensures

pub address_of-at-requires : goal.address_of-at-requires
address_of-at-requires c =
    let can = c.requires.room in
    subst (λ (z : ZoneState). has_block z.heap.table c.args.block ≡ true) (sym c.self.view_is)
    (named-owner c.args.self.now c.args.block can.before can.here can.after (subst Fits c.self.view_is c.spec-spec.ensures.fits) can.map can.named)

pub overflow_add-end : goal.overflow_add-end
overflow_add-end c = let end = high (goal.at.overflow_add-end c).After-page-first in let reach = c.page-first.ensures.reach in omega arith

pub page_at-last-requires : goal.page_at-last-requires
page_at-last-requires c = let p = (goal.at.page_at-last-requires c).After-page-first in record { low = (let place = (named p).place in omega arith); high = high p }

pub leaf_at-high-requires : goal.leaf_at-high-requires
leaf_at-high-requires c = let p = (goal.at.leaf_at-high-requires c).After-page-first in record { low = (let place = (named p).place in omega arith); high = high p }

pub touch-requires : goal.touch-requires
touch-requires c = leaf-there c.self.inside.zone c.args.self.now c.self.view_is _ c.self.inside.leaves c.self.invariant.leaves c.leaf-low.ensures.inside

pub touch-requires-2 : goal.touch-requires-2
touch-requires-2 c = leaf-touched _ _ c.self.inside.leaves c.touch.new.self c.touch.ensures (leaf-there c.self.inside.zone c.args.self.now c.self.view_is _ c.self.inside.leaves c.self.invariant.leaves c.leaf_at-high.ensures.inside)
