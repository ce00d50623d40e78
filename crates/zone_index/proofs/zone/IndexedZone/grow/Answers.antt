use Rattle.std.proofs.Common.{◌≤◌, ℕ, List, ◌≡◌, ap, sym, subst, ◌+◌, ◌∷◌, true, arith, refl}
use Rattle.mac_base.specs.ZoneState.{ZoneState}
use Rattle.linked_zone.specs.Changes.{enlarged}
use Rattle.linked_zone.specs.Places.{CanGrow, EntryAt, NamedAt}
use Rattle.zone_index.specs.Marks.{AreMarked}
use Rattle.zone_index.proofs.Exchanged.{enlarged-marked}
use Rattle.zone_index.proofs.Rules.{Rule, fixes, goes}
use Rattle.mac_base.specs.declared.block.Kind.TheVariants.{Free}
use Rattle.mac_base.specs.HandleTable.{has_block}
use Rattle.mac_base.specs.ZoneMap.{address_after, block}
use Rattle.linked_zone.specs.Fit.{Fits}
use Rattle.zone_index.specs.LeafSums.{AreLeaves}
use Rattle.zone_index.specs.Leaves.{leaf}
use Rattle.mac_base.specs.declared.block.Entry.{Entry}
use Rattle.zone_index.proofs.Named.{named-owner}
use Rattle.zone_index.proofs.PagesKept.{forgets-read, named-place, named-reach, pages-kept}
use Rattle.zone_index.proofs.Changing.{pages-grown}
use Rattle.zone_index.proofs.Measured.{lengths-of, lengths-sized}
use Rattle.zone_index.proofs.LeavesChanged.{leaf-there, leaf-touched, leaves-grown, touched-first, touched-next}
use Rattle.zone_index.proofs.SumsChanged.{grown-entry}
use Rattle.zone_index.proofs.Fronts.{entry-high}
use Rattle.zone_index.proofs.zone.IndexedZone.grow.Goals as goal
use Rattle.zone_index.proofs.zone.IndexedZone.grow.Goals.{After-page-first}

-- where the block is, and that it ends within the zone
named : (c : After-page-first) → NamedAt c.args.self.now c.args.block c.address_of-at.result
named c = subst (λ (z : ZoneState). NamedAt z c.args.block c.address_of-at.result) c.self.view_is c.address_of-at.ensures

high : (c : After-page-first) → c.address_of-at.result + c.args.size ≤ address_after c.args.self.now.shape c.args.self.now.heap.map
high c =
    let can = c.requires.room in
    named-reach c.args.self.now c.args.block c.address_of-at.result c.args.size c.page-first.ensures.fits (named c) can.before can.here (block Free can.free ∷ can.after) can.map can.named (let within = can.fits.within in omega arith)

-- and its first bytes
entry : (c : After-page-first) → EntryAt c.args.self.now c.address_of-at.result
entry c = let n = named c in record { before = n.before; here = n.here; after = n.after; map = n.map; place = n.place }

pub invariant_of-self : goal.invariant_of-self
invariant_of-self c =
    let can = subst (λ (z : ZoneState). CanGrow z c.args.block c.args.size c.args.length) (sym c.self.view_is) c.requires.room in
    let keep : (r : Rule) (marks : List ℕ) → AreMarked r.test c.self.inside.zone marks → AreMarked r.test c.grow.new.self marks = λ r marks are. subst (λ (z : ZoneState). AreMarked r.test z marks) (sym (c.grow.ensures can)) (enlarged-marked r c.self.inside.zone marks are can) in
    let fits = c.spec-spec.ensures.fits in
    let place = named-place c.self.inside.zone c.args.block c.address_of-at.result fits c.address_of-at.ensures can.before can.here (block Free can.free ∷ can.after) can.map can.named in record {
      fixed = keep fixes _ c.self.invariant.fixed;
      purgeable = keep goes _ c.self.invariant.purgeable;
      leaves = (let read = ap (λ (e : Entry). e.size) (c.entry_at.ensures (grown-entry c.self.inside.zone can place)) in
          let middle = subst (λ n. c.leaf_at-middle.result ≡ leaf c.args.self.now.shape (c.address_of-at.result + n)) read c.leaf_at-middle.ensures.value in
          subst (λ (z : ZoneState). AreLeaves z c.touch-3.new.self) (sym (c.grow.ensures can))
          (leaves-grown c.self.inside.zone c.self.inside.leaves c.touch-3.new.self c.self.invariant.leaves can place
          (touched-next c.self.inside.leaves c.touch-2.new.self c.touch-3.new.self (c.address_of-at.result + c.args.size) (touched-next c.self.inside.leaves c.touch.new.self c.touch-2.new.self (c.address_of-at.result + can.here.size) (touched-first c.self.inside.leaves c.touch.new.self c.address_of-at.result c.self.view_is c.leaf-low.ensures.value c.touch.ensures) c.self.view_is middle c.touch-2.ensures) c.self.view_is c.leaf_at-high.ensures.value c.touch-3.ensures)));
      pages = pages-kept c.forget.new.self (c.grow.ensures can)
          (pages-grown c.self.inside.zone c.self.inside.pages c.forget.new.self c.self.invariant.pages can place
          (forgets-read c.address_of-at.result (c.address_of-at.result + c.args.size) c.self.view_is c.page-first.ensures.value c.page_at-last.ensures.value c.forget.ensures));
      lengths = (let has = named-owner c.self.inside.zone c.args.block can.before can.here (block Free can.free ∷ can.after) fits can.map can.named in
          lengths-of c.note.new.self (c.grow.ensures can) (lengths-sized c.self.inside.zone.heap.table c.self.inside.lengths c.note.new.self c.args.block c.args.block c.args.length refl c.self.invariant.lengths c.note.ensures has));
    }

pub returns : goal.returns
returns c =
    subst (λ (z : ZoneState). (can : CanGrow z c.args.block c.args.size c.args.length) → c.grow.new.self ≡ enlarged z can) c.self.view_is c.grow.ensures

pub address_of-at-requires : goal.address_of-at-requires
address_of-at-requires c =
    let can = c.requires.room in
    subst (λ (z : ZoneState). has_block z.heap.table c.args.block ≡ true) (sym c.self.view_is)
    (named-owner c.args.self.now c.args.block can.before can.here (block Free can.free ∷ can.after) (subst Fits c.self.view_is c.spec-spec.ensures.fits) can.map can.named)

pub overflow_add-end : goal.overflow_add-end
overflow_add-end c = let end = high (goal.at.overflow_add-end c).After-page-first in let reach = c.page-first.ensures.reach in omega arith

pub page_at-last-requires : goal.page_at-last-requires
page_at-last-requires c = let p = (goal.at.page_at-last-requires c).After-page-first in record { low = (let place = (named p).place in omega arith); high = high p }

pub leaf_at-high-requires : goal.leaf_at-high-requires
leaf_at-high-requires c = let p = (goal.at.leaf_at-high-requires c).After-page-first in record { low = (let place = (named p).place in omega arith); high = high p }

pub entry_at-requires : goal.entry_at-requires
entry_at-requires c =
    let named = c.address_of-at.ensures in
    record { before = named.before; here = named.here; after = named.after; map = named.map; place = named.place }

pub overflow_add-after : goal.overflow_add-after
overflow_add-after c =
    let e = entry (goal.at.overflow_add-after c).After-page-first in
    let read = ap (λ (e : Entry). e.size) (subst (λ (z : ZoneState). (e : EntryAt z c.address_of-at.result) → c.entry_at.result ≡ e.here) c.self.view_is c.entry_at.ensures e) in
    let high = entry-high c.args.self.now c.address_of-at.result e in
    let reach = c.page-first.ensures.reach in
    omega arith

pub leaf_at-middle-requires-clause-low : goal.leaf_at-middle-requires-clause-low
leaf_at-middle-requires-clause-low c = let place = (named (goal.at.leaf_at-middle-requires-clause-low c).After-page-first).place in omega arith

pub leaf_at-middle-requires-clause-high : goal.leaf_at-middle-requires-clause-high
leaf_at-middle-requires-clause-high c =
    let e = entry (goal.at.leaf_at-middle-requires-clause-high c).After-page-first in
    let read = ap (λ (e : Entry). e.size) (subst (λ (z : ZoneState). (e : EntryAt z c.address_of-at.result) → c.entry_at.result ≡ e.here) c.self.view_is c.entry_at.ensures e) in
    let high = entry-high c.args.self.now c.address_of-at.result e in
    omega arith

pub touch-requires : goal.touch-requires
touch-requires c = leaf-there c.self.inside.zone c.args.self.now c.self.view_is _ c.self.inside.leaves c.self.invariant.leaves c.leaf-low.ensures.inside

pub touch-requires-2 : goal.touch-requires-2
touch-requires-2 c = leaf-touched _ _ c.self.inside.leaves c.touch.new.self c.touch.ensures (leaf-there c.self.inside.zone c.args.self.now c.self.view_is _ c.self.inside.leaves c.self.invariant.leaves c.leaf_at-middle.ensures.inside)

pub touch-requires-3 : goal.touch-requires-3
touch-requires-3 c = leaf-touched _ _ c.touch.new.self c.touch-2.new.self c.touch-2.ensures (leaf-touched _ _ c.self.inside.leaves c.touch.new.self c.touch.ensures (leaf-there c.self.inside.zone c.args.self.now c.self.view_is _ c.self.inside.leaves c.self.invariant.leaves c.leaf_at-high.ensures.inside))
