use Rattle.std.proofs.Common.{◌≤◌, ◌≡◌, ◌+◌, ◌-◌, ◌/◌, ap, sym, subst, arith, ◌∷◌, IsTrue, ◌++◌, ◌∙◌}
use Rattle.std.specs.Prelude.{IsTrue, ◌∷◌}
use Rattle.mac_base.specs.declared.block.Entry.{Entry}
use Rattle.mac_base.specs.Gap.{is_fixed}
use Rattle.mac_base.specs.ZoneMap.{address_after, total_size}
use Rattle.mac_base.specs.ZoneState.{ZoneState}
use Rattle.linked_zone.specs.Changes.{carried_up}
use Rattle.linked_zone.specs.Places.{EntryAt, ParcelAt}
use Rattle.zone_index.specs.Marks.{AreMarked}
use Rattle.zone_index.specs.Purging.{may_go}
use Rattle.zone_index.specs.Runs.{none_fixed}
use Rattle.zone_index.proofs.Exchanged.{carried-marked}
use Rattle.zone_index.proofs.Placed.{placed}
use Rattle.zone_index.proofs.Turned.{carried-fits, carried-turned, parcel-entry}
use Rattle.zone_index.specs.LeafSums.{AreLeaves}
use Rattle.zone_index.specs.Leaves.{leaf}
use Rattle.zone_index.proofs.PagesKept.{forgets-read, pages-kept, part-ends}
use Rattle.zone_index.proofs.Changing.{pages-carry}
use Rattle.zone_index.proofs.Measured.{lengths-of}
use Rattle.zone_laws.proofs.Maps.{total_size-append}
use Rattle.zone_index.proofs.LeavesChanged.{leaf-same, leaf-there, leaf-touched, leaves-carry, touched-first, touched-next}
use Rattle.zone_index.proofs.SumsChanged.{parcel_split}
use Rattle.zone_index.proofs.zone.IndexedZone.carry.Goals as goal
use Rattle.zone_index.proofs.zone.IndexedZone.carry.Goals.{After-entry_at-size, Start}

-- the size that is read is the block's
size_is : (c : After-entry_at-size) → c.entry_at-size.result.size ≡ c.requires.parcel.here.size
size_is c = ap (λ (e : Entry). e.size) (subst (λ (z : ZoneState). (e : EntryAt z c.args.at) → c.entry_at-size.result ≡ e.here) c.self.view_is c.entry_at-size.ensures (parcel-entry c.args.self.now c.requires.parcel))

-- it ends within the zone
high : (c : Start) → c.args.end ≤ address_after c.args.self.now.shape c.args.self.now.heap.map
high c =
    let parcel = c.requires.parcel in
    let place = parcel.place in
    let long = parcel.long in
    let ends = part-ends c.args.self.now parcel.before (parcel.here ∷ parcel.blocks ++ parcel.after) parcel.map in
    let all = total_size-append parcel.blocks parcel.after in
    omega arith

pub invariant_of-self : goal.invariant_of-self
invariant_of-self c =
    let z = c.self.inside.zone in
    let parcel = subst (λ (z : ZoneState). ParcelAt z c.args.at c.args.end) (sym c.self.view_is) c.requires.parcel in
    let loose = subst (λ (z : ZoneState). (parcel : ParcelAt z c.args.at c.args.end) → IsTrue (none_fixed z.heap.table (parcel.here ∷ parcel.blocks))) (sym c.self.view_is) c.requires.loose parcel in
    let p = placed z c.args.self.now c.self.view_is c.args.at c.place-first.result c.place-first.ensures.value c.place-first.ensures.inside c.place-first.ensures.sizes in
    let size = ap (λ (e : Entry). e.size) (c.entry_at-size.ensures (parcel-entry z parcel)) in
    let run : c.args.end - c.args.at - c.entry_at-size.result.size ≡ total_size parcel.blocks = omega (arith, size, parcel.long) in record {
      fixed = subst (λ (z : ZoneState). AreMarked is_fixed z c.self.inside.marks) (sym (c.carry-2.ensures parcel)) (carried-marked z c.self.inside.marks c.self.invariant.fixed c.args.at c.args.end parcel loose);
      purgeable = subst (λ (z : ZoneState). AreMarked may_go z c.carry.new.marks) (sym (c.carry-2.ensures parcel))
          (carried-turned may_go z c.self.inside.purgeable c.carry.new.marks c.self.invariant.purgeable p.sizes c.args.at c.args.end parcel _ _ _ p.value (ap (λ n. n / 4) size) (ap (λ n. n / 4) run) c.carry.ensures);
      leaves = (let passed = c.pass.ensures.passed in
          let split = parcel_split z parcel (c.args.at + c.entry_at-size.result.size) (ap (λ n. c.args.at + n) size) in
          let new : c.leaf_at-new.result ≡ leaf c.args.self.now.shape (c.args.at + total_size parcel.blocks) = c.leaf_at-new.ensures.value ∙ ap (λ n. leaf c.args.self.now.shape (c.args.at + n)) run in
          subst (λ (z : ZoneState). AreLeaves z c.touch-2.new.self) (sym (c.carry-2.ensures parcel))
          (leaves-carry z c.self.inside.leaves c.pass.new.leaves c.touch-2.new.self c.self.invariant.leaves c.pass.ensures.sums parcel loose (c.args.at + c.entry_at-size.result.size) (ap (λ n. c.args.at + n) size) (passed split)
          (touched-next c.pass.new.leaves c.touch.new.self c.touch-2.new.self (c.args.at + total_size parcel.blocks) (touched-first c.pass.new.leaves c.touch.new.self c.args.at c.self.view_is c.leaf-old.ensures.value c.touch.ensures) c.self.view_is new c.touch-2.ensures)));
      pages = pages-kept c.forget.new.self (c.carry-2.ensures parcel)
          (pages-carry c.self.inside.zone c.self.inside.pages c.forget.new.self c.self.invariant.pages parcel
          (forgets-read c.args.at c.args.end c.self.view_is c.page-from.ensures.value c.page_at-to.ensures.value c.forget.ensures));
      lengths = lengths-of c.self.inside.lengths (c.carry-2.ensures parcel) c.self.invariant.lengths;
    }

pub overflow_sub-others-2 : goal.overflow_sub-others-2
overflow_sub-others-2 c = omega (arith, size_is (goal.at.overflow_sub-others-2 c).After-entry_at-size, c.requires.parcel.long)

pub carry-requires-clause-some : goal.carry-requires-clause-some
carry-requires-clause-some c = omega (arith, size_is (goal.at.carry-requires-clause-some c).After-entry_at-size, (carried-fits c.args.self.now c.place-first.ensures.possible c.place-first.ensures.sizes c.requires.parcel).some)

pub carry-requires-clause-inside : goal.carry-requires-clause-inside
carry-requires-clause-inside c = omega (arith, size_is (goal.at.carry-requires-clause-inside c).After-entry_at-size, c.requires.parcel.long, (carried-fits c.args.self.now c.place-first.ensures.possible c.place-first.ensures.sizes c.requires.parcel).inside, c.place-first.ensures.value, ap (λ (z : ZoneState). z.shape.limit) c.self.view_is, c.self.invariant.purgeable.places)

pub returns : goal.returns
returns c =
    subst (λ (z : ZoneState). (parcel : ParcelAt z c.args.at c.args.end) → c.carry-2.new.self ≡ carried_up z parcel) c.self.view_is c.carry-2.ensures

pub page_at-to-requires-clause-high : goal.page_at-to-requires-clause-high
page_at-to-requires-clause-high c = high (goal.at.page_at-to-requires-clause-high c).Start

pub leaf_at-new-requires-clause-low : goal.leaf_at-new-requires-clause-low
leaf_at-new-requires-clause-low c = let place = c.requires.parcel.place in omega arith

pub leaf_at-new-requires-clause-high : goal.leaf_at-new-requires-clause-high
leaf_at-new-requires-clause-high c = let end = high (goal.at.leaf_at-new-requires-clause-high c).Start in let long = c.requires.parcel.long in omega arith

pub pass-requires : goal.pass-requires
pass-requires c =
    let z = c.self.inside.zone in
    let parcel = subst (λ (z : ZoneState). ParcelAt z c.args.at c.args.end) (sym c.self.view_is) c.requires.parcel in
    let size = ap (λ (e : Entry). e.size) (c.entry_at-size.ensures (parcel-entry z parcel)) in
    parcel_split z parcel (c.args.at + c.entry_at-size.result.size) (ap (λ n. c.args.at + n) size)

pub overflow_add-at-2 : goal.overflow_add-at-2
overflow_add-at-2 c = omega (arith, size_is (goal.at.overflow_add-at-2 c).After-entry_at-size, c.requires.parcel.long, c.ranges.end.fits)

pub touch-requires : goal.touch-requires
touch-requires c = leaf-same _ c.self.inside.leaves c.pass.new.leaves c.pass.ensures.sums (leaf-there c.self.inside.zone c.args.self.now c.self.view_is _ c.self.inside.leaves c.self.invariant.leaves c.leaf-old.ensures.inside)

pub touch-requires-2 : goal.touch-requires-2
touch-requires-2 c = leaf-touched _ _ c.pass.new.leaves c.touch.new.self c.touch.ensures (leaf-same _ c.self.inside.leaves c.pass.new.leaves c.pass.ensures.sums (leaf-there c.self.inside.zone c.args.self.now c.self.view_is _ c.self.inside.leaves c.self.invariant.leaves c.leaf_at-new.ensures.inside))
