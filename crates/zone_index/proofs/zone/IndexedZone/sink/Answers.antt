use Rattle.std.proofs.Common.{◌≤◌, ◌≡◌, ◌-◌, ◌/◌, ap, sym, subst, arith, [], ◌∷◌, ◌++◌, IsTrue, ◌+◌}
use Rattle.std.specs.Prelude.{IsTrue, [], ◌∷◌, ◌++◌}
use Rattle.mac_base.specs.declared.block.Entry.{Entry}
use Rattle.mac_base.specs.Gap.{is_fixed}
use Rattle.mac_base.specs.ZoneMap.{address_after, total_size}
use Rattle.mac_base.specs.ZoneState.{ZoneState}
use Rattle.linked_zone.specs.Changes.{sunk}
use Rattle.linked_zone.specs.Places.{ParcelUpTo, EntryAt}
use Rattle.zone_index.specs.Marks.{AreMarked}
use Rattle.zone_index.specs.Purging.{may_go}
use Rattle.zone_index.specs.Runs.{none_fixed}
use Rattle.zone_index.proofs.Exchanged.{sunk-marked}
use Rattle.zone_index.proofs.Placed.{placed}
use Rattle.zone_index.proofs.Turned.{last-entry, run-entry, sunk-fits, sunk-turned}
use Rattle.zone_index.specs.LeafSums.{AreLeaves}
use Rattle.zone_index.specs.Pages.{page}
use Rattle.zone_index.proofs.PagesKept.{forgets-read, pages-kept, part-ends}
use Rattle.zone_index.proofs.Changed.{last_entry}
use Rattle.zone_index.proofs.Changing.{pages-sink}
use Rattle.zone_index.proofs.Measured.{lengths-of}
use Rattle.zone_laws.proofs.Maps.{total_size-append}
use Rattle.zone_index.proofs.LeavesChanged.{leaf-same, leaf-there, leaf-touched, leaves-sink, touched-first, touched-next}
use Rattle.zone_index.proofs.SumsChanged.{none_fixed-first, run_split}
use Rattle.zone_index.proofs.zone.IndexedZone.sink.Goals as goal
use Rattle.zone_index.proofs.zone.IndexedZone.sink.Goals.{After-entry_at-size, After-page-from}

-- the size that is read is the block's
size_is : (c : After-entry_at-size) → c.entry_at-size.result.size ≡ c.requires.parcel.here.size
size_is c = ap (λ (e : Entry). e.size) (subst (λ (z : ZoneState). (e : EntryAt z c.args.at) → c.entry_at-size.result ≡ e.here) c.self.view_is c.entry_at-size.ensures (last-entry c.args.self.now c.requires.parcel))

-- it ends within the zone
high : (c : After-page-from) → c.args.at + c.entry_at-size.result.size ≤ address_after c.args.self.now.shape c.args.self.now.heap.map
high c =
    let parcel = c.requires.parcel in
    let place = parcel.place in
    let long = parcel.long in
    let size = size_is (goal.at.After-page-from c).After-entry_at-size in
    let ends = part-ends c.args.self.now parcel.before (parcel.blocks ++ parcel.here ∷ parcel.after) parcel.map in
    let all = total_size-append parcel.blocks (parcel.here ∷ parcel.after) in
    omega arith

pub invariant_of-self : goal.invariant_of-self
invariant_of-self c =
    let z = c.self.inside.zone in
    let parcel = subst (λ (z : ZoneState). ParcelUpTo z c.args.start c.args.at) (sym c.self.view_is) c.requires.parcel in
    let loose = subst (λ (z : ZoneState). (parcel : ParcelUpTo z c.args.start c.args.at) → IsTrue (none_fixed z.heap.table (parcel.blocks ++ parcel.here ∷ []))) (sym c.self.view_is) c.requires.loose parcel in
    let p = placed z c.args.self.now c.self.view_is c.args.start c.place-first.result c.place-first.ensures.value c.place-first.ensures.inside c.place-first.ensures.sizes in
    let size = ap (λ (e : Entry). e.size) (c.entry_at-size.ensures (last-entry z parcel)) in
    let run : c.args.at - c.args.start ≡ total_size parcel.blocks = omega (arith, parcel.long) in record {
      fixed = subst (λ (z : ZoneState). AreMarked is_fixed z c.self.inside.marks) (sym (c.sink-2.ensures parcel)) (sunk-marked z c.self.inside.marks c.self.invariant.fixed c.args.start c.args.at parcel loose);
      purgeable = subst (λ (z : ZoneState). AreMarked may_go z c.sink.new.marks) (sym (c.sink-2.ensures parcel))
          (sunk-turned may_go z c.self.inside.purgeable c.sink.new.marks c.self.invariant.purgeable p.sizes c.args.start c.args.at parcel _ _ _ p.value (ap (λ n. n / 4) size) (ap (λ n. n / 4) run) c.sink.ensures);
      leaves = (let passed = c.pass.ensures.passed in
          subst (λ (z : ZoneState). AreLeaves z c.touch-2.new.self) (sym (c.sink-2.ensures parcel))
          (leaves-sink z c.self.inside.leaves c.pass.new.leaves c.touch-2.new.self c.self.invariant.leaves c.pass.ensures.sums parcel (none_fixed-first z.heap.table parcel.blocks (parcel.here ∷ []) loose) (passed (run_split z parcel))
          (touched-next c.pass.new.leaves c.touch.new.self c.touch-2.new.self c.args.start (touched-first c.pass.new.leaves c.touch.new.self c.args.at c.self.view_is c.leaf-old.ensures.value c.touch.ensures) c.self.view_is c.leaf-new.ensures.value c.touch-2.ensures)));
      pages = (let size = ap (λ (e : Entry). e.size) (c.entry_at-size.ensures (last_entry c.self.inside.zone parcel)) in
          pages-kept c.forget.new.self (c.sink-2.ensures parcel)
          (pages-sink c.self.inside.zone c.self.inside.pages c.forget.new.self c.self.invariant.pages parcel
          (forgets-read c.args.start (c.args.at + parcel.here.size) c.self.view_is c.page-from.ensures.value
          (subst (λ n. c.page_at-to.result ≡ page c.args.self.now.shape (c.args.at + n)) size c.page_at-to.ensures.value) c.forget.ensures)));
      lengths = lengths-of c.self.inside.lengths (c.sink-2.ensures parcel) c.self.invariant.lengths;
    }

pub place-first-requires : goal.place-first-requires
place-first-requires c =
    let parcel = c.requires.parcel in
    run-entry c.args.self.now c.args.start parcel.before parcel.blocks parcel.here parcel.after parcel.map parcel.place

pub page-from-requires : goal.page-from-requires
page-from-requires c =
    let parcel = c.requires.parcel in
    run-entry c.args.self.now c.args.start parcel.before parcel.blocks parcel.here parcel.after parcel.map parcel.place

pub entry_at-size-requires : goal.entry_at-size-requires
entry_at-size-requires c =
    last-entry c.self.inside.zone (subst (λ (z : ZoneState). ParcelUpTo z c.args.start c.args.at) (sym c.self.view_is) c.requires.parcel)

pub sink-requires-clause-some : goal.sink-requires-clause-some
sink-requires-clause-some c = omega (arith, size_is (goal.at.sink-requires-clause-some c).After-entry_at-size, (sunk-fits c.args.self.now c.place-first.ensures.possible c.place-first.ensures.sizes c.requires.parcel).some)

pub sink-requires-clause-inside : goal.sink-requires-clause-inside
sink-requires-clause-inside c = omega (arith, size_is (goal.at.sink-requires-clause-inside c).After-entry_at-size, c.requires.parcel.long, (sunk-fits c.args.self.now c.place-first.ensures.possible c.place-first.ensures.sizes c.requires.parcel).inside, c.place-first.ensures.value, ap (λ (z : ZoneState). z.shape.limit) c.self.view_is, c.self.invariant.purgeable.places)

pub returns : goal.returns
returns c =
    subst (λ (z : ZoneState). (parcel : ParcelUpTo z c.args.start c.args.at) → c.sink-2.new.self ≡ sunk z parcel) c.self.view_is c.sink-2.ensures

pub overflow_add-at : goal.overflow_add-at
overflow_add-at c = let end = high (goal.at.overflow_add-at c).After-page-from in let reach = c.page-from.ensures.reach in omega arith

pub page_at-to-requires-clause-high : goal.page_at-to-requires-clause-high
page_at-to-requires-clause-high c = high (goal.at.page_at-to-requires-clause-high c).After-page-from

pub leaf-old-requires : goal.leaf-old-requires
leaf-old-requires c = last-entry c.args.self.now c.requires.parcel

pub leaf-new-requires : goal.leaf-new-requires
leaf-new-requires c =
    let parcel = c.requires.parcel in
    run-entry c.args.self.now c.args.start parcel.before parcel.blocks parcel.here parcel.after parcel.map parcel.place

pub pass-requires : goal.pass-requires
pass-requires c = run_split c.self.inside.zone (subst (λ (z : ZoneState). ParcelUpTo z c.args.start c.args.at) (sym c.self.view_is) c.requires.parcel)

pub touch-requires : goal.touch-requires
touch-requires c = leaf-same _ c.self.inside.leaves c.pass.new.leaves c.pass.ensures.sums (leaf-there c.self.inside.zone c.args.self.now c.self.view_is _ c.self.inside.leaves c.self.invariant.leaves c.leaf-old.ensures.inside)

pub touch-requires-2 : goal.touch-requires-2
touch-requires-2 c = leaf-touched _ _ c.pass.new.leaves c.touch.new.self c.touch.ensures (leaf-same _ c.self.inside.leaves c.pass.new.leaves c.pass.ensures.sums (leaf-there c.self.inside.zone c.args.self.now c.self.view_is _ c.self.inside.leaves c.self.invariant.leaves c.leaf-new.ensures.inside))
