use Rattle.std.proofs.Common.{◌≡◌, ◌+◌, ◌-◌, ◌/◌, ◌≤◌, [], ap, subst, ◌∙◌, arith}
use Rattle.mac_base.specs.declared.block.Entry.{Entry}
use Rattle.mac_base.specs.ZoneMap.{address_after}
use Rattle.mac_base.specs.ZoneSizes.{ArePossible, ZoneSizes}
use Rattle.linked_zone.specs.Places.{EntryAt}
use Rattle.zone_index.specs.Marks.{place}
use Rattle.zone_index.proofs.Entries.{entry_size, entry_within, split-entry}
use Rattle.zone_index.proofs.Marked.{marking-first, marking-on, marking-fixed, marking-goes}
use Rattle.zone_index.proofs.Placed.{place-within}
use Rattle.zone_index.proofs.marking.mark_blocks.Goals as goal
use Rattle.zone_index.proofs.marking.mark_blocks.Goals.{In-loop-at}

-- the block that is next
here : (c : In-loop-at) → EntryAt c.args.zone.now c.loop-at.at
here c =
    let base = c.base-base.ensures.value ∙ ap (λ (s : ZoneSizes). s.base) c.spec-spec.ensures.sizes in
    let size = c.size.ensures.value ∙ ap (λ (s : ZoneSizes). s.size) c.spec-spec.ensures.sizes in
    let test = c.loop-at-test.true in
    split-entry c.args.zone.now c.loop-at.at c.loop-at.invariant.split (omega arith)

-- it has a place
inside : (c : In-loop-at) → place c.args.zone.now.shape c.loop-at.at ≤ c.args.zone.now.shape.limit / 4
inside c = place-within c.args.zone.now c.loop-at.at (subst ArePossible c.spec-spec.ensures.sizes c.base-base.ensures.possible) (here c)

pub loop-at-init : goal.loop-at-init
loop-at-init c =
    let base = c.base-base.ensures.value ∙ ap (λ (s : ZoneSizes). s.base) c.spec-spec.ensures.sizes in
    let first : c.base-base.result + 52 ≡ address_after c.args.zone.now.shape [] = omega arith in
    marking-first c.args.zone.now (c.base-base.result + 52) c.args.marks.now c.args.purgeable.now c.requires.fixed c.requires.purgeable first

pub entry_and_flags-requires : goal.entry_and_flags-requires
entry_and_flags-requires c = here (goal.at.entry_and_flags-requires c).In-loop-at

pub mark-requires : goal.mark-requires
mark-requires c =
    let base = c.base-base.ensures.value ∙ ap (λ (s : ZoneSizes). s.base) c.spec-spec.ensures.sizes in
    let within = inside (goal.at.mark-requires c).In-loop-at in
    let places = c.loop-at.invariant.fixed.places in
    omega arith

pub mark-requires-in-loop-at : goal.mark-requires-in-loop-at
mark-requires-in-loop-at c =
    let base = c.base-base.ensures.value ∙ ap (λ (s : ZoneSizes). s.base) c.spec-spec.ensures.sizes in
    let within = inside (goal.at.mark-requires-in-loop-at c).In-loop-at in
    let places = c.loop-at.invariant.goes.places in
    omega arith

pub overflow_add-at-in-loop-at : goal.overflow_add-at-in-loop-at
overflow_add-at-in-loop-at c =
    let z = c.args.zone.now in
    let e = here (goal.at.overflow_add-at-in-loop-at c).In-loop-at in
    let within = entry_within z c.loop-at.at e in
    let here_size = ap (λ (e : Entry). e.size) (c.entry_and_flags.ensures.entry e) in
    let size = ap (λ (s : ZoneSizes). s.size) c.spec-spec.ensures.sizes in
    let base = ap (λ (s : ZoneSizes). s.base) c.spec-spec.ensures.sizes in
    let low = c.base-base.ensures.possible.within in
    let end = c.base-base.ensures.reach in
    omega arith

pub loop-at-smaller : goal.loop-at-smaller
loop-at-smaller c =
    let z = c.args.zone.now in
    let e = here (goal.at.loop-at-smaller c).In-loop-at in
    let some = entry_size z c.loop-at.at e c.spec-spec.ensures.possible in
    let size = ap (λ (e : Entry). e.size) (c.entry_and_flags.ensures.entry e) in
    let test = c.loop-at-test.true in
    omega arith

pub loop-at-preserved : goal.loop-at-preserved
loop-at-preserved c =
    let z = c.args.zone.now in
    let i = (goal.at.loop-at-preserved c).In-loop-at in
    let base : c.base-base.result ≡ z.shape.base = c.base-base.ensures.value ∙ ap (λ (s : ZoneSizes). s.base) c.spec-spec.ensures.sizes in
    marking-on z c.loop-at.at c.spec-spec.ensures.possible (here i) c.entry_and_flags.result.0 (c.entry_and_flags.ensures.entry (here i))
    ((c.loop-at.at - c.base-base.result) / 4) (ap (λ b. (c.loop-at.at - b) / 4) base) (inside i)
    c.loop-at.marks c.loop-at.purgeable c.mark.new.marks c.mark-in-loop-at.new.marks
    (c.mark.ensures z.heap.table c.entry_and_flags.ensures.flags) (c.mark-in-loop-at.ensures z.heap.table c.entry_and_flags.ensures.flags) c.loop-at.invariant

pub returns-clause-fixed : goal.returns-clause-fixed
returns-clause-fixed c =
    let base = c.base-base.ensures.value ∙ ap (λ (s : ZoneSizes). s.base) c.spec-spec.ensures.sizes in
    let size = c.size.ensures.value ∙ ap (λ (s : ZoneSizes). s.size) c.spec-spec.ensures.sizes in
    let test = c.loop-at-test.false in
    marking-fixed c.args.zone.now c.loop-at.at c.loop-at.marks c.loop-at.purgeable c.spec-spec.ensures.possible c.loop-at.invariant (omega arith)

pub returns-clause-purgeable : goal.returns-clause-purgeable
returns-clause-purgeable c =
    let base = c.base-base.ensures.value ∙ ap (λ (s : ZoneSizes). s.base) c.spec-spec.ensures.sizes in
    let size = c.size.ensures.value ∙ ap (λ (s : ZoneSizes). s.size) c.spec-spec.ensures.sizes in
    let test = c.loop-at-test.false in
    marking-goes c.args.zone.now c.loop-at.at c.loop-at.marks c.loop-at.purgeable c.spec-spec.ensures.possible c.loop-at.invariant (omega arith)
