use Rattle.std.proofs.Common.{◌+◌, ◌∙◌, ap, sym, subst, [], ◌∷◌, arith}
use Rattle.mac_base.specs.declared.block.Entry.{Entry}
use Rattle.mac_base.specs.ZoneSizes.{ZoneSizes}
use Rattle.linked_zone.specs.Places.{HasOwner}
use Rattle.zone_index.specs.declared.sums.Sums.{Sums}
use Rattle.zone_index.specs.declared.weight.Weight.{Weight}
use Rattle.zone_index.specs.Spans.{IsWithin, both, one}
use Rattle.zone_index.specs.Weights.{weigh}
use Rattle.zone_index.proofs.Entries.{FirstIn, read_size, read_within, told}
use Rattle.zone_index.proofs.Owners.{entry-owner}
use Rattle.zone_index.proofs.Spans.{sum-one, sum-within}
use Rattle.zone_index.proofs.Walking.{Measured, none_measured, measured-next, measured-entry, measured-on, measured-all, sum-below}
use Rattle.zone_index.proofs.pages.measure.Goals as goal
use Rattle.zone_index.proofs.pages.measure.Goals.{In-loop-at}

-- a block comes next
coming : (c : In-loop-at) → FirstIn c.loop-at.invariant.after
coming c =
    let z = c.args.zone.now in
    let t = told c.args.zone.now _ c.spec-spec.ensures.sizes _ _ c.base-base.ensures.value c.size.ensures.value in
    measured-next z c.args.first c.loop-at.at c.loop-at.sums c.loop-at.invariant (omega (arith, c.loop-at-test.true, c.min-end.ensures, c.saturating_add.ensures))

pub loop-at-init : goal.loop-at-init
loop-at-init c = none_measured c.args.zone.now c.args.first c.requires

pub entry_at-here-requires : goal.entry_at-here-requires
entry_at-here-requires c = measured-entry c.args.zone.now c.args.first c.loop-at.at c.loop-at.sums c.loop-at.invariant (coming c)

pub weigh-requires : goal.weigh-requires
weigh-requires c =
    let z = c.args.zone.now in
    let here = measured-entry z c.args.first c.loop-at.at c.loop-at.sums c.loop-at.invariant (coming (goal.at.weigh-requires c).In-loop-at) in
    subst (λ (e : Entry). HasOwner z e.kind) (sym (c.entry_at-here.ensures here)) (entry-owner z c.loop-at.at here c.spec-spec.ensures.fits)

pub join-sums-requires-clause-here : goal.join-sums-requires-clause-here
join-sums-requires-clause-here c =
    let m = c.loop-at.invariant in
    sum-within c.args.zone.now.heap.table m.done c.loop-at.sums m.sums

pub join-sums-requires-clause-there : goal.join-sums-requires-clause-there
join-sums-requires-clause-there c =
    let t = c.args.zone.now.heap.table in
    subst IsWithin (sym (c.of.ensures ∙ ap one c.weigh.ensures)) (sum-within t (c.entry_at-here.result ∷ []) (one (weigh t c.entry_at-here.result)) (sum-one (weigh t c.entry_at-here.result)))

pub join-sums-requires-clause-few : goal.join-sums-requires-clause-few
join-sums-requires-clause-few c =
    let z = c.args.zone.now in
    let here = measured-entry z c.args.first c.loop-at.at c.loop-at.sums c.loop-at.invariant (coming (goal.at.join-sums-requires-clause-few c).In-loop-at) in
    let weight = ap (λ (w : Weight). w.bytes) c.weigh.ensures in
    let sums = ap (λ (s : Sums). s.bytes) c.of.ensures in
    let within = read_within z c.loop-at.at here c.entry_at-here.result c.spec-spec.result (c.entry_at-here.ensures here) c.spec-spec.ensures.sizes in
    let base = ap (λ (s : ZoneSizes). s.base) c.spec-spec.ensures.sizes in
    let low = c.base-base.ensures.possible.within in
    let end = c.base-base.ensures.reach in
    let below = sum-below z c.args.first c.loop-at.at c.loop-at.sums c.loop-at.invariant in
    omega arith

pub overflow_add-at : goal.overflow_add-at
overflow_add-at c =
    let here = measured-entry c.args.zone.now c.args.first c.loop-at.at c.loop-at.sums c.loop-at.invariant (coming (goal.at.overflow_add-at c).In-loop-at) in
    omega (arith, read_within c.args.zone.now c.loop-at.at here c.entry_at-here.result c.spec-spec.result (c.entry_at-here.ensures here) c.spec-spec.ensures.sizes, c.base-base.ensures.possible.within, c.base-base.ensures.reach)

pub loop-at-smaller : goal.loop-at-smaller
loop-at-smaller c =
    let here = measured-entry c.args.zone.now c.args.first c.loop-at.at c.loop-at.sums c.loop-at.invariant (coming (goal.at.loop-at-smaller c).In-loop-at) in
    omega (arith, read_size c.args.zone.now c.loop-at.at here c.entry_at-here.result (c.entry_at-here.ensures here) c.spec-spec.ensures.possible, c.loop-at-test.true)

pub loop-at-preserved : goal.loop-at-preserved
loop-at-preserved c =
    let z = c.args.zone.now in
    let m = c.loop-at.invariant in
    let n = coming (goal.at.loop-at-preserved c).In-loop-at in
    let here = measured-entry z c.args.first c.loop-at.at c.loop-at.sums m n in
    let base = c.base-base.ensures.value ∙ ap (λ (s : ZoneSizes). s.base) c.spec-spec.ensures.sizes in
    let test = c.loop-at-test.true in
    let end = c.min-end.ensures in
    let after = c.saturating_add.ensures in
    subst (Measured z c.args.first (c.loop-at.at + c.entry_at-here.result.size)) (sym (c.join-sums.ensures ∙ ap (both c.loop-at.sums) c.of.ensures ∙ ap (λ w. both c.loop-at.sums (one w)) c.weigh.ensures))
    (measured-on z c.args.first c.loop-at.at c.loop-at.sums m n c.entry_at-here.result (c.entry_at-here.ensures here) (omega arith))

pub returns : goal.returns
returns c =
    let z = c.args.zone.now in
    let t = told c.args.zone.now _ c.spec-spec.ensures.sizes _ _ c.base-base.ensures.value c.size.ensures.value in
    measured-all z c.args.first c.loop-at.at c.loop-at.sums c.loop-at.invariant c.spec-spec.ensures.possible (omega (arith, c.loop-at-test.false, c.min-end.ensures, c.saturating_add.ensures))
