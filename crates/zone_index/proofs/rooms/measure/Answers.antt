use Rattle.std.proofs.Common.{◌+◌, ◌*◌, ◌∙◌, ap, sym, subst, arith}
use Rattle.mac_base.specs.declared.block.Entry.{Entry}
use Rattle.mac_base.specs.ZoneSizes.{ZoneSizes}
use Rattle.linked_zone.specs.Places.{HasOwner}
use Rattle.sum_tree.specs.declared.span.Span.{Span}
use Rattle.sum_tree.specs.Span.{SpanFits, joined}
use Rattle.zone_index.specs.Rooms.{room_of}
use Rattle.zone_index.proofs.Entries.{FirstIn, read_size, read_within, told}
use Rattle.zone_index.proofs.LeafWalk.{Gathered, gathered-all, gathered-entry, gathered-fits, gathered-next, gathered-on, none_begun, none_gathered}
use Rattle.zone_index.proofs.Owners.{entry-owner}
use Rattle.zone_index.proofs.rooms.measure.Goals as goal
use Rattle.zone_index.proofs.rooms.measure.Goals.{In-loop-at}

-- a block comes next
coming : (c : In-loop-at) → FirstIn c.loop-at.invariant.after
coming c =
    let z = c.args.zone.now in
    let t = told c.args.zone.now _ c.spec-spec.ensures.sizes _ _ c.base-base.ensures.value c.size.ensures.value in
    gathered-next z (256 * c.args.leaf) (256 * c.args.leaf + 256) c.loop-at.at c.loop-at.sum c.loop-at.invariant (omega (arith, c.loop-at-test.true, c.min-end.ensures, c.saturating_add.ensures))

pub returns-in_default : goal.returns-in_default
returns-in_default c =
    let z = c.args.zone.now in
    let base = c.base-base.ensures.value ∙ ap (λ (s : ZoneSizes). s.base) c.spec-spec.ensures.sizes in
    c.none-sum.ensures ∙ sym (none_begun z c.spec-spec.ensures.possible (256 * c.args.leaf) (256 * c.args.leaf + 256) (c.base-base.result + c.args.leaf * 256) (omega arith) c.in_default.ensures.none)

pub loop-at-init : goal.loop-at-init
loop-at-init c =
    let z = c.args.zone.now in
    let base = c.base-base.ensures.value ∙ ap (λ (s : ZoneSizes). s.base) c.spec-spec.ensures.sizes in
    subst (λ (s : Span). Gathered z (256 * c.args.leaf) (256 * c.args.leaf + 256) c.in-Some.at s) (sym c.none-sum.ensures)
    (none_gathered z c.spec-spec.ensures.possible (256 * c.args.leaf) (256 * c.args.leaf + 256) (c.base-base.result + c.args.leaf * 256) c.in-Some.at (omega arith) c.in-Some.ensures.first)

pub entry_at-here-requires : goal.entry_at-here-requires
entry_at-here-requires c = gathered-entry c.args.zone.now (256 * c.args.leaf) (256 * c.args.leaf + 256) c.loop-at.at c.loop-at.sum c.loop-at.invariant (coming c)

pub weigh-requires : goal.weigh-requires
weigh-requires c =
    let z = c.args.zone.now in
    let here = gathered-entry z (256 * c.args.leaf) (256 * c.args.leaf + 256) c.loop-at.at c.loop-at.sum c.loop-at.invariant (coming (goal.at.weigh-requires c).In-loop-at) in
    subst (λ (e : Entry). HasOwner z e.kind) (sym (c.entry_at-here.ensures here)) (entry-owner z c.loop-at.at here c.spec-spec.ensures.fits)

pub join-sum-requires : goal.join-sum-requires
join-sum-requires c =
    let z = c.args.zone.now in
    let g = c.loop-at.invariant in
    let n = coming (goal.at.join-sum-requires c).In-loop-at in
    let here = gathered-entry z (256 * c.args.leaf) (256 * c.args.leaf + 256) c.loop-at.at c.loop-at.sum g n in
    let base = ap (λ (s : ZoneSizes). s.base) c.spec-spec.ensures.sizes in
    let size = ap (λ (s : ZoneSizes). s.size) c.spec-spec.ensures.sizes in
    let within = c.base-base.ensures.possible.within in
    let end = c.base-base.ensures.reach in
    subst (λ (x : Span). SpanFits (joined c.loop-at.sum x)) (sym (c.span_of.ensures ∙ ap room_of c.weigh.ensures))
    (gathered-fits z (256 * c.args.leaf) (256 * c.args.leaf + 256) c.loop-at.at c.loop-at.sum g n c.entry_at-here.result (c.entry_at-here.ensures here) (omega arith))

pub overflow_add-at : goal.overflow_add-at
overflow_add-at c =
    let here = gathered-entry c.args.zone.now (256 * c.args.leaf) (256 * c.args.leaf + 256) c.loop-at.at c.loop-at.sum c.loop-at.invariant (coming (goal.at.overflow_add-at c).In-loop-at) in
    omega (arith, read_within c.args.zone.now c.loop-at.at here c.entry_at-here.result c.spec-spec.result (c.entry_at-here.ensures here) c.spec-spec.ensures.sizes, c.base-base.ensures.possible.within, c.base-base.ensures.reach)

pub loop-at-smaller : goal.loop-at-smaller
loop-at-smaller c =
    let here = gathered-entry c.args.zone.now (256 * c.args.leaf) (256 * c.args.leaf + 256) c.loop-at.at c.loop-at.sum c.loop-at.invariant (coming (goal.at.loop-at-smaller c).In-loop-at) in
    omega (arith, read_size c.args.zone.now c.loop-at.at here c.entry_at-here.result (c.entry_at-here.ensures here) c.spec-spec.ensures.possible, c.loop-at-test.true)

pub loop-at-preserved : goal.loop-at-preserved
loop-at-preserved c =
    let z = c.args.zone.now in
    let g = c.loop-at.invariant in
    let n = coming (goal.at.loop-at-preserved c).In-loop-at in
    let here = gathered-entry z (256 * c.args.leaf) (256 * c.args.leaf + 256) c.loop-at.at c.loop-at.sum g n in
    let base = c.base-base.ensures.value ∙ ap (λ (s : ZoneSizes). s.base) c.spec-spec.ensures.sizes in
    let test = c.loop-at-test.true in
    let end = c.min-end.ensures in
    let after = c.saturating_add.ensures in
    subst (Gathered z (256 * c.args.leaf) (256 * c.args.leaf + 256) (c.loop-at.at + c.entry_at-here.result.size)) (sym (c.join-sum.ensures ∙ ap (joined c.loop-at.sum) (c.span_of.ensures ∙ ap room_of c.weigh.ensures)))
    (gathered-on z (256 * c.args.leaf) (256 * c.args.leaf + 256) c.loop-at.at c.loop-at.sum g n c.entry_at-here.result (c.entry_at-here.ensures here) (omega arith))

pub returns : goal.returns
returns c =
    let z = c.args.zone.now in
    let t = told c.args.zone.now _ c.spec-spec.ensures.sizes _ _ c.base-base.ensures.value c.size.ensures.value in
    gathered-all z (256 * c.args.leaf) (256 * c.args.leaf + 256) c.loop-at.at c.loop-at.sum c.loop-at.invariant c.spec-spec.ensures.possible (omega (arith, c.loop-at-test.false, c.min-end.ensures, c.saturating_add.ensures))
