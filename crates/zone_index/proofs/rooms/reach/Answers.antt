use Rattle.std.proofs.Common.{◌+◌, ◌∙◌, ap, sym, subst, arith}
use Rattle.mac_base.specs.declared.block.Entry.{Entry}
use Rattle.mac_base.specs.ZoneSizes.{ZoneSizes}
use Rattle.linked_zone.specs.Places.{HasOwner}
use Rattle.sum_tree.specs.declared.span.Span.{Span}
use Rattle.sum_tree.specs.Span.{SpanFits, joined, most_in}
use Rattle.zone_index.specs.Rooms.{room_of}
use Rattle.zone_index.proofs.Entries.{FirstIn, read_size, read_within, told}
use Rattle.zone_index.proofs.Owners.{entry-owner}
use Rattle.zone_index.proofs.Reached.{Below, below-all, first_reached, following, following-fits, following-on, following-reaches, follows, none_reached}
use Rattle.zone_index.proofs.rooms.reach.Goals as goal
use Rattle.zone_index.proofs.rooms.reach.Goals.{In-loop-at}

-- a block comes next
coming : (c : In-loop-at) → FirstIn c.loop-at.invariant.after
coming c =
    let t = told c.args.zone.now _ c.spec-spec.ensures.sizes _ _ c.base.ensures.value c.size.ensures.value in
    follows c.args.zone.now c.args.needed c.loop-at.at c.loop-at.sum c.loop-at.invariant (omega (arith, c.loop-at-test.true))

pub loop-at-init : goal.loop-at-init
loop-at-init c = first_reached c.args.zone.now c.spec-spec.ensures.possible c.args.from c.args.needed c.args.below c.requires c.in_ok-at.at c.in_ok-at.ensures.first

pub entry_at-here-requires : goal.entry_at-here-requires
entry_at-here-requires c = following c.args.zone.now c.args.needed c.loop-at.at c.loop-at.sum c.loop-at.invariant (coming c)

pub weigh-requires : goal.weigh-requires
weigh-requires c =
    let z = c.args.zone.now in
    let here = following z c.args.needed c.loop-at.at c.loop-at.sum c.loop-at.invariant (coming (goal.at.weigh-requires c).In-loop-at) in
    subst (λ (e : Entry). HasOwner z e.kind) (sym (c.entry_at-here.ensures here)) (entry-owner z c.loop-at.at here c.spec-spec.ensures.fits)

pub returns-in_err-at : goal.returns-in_err-at
returns-in_err-at c = rw c.from_residual.ensures (none_reached c.args.zone.now c.spec-spec.ensures.possible c.args.from c.args.needed c.args.below c.requires c.in_err-at.ensures.none)

pub join-next-requires : goal.join-next-requires
join-next-requires c =
    let z = c.args.zone.now in
    let b = c.loop-at.invariant in
    let n = coming (goal.at.join-next-requires c).In-loop-at in
    let here = following z c.args.needed c.loop-at.at c.loop-at.sum b n in
    let base = ap (λ (s : ZoneSizes). s.base) c.spec-spec.ensures.sizes in
    let size = ap (λ (s : ZoneSizes). s.size) c.spec-spec.ensures.sizes in
    let within = c.base.ensures.possible.within in
    let end = c.base.ensures.reach in
    subst (λ (x : Span). SpanFits (joined c.loop-at.sum x)) (sym (c.span_of.ensures ∙ ap room_of c.weigh.ensures))
    (following-fits z c.args.needed c.loop-at.at c.loop-at.sum b n c.entry_at-here.result (c.entry_at-here.ensures here) (omega arith))

pub overflow_add-at : goal.overflow_add-at
overflow_add-at c =
    let here = following c.args.zone.now c.args.needed c.loop-at.at c.loop-at.sum c.loop-at.invariant (coming (goal.at.overflow_add-at c).In-loop-at) in
    omega (arith, read_within c.args.zone.now c.loop-at.at here c.entry_at-here.result c.spec-spec.result (c.entry_at-here.ensures here) c.spec-spec.ensures.sizes, c.base.ensures.possible.within, c.base.ensures.reach)

pub loop-at-smaller : goal.loop-at-smaller
loop-at-smaller c =
    let here = following c.args.zone.now c.args.needed c.loop-at.at c.loop-at.sum c.loop-at.invariant (coming (goal.at.loop-at-smaller c).In-loop-at) in
    omega (arith, read_size c.args.zone.now c.loop-at.at here c.entry_at-here.result (c.entry_at-here.ensures here) c.spec-spec.ensures.possible, c.loop-at-test.true)

pub returns-then-most-needed : goal.returns-then-most-needed
returns-then-most-needed c =
    let z = c.args.zone.now in
    let n = coming (goal.at.returns-then-most-needed c).In-loop-at in
    let here = following z c.args.needed c.loop-at.at c.loop-at.sum c.loop-at.invariant n in
    let sum = ap most_in (c.join-next.ensures ∙ ap (joined c.loop-at.sum) (c.span_of.ensures ∙ ap room_of c.weigh.ensures)) in
    let most = c.most.ensures in
    let enough = c.if-most-needed.true in
    following-reaches z c.args.needed c.loop-at.at c.loop-at.sum c.loop-at.invariant n c.entry_at-here.result (c.entry_at-here.ensures here) (omega arith)

pub loop-at-preserved : goal.loop-at-preserved
loop-at-preserved c =
    let z = c.args.zone.now in
    let n = coming (goal.at.loop-at-preserved c).In-loop-at in
    let here = following z c.args.needed c.loop-at.at c.loop-at.sum c.loop-at.invariant n in
    let all = c.join-next.ensures ∙ ap (joined c.loop-at.sum) (c.span_of.ensures ∙ ap room_of c.weigh.ensures) in
    let sum = ap most_in all in
    let most = c.most.ensures in
    let few = c.if-most-needed.false in
    subst (Below z c.args.needed (c.loop-at.at + c.entry_at-here.result.size)) (sym all)
    (following-on z c.args.needed c.loop-at.at c.loop-at.sum c.loop-at.invariant n c.entry_at-here.result (c.entry_at-here.ensures here) (omega arith))

pub returns : goal.returns
returns c =
    let t = told c.args.zone.now _ c.spec-spec.ensures.sizes _ _ c.base.ensures.value c.size.ensures.value in
    below-all c.args.zone.now c.args.needed c.loop-at.at c.loop-at.sum c.loop-at.invariant c.spec-spec.ensures.possible (omega (arith, c.loop-at-test.false))
