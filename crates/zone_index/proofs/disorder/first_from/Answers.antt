use Rattle.std.proofs.Common.{◌≡◌, ◌+◌, ◌∙◌, ap, sym, subst, true, false, not, arith}
use Rattle.std.specs.Prelude.{◌||◌, nat_lt}
use Rattle.std.proofs.lemmas.Bool.{not-true, not-false}
use Rattle.std.proofs.Math.Bool.{or-true}
use Rattle.mac_base.specs.declared.block.Entry.{Entry}
use Rattle.linked_zone.specs.Places.{HasOwner}
use Rattle.zone_index.specs.declared.weight.Weight.{Weight}
use Rattle.zone_index.specs.Disorder.{OrderedTo}
use Rattle.zone_index.specs.Weights.{weigh}
use Rattle.zone_index.proofs.Entries.{FirstIn, read_size, read_within, told}
use Rattle.zone_index.proofs.Owners.{entry-owner}
use Rattle.zone_index.proofs.OutOfOrder.{coming, entry_coming, ordered_on, out_of_order, ordered_all}
use Rattle.zone_index.proofs.disorder.first_from.Goals as goal
use Rattle.zone_index.proofs.disorder.first_from.Goals.{In-loop-at, else-past_free-via-then-past_free+else-not-weight, else-past_free-via-else-past_free}

-- a block comes next
next : (c : In-loop-at) → FirstIn c.loop-at.invariant.after
next c =
    let z = c.args.zone.now in
    let t = told c.args.zone.now _ c.spec-spec.ensures.sizes _ _ c.base.ensures.value c.size.ensures.value in
    coming z c.loop-at.at c.loop-at.past_free c.loop-at.invariant (omega (arith, c.loop-at-test.true))

pub entry_at-here-requires : goal.entry_at-here-requires
entry_at-here-requires c = entry_coming c.args.zone.now c.loop-at.at c.loop-at.past_free c.loop-at.invariant (next (goal.at.entry_at-here-requires c).In-loop-at)

pub weigh-weight-requires : goal.weigh-weight-requires
weigh-weight-requires c =
    let z = c.args.zone.now in
    let here = entry_coming z c.loop-at.at c.loop-at.past_free c.loop-at.invariant (next (goal.at.weigh-weight-requires c).In-loop-at) in
    subst (λ (e : Entry). HasOwner z e.kind) (sym (c.entry_at-here.ensures here)) (entry-owner z c.loop-at.at here c.spec-spec.ensures.fits)

pub returns-then-not-weight : goal.returns-then-not-weight
returns-then-not-weight c =
    let z = c.args.zone.now in
    let n = next (goal.at.returns-then-not-weight c).In-loop-at in
    let e = c.entry_at-here.result in
    let fixed : (weigh z.heap.table e).fixed ≡ false = ap (λ (w : Weight). w.fixed) (sym c.weigh-weight.ensures) ∙ not-true c.weigh-weight.result.fixed c.if-not-weight.true in
    out_of_order z c.loop-at.at c.loop-at.past_free c.loop-at.invariant n e (c.entry_at-here.ensures (entry_coming z c.loop-at.at c.loop-at.past_free c.loop-at.invariant n)) c.if-past_free.true fixed

pub overflow_add-at : goal.overflow_add-at
overflow_add-at c =
    let here = entry_coming c.args.zone.now c.loop-at.at c.loop-at.past_free c.loop-at.invariant (next (goal.at.overflow_add-at c).In-loop-at) in
    omega (arith, read_within c.args.zone.now c.loop-at.at here c.entry_at-here.result c.spec-spec.result (c.entry_at-here.ensures here) c.spec-spec.ensures.sizes, c.base.ensures.possible.within, c.base.ensures.reach)

pub loop-at-smaller : goal.loop-at-smaller
loop-at-smaller c =
    let here = entry_coming c.args.zone.now c.loop-at.at c.loop-at.past_free c.loop-at.invariant (next (goal.at.loop-at-smaller c).In-loop-at) in
    omega (arith, read_size c.args.zone.now c.loop-at.at here c.entry_at-here.result (c.entry_at-here.ensures here) c.spec-spec.ensures.possible, c.loop-at-test.true)

pub loop-at-preserved : goal.loop-at-preserved
loop-at-preserved c =
    let z = c.args.zone.now in
    let n = next (goal.at.loop-at-preserved c).In-loop-at in
    let e = c.entry_at-here.result in
    let weight = ap (λ (w : Weight). w.fixed) c.weigh-weight.ensures in
    let order : (not c.loop-at.past_free || (weigh z.heap.table e).fixed) ≡ true = elim c.else-past_free.branch [
      | else-past_free-via-then-past_free+else-not-weight w ↦ ap (λ f. not c.loop-at.past_free || f) (sym weight ∙ not-false c.weigh-weight.result.fixed w.if-not-weight.false) ∙ or-true (not c.loop-at.past_free)
      | else-past_free-via-else-past_free w ↦ ap (λ f. not f || (weigh z.heap.table e).fixed) w.if-past_free.false
    ] in
    subst (λ (w : Weight). OrderedTo z (c.loop-at.at + e.size) (nat_lt 0 w.free)) (sym c.weigh-weight.ensures)
    (ordered_on z c.loop-at.at c.loop-at.past_free c.loop-at.invariant n e (c.entry_at-here.ensures (entry_coming z c.loop-at.at c.loop-at.past_free c.loop-at.invariant n)) order)

pub returns : goal.returns
returns c =
    let t = told c.args.zone.now _ c.spec-spec.ensures.sizes _ _ c.base.ensures.value c.size.ensures.value in
    ordered_all c.args.zone.now c.loop-at.at c.loop-at.past_free c.loop-at.invariant c.spec-spec.ensures.possible (omega (arith, c.loop-at-test.false))
