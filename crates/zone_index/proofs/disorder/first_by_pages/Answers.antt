use Rattle.std.proofs.Common.{◌≡◌, ◌+◌, ◌∙◌, ap, sym, subst, true, [], arith}
use Rattle.std.proofs.lemmas.Bool.{not-false}
use Rattle.mac_base.specs.ZoneMap.{address_after}
use Rattle.mac_base.specs.ZoneSizes.{ZoneSizes}
use Rattle.zone_index.specs.declared.order.Passed.{Passed}
use Rattle.zone_index.specs.Spans.{after_of}
use Rattle.zone_index.proofs.Entries.{told}
use Rattle.zone_index.proofs.OutOfOrder.{Passing, none_passing, ordered_to, passing_on, passing_all}
use Rattle.zone_index.proofs.Walking.{Turn, walked-turn, walked-first, page-some, page-end}
use Rattle.zone_index.proofs.disorder.first_by_pages.Goals as goal
use Rattle.zone_index.proofs.disorder.first_by_pages.Goals.{In-loop-at}

-- a page begins there
coming : (c : In-loop-at) → Turn c.args.zone.now (c.loop-at.invariant.0).walked
coming c =
    let z = c.args.zone.now in
    let t = told c.args.zone.now _ c.spec-spec.ensures.sizes _ _ c.base.ensures.value c.size.ensures.value in
    let p : Passing z c.loop-at.at c.loop-at.free = c.loop-at.invariant.0 in
    walked-turn z c.loop-at.at p.sums p.walked (omega (arith, c.loop-at-test.true))

pub loop-at-init : goal.loop-at-init
loop-at-init c =
    let base = c.base-at.ensures.value ∙ ap (λ (s : ZoneSizes). s.base) c.spec-spec.ensures.sizes in
    (none_passing c.args.zone.now (c.base-at.result + 52) (let e : c.base-at.result + 52 ≡ address_after c.args.zone.now.shape [] = omega arith in e), c.requires.pages)

pub page_sums-here-requires-clause-first : goal.page_sums-here-requires-clause-first
page_sums-here-requires-clause-first c =
    let p : Passing c.args.zone.now c.loop-at.at c.loop-at.free = c.loop-at.invariant.0 in
    walked-first c.args.zone.now c.loop-at.at p.sums p.walked (coming (goal.at.page_sums-here-requires-clause-first c).In-loop-at)

pub first_from-requires : goal.first_from-requires
first_from-requires c = ordered_to c.args.zone.now c.loop-at.at c.loop-at.free c.loop-at.invariant.0

pub overflow_add-at-in-loop-at : goal.overflow_add-at-in-loop-at
overflow_add-at-in-loop-at c =
    let z = c.args.zone.now in
    let size = ap (λ (s : ZoneSizes). s.size) c.spec-spec.ensures.sizes in
    let base = ap (λ (s : ZoneSizes). s.base) c.spec-spec.ensures.sizes in
    let within = c.base.ensures.possible.within in
    let end = c.base.ensures.reach in
    let p : Passing z c.loop-at.at c.loop-at.free = c.loop-at.invariant.0 in
    let high = page-end z c.loop-at.at p.sums p.walked c.spec-spec.ensures.possible (coming (goal.at.overflow_add-at-in-loop-at c).In-loop-at) c.page_sums-here.result c.page_sums-here.ensures.sums in
    omega arith

pub loop-at-smaller : goal.loop-at-smaller
loop-at-smaller c =
    let z = c.args.zone.now in
    let p : Passing z c.loop-at.at c.loop-at.free = c.loop-at.invariant.0 in
    let some = page-some z c.loop-at.at p.sums p.walked c.spec-spec.ensures.possible (coming (goal.at.loop-at-smaller c).In-loop-at) c.page_sums-here.result c.page_sums-here.ensures.sums in
    let test = c.loop-at-test.true in
    omega arith

pub loop-at-preserved : goal.loop-at-preserved
loop-at-preserved c =
    let z = c.args.zone.now in
    let n = coming (goal.at.loop-at-preserved c).In-loop-at in
    let q = c.page_sums-here.result in
    let after = c.after-after.ensures in
    let arranged : (after_of q.order c.loop-at.free).arranged ≡ true = ap (λ (p : Passed). p.arranged) (sym after) ∙ not-false c.after-after.result.arranged c.if-not-after.false in (
      subst (λ (p : Passed). Passing z (c.loop-at.at + q.bytes) p.free) (sym after)
          (passing_on z c.loop-at.at c.loop-at.free c.loop-at.invariant.0 c.spec-spec.ensures.possible n q c.page_sums-here.ensures.sums arranged),
      c.page_sums-here.ensures.pages,
    )

pub returns-clause-first : goal.returns-clause-first
returns-clause-first c =
    let t = told c.args.zone.now _ c.spec-spec.ensures.sizes _ _ c.base.ensures.value c.size.ensures.value in
    passing_all c.args.zone.now c.loop-at.at c.loop-at.free c.loop-at.invariant.0 c.spec-spec.ensures.possible (omega (arith, c.loop-at-test.false))
