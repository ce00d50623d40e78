use Rattle.std.proofs.Common.{◌≡◌, ◌+◌, ◌∙◌, ap, sym, subst, [], arith}
use Rattle.mac_base.specs.ZoneMap.{address_after}
use Rattle.mac_base.specs.ZoneSizes.{ZoneSizes}
use Rattle.zone_index.proofs.Entries.{told}
use Rattle.zone_index.proofs.Spans.{sum-within}
use Rattle.zone_index.proofs.Walking.{Turn, Walked, none_walked, walked-turn, walked-first, walked-all, walked-on, walked-bytes, page-some, page-within, page-end}
use Rattle.zone_index.proofs.zone.all_pages.Goals as goal
use Rattle.zone_index.proofs.zone.all_pages.Goals.{In-loop-at}

-- a page begins there
coming : (c : In-loop-at) → Turn c.args.zone.now c.loop-at.invariant.0
coming c =
    let z = c.args.zone.now in
    let t = told c.args.zone.now _ c.spec-spec.ensures.sizes _ _ c.base.ensures.value c.size.ensures.value in
    walked-turn z c.loop-at.at c.loop-at.all c.loop-at.invariant.0 (omega (arith, c.loop-at-test.true))

pub loop-at-init : goal.loop-at-init
loop-at-init c =
    let base = c.base-at.ensures.value ∙ ap (λ (s : ZoneSizes). s.base) c.spec-spec.ensures.sizes in
    (none_walked c.args.zone.now (c.base-at.result + 52) (let e : c.base-at.result + 52 ≡ address_after c.args.zone.now.shape [] = omega arith in e), c.requires.pages)

pub page_sums-here-requires-clause-first : goal.page_sums-here-requires-clause-first
page_sums-here-requires-clause-first c = walked-first c.args.zone.now c.loop-at.at c.loop-at.all c.loop-at.invariant.0 (coming (goal.at.page_sums-here-requires-clause-first c).In-loop-at)

pub join-all-requires-clause-here : goal.join-all-requires-clause-here
join-all-requires-clause-here c =
    let w = c.loop-at.invariant.0 in
    sum-within c.args.zone.now.heap.table w.before c.loop-at.all w.sums

pub join-all-requires-clause-there : goal.join-all-requires-clause-there
join-all-requires-clause-there c =
    page-within c.args.zone.now c.loop-at.at c.loop-at.all c.loop-at.invariant.0 c.spec-spec.ensures.possible (coming (goal.at.join-all-requires-clause-there c).In-loop-at) c.page_sums-here.result c.page_sums-here.ensures.sums

pub join-all-requires-clause-few : goal.join-all-requires-clause-few
join-all-requires-clause-few c =
    let z = c.args.zone.now in
    let w = c.loop-at.invariant.0 in
    let size = ap (λ (s : ZoneSizes). s.size) c.spec-spec.ensures.sizes in
    let base = ap (λ (s : ZoneSizes). s.base) c.spec-spec.ensures.sizes in
    let within = c.base.ensures.possible.within in
    let end = c.base.ensures.reach in
    let below = walked-bytes z c.loop-at.at c.loop-at.all w in
    let high = page-end z c.loop-at.at c.loop-at.all w c.spec-spec.ensures.possible (coming (goal.at.join-all-requires-clause-few c).In-loop-at) c.page_sums-here.result c.page_sums-here.ensures.sums in
    omega arith

pub overflow_add-at-in-loop-at : goal.overflow_add-at-in-loop-at
overflow_add-at-in-loop-at c =
    let z = c.args.zone.now in
    let size = ap (λ (s : ZoneSizes). s.size) c.spec-spec.ensures.sizes in
    let base = ap (λ (s : ZoneSizes). s.base) c.spec-spec.ensures.sizes in
    let within = c.base.ensures.possible.within in
    let end = c.base.ensures.reach in
    let high = page-end z c.loop-at.at c.loop-at.all c.loop-at.invariant.0 c.spec-spec.ensures.possible (coming (goal.at.overflow_add-at-in-loop-at c).In-loop-at) c.page_sums-here.result c.page_sums-here.ensures.sums in
    omega arith

pub loop-at-smaller : goal.loop-at-smaller
loop-at-smaller c =
    let z = c.args.zone.now in
    let some = page-some z c.loop-at.at c.loop-at.all c.loop-at.invariant.0 c.spec-spec.ensures.possible (coming (goal.at.loop-at-smaller c).In-loop-at) c.page_sums-here.result c.page_sums-here.ensures.sums in
    let test = c.loop-at-test.true in
    omega arith

pub loop-at-preserved : goal.loop-at-preserved
loop-at-preserved c =
    let z = c.args.zone.now in (
      subst (Walked z (c.loop-at.at + c.page_sums-here.result.bytes)) (sym c.join-all.ensures)
          (walked-on z c.loop-at.at c.loop-at.all c.loop-at.invariant.0 c.spec-spec.ensures.possible (coming (goal.at.loop-at-preserved c).In-loop-at) c.page_sums-here.result c.page_sums-here.ensures.sums),
      c.page_sums-here.ensures.pages,
    )

pub returns-clause-sums : goal.returns-clause-sums
returns-clause-sums c =
    let t = told c.args.zone.now _ c.spec-spec.ensures.sizes _ _ c.base.ensures.value c.size.ensures.value in
    walked-all c.args.zone.now c.loop-at.at c.loop-at.all c.loop-at.invariant.0 c.spec-spec.ensures.possible (omega (arith, c.loop-at-test.false))
