use Rattle.std.proofs.Common.{◌≡◌, ◌+◌, ◌-◌, ◌*◌, ◌/◌, ◌≤◌, length, ap, sym, ◌∙◌, subst, arith}
use Rattle.std.proofs.lemmas.Bool.{false≢true}
use Rattle.mac_base.specs.ZoneSizes.{ArePossible, ZoneSizes}
use Rattle.zone_index.specs.Marks.{FixedAt}
use Rattle.zone_index.specs.Search.{LastFixed}
use Rattle.zone_index.proofs.Placed.{split-within}
use Rattle.zone_index.proofs.Searching.{Back, first-back, last-back, last-here, last-none}
use Rattle.zone_index.proofs.fixed.last_fixed.Goals as goal

pub loop-found-init : goal.loop-found-init
loop-found-init c =
    let z = c.args.zone.now in
    let are = c.requires.marked in
    let sizes = c.spec.ensures.possible in
    let read = c.spec.ensures.sizes in
    let base : c.base-base.result ≡ z.shape.base = c.base-base.ensures.value ∙ ap (λ (s : ZoneSizes). s.base) read in
    subst (λ b. ((c.args.end - b) / 4 ≤ length c.args.marks.now) × Back z c.args.end ((c.args.end - b) / 4)) (sym base)
    ((let within = split-within z c.args.end (subst ArePossible read c.base-base.ensures.possible) c.requires.split in omega (arith, within.0, within.1, are.places)), first-back z c.args.marks.now are sizes c.args.end c.requires.split)

pub returns-then-passes_at-clause-last : goal.returns-then-passes_at-clause-last
returns-then-passes_at-clause-last c =
    let z = c.args.zone.now in
    let are = c.requires.marked in
    let sizes = c.spec.ensures.possible in
    let read = c.spec.ensures.sizes in
    let base : c.base-base.result ≡ z.shape.base = c.base-base.ensures.value ∙ ap (λ (s : ZoneSizes). s.base) read in
    subst (λ b. LastFixed z c.args.end (b + 4 * c.in-Some.found)) (sym base)
    (last-here z c.args.marks.now are sizes c.args.end c.loop-found.place c.in-Some.found c.loop-found.invariant.1 c.in-Some.ensures.last (subst (λ b. FixedAt z (b + 4 * c.in-Some.found)) base (c.passes_at.ensures.0 c.if-passes_at.true)))

pub loop-found-preserved : goal.loop-found-preserved
loop-found-preserved c =
    let z = c.args.zone.now in
    let are = c.requires.marked in
    let sizes = c.spec.ensures.possible in
    let read = c.spec.ensures.sizes in
    let base : c.base-base.result ≡ z.shape.base = c.base-base.ensures.value ∙ ap (λ (s : ZoneSizes). s.base) read in (
      (omega (arith, c.in-Some.ensures.last.inside, c.loop-found.invariant.0)),
      last-back z c.args.marks.now are sizes c.args.end c.loop-found.place c.in-Some.found c.loop-found.invariant.1 c.in-Some.ensures.last
          (λ f. false≢true (sym c.if-passes_at.false ∙ c.passes_at.ensures.1 (subst (λ b. FixedAt z (b + 4 * c.in-Some.found)) (sym base) f))),
    )

pub returns-clause-none : goal.returns-clause-none
returns-clause-none c =
    let z = c.args.zone.now in
    let are = c.requires.marked in
    let sizes = c.spec.ensures.possible in
    let read = c.spec.ensures.sizes in
    let base : c.base-base.result ≡ z.shape.base = c.base-base.ensures.value ∙ ap (λ (s : ZoneSizes). s.base) read in
    last-none z c.args.marks.now are sizes c.args.end c.loop-found.place c.loop-found.invariant.1 c.in_default.ensures.none
