use Rattle.std.proofs.Common.{◌≡◌, ◌+◌, ◌-◌, ◌*◌, ◌/◌, ap, sym, ◌∙◌, subst}
use Rattle.std.proofs.lemmas.Bool.{false≢true}
use Rattle.mac_base.specs.ZoneSizes.{ZoneSizes}
use Rattle.zone_index.specs.Marks.{PassesAt}
use Rattle.zone_index.specs.Search.{NextPassing}
use Rattle.zone_index.proofs.Searching.{Ahead, first-ahead, next-ahead, next-here, next-none}
use Rattle.zone_index.proofs.search.next_passing.Goals as goal

pub loop-found-init : goal.loop-found-init
loop-found-init g c =
    let z = c.args.zone.now in
    let are = c.requires.marked in
    let sizes = c.spec.ensures.possible in
    let read = c.spec.ensures.sizes in
    let base : c.base-base.result ≡ z.shape.base = c.base-base.ensures.value ∙ ap (λ (s : ZoneSizes). s.base) read in
    subst (λ b. Ahead g.T.BlockTest.test z c.args.from ((c.args.from - b) / 4)) (sym base) (first-ahead g.T.BlockTest.test z c.args.marks.now are sizes c.args.from c.requires.split)

pub returns-then-passes_at-clause-next : goal.returns-then-passes_at-clause-next
returns-then-passes_at-clause-next g c =
    let z = c.args.zone.now in
    let are = c.requires.marked in
    let sizes = c.spec.ensures.possible in
    let read = c.spec.ensures.sizes in
    let base : c.base-base.result ≡ z.shape.base = c.base-base.ensures.value ∙ ap (λ (s : ZoneSizes). s.base) read in
    subst (λ b. NextPassing g.T.BlockTest.test z c.args.from (b + 4 * c.in-Some.found)) (sym base)
    (next-here g.T.BlockTest.test z c.args.marks.now are sizes c.args.from c.loop-found.place c.in-Some.found c.loop-found.invariant c.in-Some.ensures.first (subst (λ b. PassesAt g.T.BlockTest.test z (b + 4 * c.in-Some.found)) base (c.passes_at.ensures.0 c.if-passes_at.true)))

pub loop-found-preserved : goal.loop-found-preserved
loop-found-preserved g c =
    let z = c.args.zone.now in
    let are = c.requires.marked in
    let sizes = c.spec.ensures.possible in
    let read = c.spec.ensures.sizes in
    let base : c.base-base.result ≡ z.shape.base = c.base-base.ensures.value ∙ ap (λ (s : ZoneSizes). s.base) read in
    next-ahead g.T.BlockTest.test z c.args.marks.now are sizes c.args.from c.loop-found.place c.in-Some.found c.loop-found.invariant c.in-Some.ensures.first
    (λ f. false≢true (sym c.if-passes_at.false ∙ c.passes_at.ensures.1 (subst (λ b. PassesAt g.T.BlockTest.test z (b + 4 * c.in-Some.found)) (sym base) f)))

pub returns-clause-none : goal.returns-clause-none
returns-clause-none g c =
    let z = c.args.zone.now in
    let are = c.requires.marked in
    let sizes = c.spec.ensures.possible in
    let read = c.spec.ensures.sizes in
    let base : c.base-base.result ≡ z.shape.base = c.base-base.ensures.value ∙ ap (λ (s : ZoneSizes). s.base) read in
    next-none g.T.BlockTest.test z c.args.marks.now are sizes c.args.from c.loop-found.place c.loop-found.invariant c.in_default.ensures.none
