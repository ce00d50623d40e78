use Rattle.std.proofs.Common.{sym, ◌∙◌}
use Rattle.std.proofs.lemmas.Bool.{false≢true}
use Rattle.zone_index.proofs.Shown.{none_there, passing-there, shown-there}
use Rattle.zone_index.proofs.search.passes_at.Goals as goal

pub returns-in-Some : goal.returns-in-Some
returns-in-Some g c =
    let is = sym c.in-Some.is ∙ c.entry.ensures in
    let flags = (shown-there c.args.zone.now c.args.at c.in-Some.block is).flags in
    passing-there g.T.BlockTest.test c.args.zone.now c.args.at c.in-Some.block c.passes.result c.spec-spec.ensures.possible is (c.passes.ensures c.args.zone.now.heap.table flags)

pub returns-in-None : goal.returns-in-None
returns-in-None g c =
    ((λ no. absurd (false≢true no)), (λ f. absurd (none_there g.T.BlockTest.test c.args.zone.now c.args.at (sym c.in-None.is ∙ c.entry.ensures) f)))
