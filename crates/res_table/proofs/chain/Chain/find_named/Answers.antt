use Rattle.std.proofs.Common.{sym, ◌∙◌, arith}
use Rattle.res_table.proofs.Files.{found_in, found_before}
use Rattle.res_table.proofs.chain.Chain.find_named.Goals as goal

pub returns-in-Some : goal.returns-in-Some
returns-in-Some g c =
    sym (found_in _ c.self.inside.files.items c.loop-end.end c.index-file.result.now c.in-Some.index c.loop-end-test.true c.loop-end.invariant.1 c.index-file.ensures (sym c.find_named.ensures ∙ c.in-Some.is))
    ∙ c.loop-end.invariant.0

pub loop-end-preserved : goal.loop-end-preserved
loop-end-preserved g c =
    let within = c.loop-end.invariant.1 in
    (found_before _ c.self.inside.files.items c.loop-end.end c.index-file.result.now c.loop-end-test.true within c.index-file.ensures (sym c.find_named.ensures ∙ c.in_default.is) ∙ c.loop-end.invariant.0, omega arith)
