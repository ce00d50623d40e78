use Rattle.std.proofs.Common.{sym, ap, ◌∙◌, arith, w16}
use Rattle.std.proofs.lemmas.Int.{to_z-of_z}
use Rattle.res_table.specs.OpenFiles.{place_of_resource}
use Rattle.res_table.proofs.Files.{found_in, found_before}
use Rattle.res_table.proofs.chain.Chain.find.Goals as goal

pub returns-in-Some : goal.returns-in-Some
returns-in-Some g c =
    let id = to_z-of_z w16 c.args.id c.ranges.id in
    sym (found_in _ c.self.inside.files.items c.loop-end.end c.index-file.result.now c.in-Some.index c.loop-end-test.true c.loop-end.invariant.1 c.index-file.ensures (sym c.find.ensures ∙ c.in-Some.is))
    ∙ c.loop-end.invariant.0 ∙ ap (λ z. place_of_resource c.args.kind z c.args.self.now) id

pub loop-end-preserved : goal.loop-end-preserved
loop-end-preserved g c =
    let within = c.loop-end.invariant.1 in
    (found_before _ c.self.inside.files.items c.loop-end.end c.index-file.result.now c.loop-end-test.true within c.index-file.ensures (sym c.find.ensures ∙ c.in_default.is) ∙ c.loop-end.invariant.0, omega arith)
