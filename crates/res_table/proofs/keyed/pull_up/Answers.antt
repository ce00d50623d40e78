use Rattle.std.proofs.Common.{ap, ◌∙◌, arith, set, get_or}
use Rattle.std.proofs.lemmas.List.{get_or_default}
use Rattle.std.proofs.lemmas.List.Edits.{map_over_more}
use Rattle.res_table.specs.declared.keyed.Pair.{Pair}
use Rattle.res_table.specs.Keyed.{pulled_up}
use Rattle.res_table.proofs.keyed.pull_up.Goals as goal

pub loop-pair-preserved : goal.loop-pair-preserved
loop-pair-preserved c =
    let xs = c.args.pairs.now in let ys = c.loop-pair.pairs in let at = c.loop-pair.pair-index in let test = c.loop-pair-test.true in
    let long = c.loop-pair.auto.pairs in let p = get_or ys at (record { key = 0; place = 0 }) in
    ap (λ (p : Pair). set ys at p) c.pulled_up.ensures ∙ map_over_more (pulled_up c.args.at) xs ys at p (omega arith) c.loop-pair.invariant (get_or_default ys at (record { key = 0; place = 0 }) p (omega arith))
