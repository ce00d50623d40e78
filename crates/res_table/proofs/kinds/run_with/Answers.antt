use Rattle.std.proofs.Common.{arith, ap}
use Rattle.fork_bytes.specs.declared.layout.TypeCount.{TypeCount}
use Rattle.res_table.proofs.Expanded.{long_take, run_inside}
use Rattle.res_table.proofs.kinds.run_with.Goals as goal

pub loop-index-preserved : goal.loop-index-preserved
loop-index-preserved c =
    let all = c.loop-index.invariant in let least = c.loop-index-test.true in
    let within = run_inside c.args.runs.now c.loop-index.index c.loop-index.left c.args.place all c.requires in
    let tested = long_take c.args.runs.now c.loop-index.index c.index-runs-index.result within c.index-runs-index.is in
    let long = long_take c.args.runs.now c.loop-index.index c.index-runs-index-in-loop-index.result within c.index-runs-index-in-loop-index.is in
    let here = ap (λ (r : TypeCount). r.count) c.index-runs-index.is in
    let same = ap (λ (r : TypeCount). r.count) c.index-runs-index-in-loop-index.is in omega arith

pub returns-clause-end : goal.returns-clause-end
returns-clause-end c =
    let all = c.loop-index.invariant in let less = c.loop-index-test.false in
    let within = run_inside c.args.runs.now c.loop-index.index c.loop-index.left c.args.place all c.requires in
    let here = ap (λ (r : TypeCount). r.count) c.index-runs-index.is in
    let long = long_take c.args.runs.now c.loop-index.index c.index-runs-index.result within c.index-runs-index.is in omega arith
