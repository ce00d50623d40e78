use Rattle.std.proofs.Common.{◌+◌, ◌<◌, length, ap, ◌∙◌, arith, List, rules}
use Rattle.fork_bytes.specs.declared.layout.TypeCount.{TypeCount}
use Rattle.res_table.specs.Kinds.{KindRuns, expanded}
use Rattle.res_table.proofs.Expanded.{count_step, count_few}
use Rattle.res_table.proofs.kinds.Kinds.count.Goals as goal

pub overflow_add-count : goal.overflow_add-count
overflow_add-count c =
    let runs = c.deref-run-items.result.now in let kind = c.args.kind in let i = c.loop-run.run-index in let run = c.run-item.result in
    let step = count_step kind runs i run c.loop-run-test.true c.run-item.is in let more = c.counted-count.ensures in let all = c.loop-run.invariant in
    let few = count_few kind (expanded runs) in let same = ap (λ (rs : List TypeCount). length (expanded rs)) (c.deref-run-items.ensures.value ∙ ap (λ (k : KindRuns). k.runs) c.self.view_is) in let small = c.requires in
    let fits : c.loop-run.count + c.counted-count.result < 18446744073709551616 = omega arith in search (rules, fits)

pub loop-run-preserved : goal.loop-run-preserved
loop-run-preserved c =
    let runs = c.deref-run-items.result.now in let kind = c.args.kind in let i = c.loop-run.run-index in let run = c.run-item.result in
    let step = count_step kind runs i run c.loop-run-test.true c.run-item.is in let more = c.counted-count.ensures in let all = c.loop-run.invariant in
    omega arith
