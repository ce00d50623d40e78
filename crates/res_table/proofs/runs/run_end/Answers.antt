use Rattle.std.proofs.Common.{◌≡◌, ◌+◌, ◌-◌, sym, ◌∙◌, arith}
use Rattle.res_table.proofs.Bare.{run_first, run_on, run_other, run_over, run_is}
use Rattle.res_table.proofs.runs.run_end.Goals as goal

pub loop-end-init : goal.loop-end-init
loop-end-init g c =
    let within = c.requires in let one : c.args.start + 1 - c.args.start ≡ 1 = omega arith in
    (omega arith, omega arith, rw one (run_first c.args.rows.now c.args.start c.index-rows-start.result _ within c.index-rows-start.is c.kind-kind.ensures))

pub loop-end-preserved : goal.loop-end-preserved
loop-end-preserved g c =
    let within = c.loop-end-test.true in
    let before = c.loop-end.invariant.0 in
    let more : c.loop-end.end + 1 - c.args.start ≡ c.loop-end.end - c.args.start + 1 = omega arith in
    (omega arith, omega arith, rw more (c.loop-end.invariant.2 ∙ run_on c.args.rows.now _ c.loop-end.end c.index-rows-end.result _ within c.index-rows-end.is (sym c.is_of_type.ensures ∙ c.if-is_of_type.true)))

pub returns-else-is_of_type-clause-run : goal.returns-else-is_of_type-clause-run
returns-else-is_of_type-clause-run g c =
    run_is c.args.rows.now c.args.start c.loop-end.end c.index-rows-start.result _ c.requires c.index-rows-start.is c.kind-kind.ensures
    (c.loop-end.invariant.2 ∙ run_other c.args.rows.now _ c.loop-end.end c.index-rows-end.result _ c.loop-end-test.true c.index-rows-end.is (sym c.is_of_type.ensures ∙ c.if-is_of_type.false))

pub returns-after-loop-end-clause-run : goal.returns-after-loop-end-clause-run
returns-after-loop-end-clause-run g c =
    run_is c.args.rows.now c.args.start c.loop-end.end c.index-rows-start.result _ c.requires c.index-rows-start.is c.kind-kind.ensures
    (c.loop-end.invariant.2 ∙ run_over c.args.rows.now _ c.loop-end.end _ (omega (arith, c.loop-end-test.false)))
