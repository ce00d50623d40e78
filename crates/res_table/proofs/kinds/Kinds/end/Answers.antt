use Rattle.std.proofs.Common.{◌+◌, drop, sym, ap, ◌∙◌, arith, ℕ}
use Rattle.res_table.specs.Kinds.{expanded, end_of}
use Rattle.res_table.proofs.Expanded.{at_run, long_step, end_some, end_not}
use Rattle.res_table.proofs.kinds.Kinds.end.Goals.{then-is_run_of, else-is_run_of}
use Rattle.res_table.proofs.kinds.Kinds.end.Goals as goal

pub loop-run-preserved : goal.loop-run-preserved
loop-run-preserved c =
    let runs = c.deref-run-items.result.now in let kind = c.args.kind in let i = c.loop-run.run-index in let run = c.run-item.result in
    let end = c.loop-run.end in let at = c.loop-run.at in let rest = expanded (drop (i + 1) runs) in
    let split = at_run runs i run c.loop-run-test.true c.run-item.is in
    let step = long_step runs i run c.loop-run-test.true c.run-item.is in let all = c.loop-run.invariant.1 in (
      elim c.if-is_run_of.branch [
        | then-is_run_of w ↦
            ap (λ (n : ℕ). end_of kind n (at + run.count) rest) w.end-is
            ∙ sym (end_some kind run end at rest (sym c.is_run_of.ensures ∙ w.if-is_run_of.true)) ∙ sym (ap (end_of kind end at) split) ∙ c.loop-run.invariant.0
        | else-is_run_of w ↦
            ap (λ (n : ℕ). end_of kind n (at + run.count) rest) w.end-is
            ∙ sym (end_not kind run end at rest (sym c.is_run_of.ensures ∙ w.if-is_run_of.false)) ∙ sym (ap (end_of kind end at) split) ∙ c.loop-run.invariant.0
      ],
      omega arith,
    )
