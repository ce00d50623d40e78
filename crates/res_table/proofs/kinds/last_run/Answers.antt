use Rattle.std.proofs.Common.{◌≡◌, ◌+◌, ◌-◌, ◌<◌, ℕ, length, drop, sym, ap, ◌∙◌, arith}
use Rattle.res_table.specs.Kinds.{expanded, has_kind}
use Rattle.res_table.proofs.Expanded.{at_run, none_not}
use Rattle.res_table.proofs.kinds.last_run.Goals as goal

pub loop-index-preserved : goal.loop-index-preserved
loop-index-preserved c =
    let runs = c.args.runs.now in let kind = c.args.kind in let i = c.loop-index.index in let run = c.index-runs-index.result in
    let some = c.loop-index-test.true in let most = c.loop-index.invariant.0 in
    let within : i - 1 < length runs = omega arith in
    let next : i - 1 + 1 ≡ i = omega arith in (
      omega arith,
      ap (has_kind kind) (at_run runs (i - 1) run within c.index-runs-index.is)
          ∙ none_not kind run (expanded (drop (i - 1 + 1) runs)) (sym c.is_run_of.ensures ∙ c.if-is_run_of.false) (ap (λ (n : ℕ). has_kind kind (expanded (drop n runs))) next ∙ c.loop-index.invariant.1),
    )
