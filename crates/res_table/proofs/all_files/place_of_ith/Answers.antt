use Rattle.std.proofs.Common.{sym, ◌∙◌, arith, subst, ◌≤◌, ℕ}
use Rattle.res_table.proofs.AllFiles.{found_last, found_before}
use Rattle.res_table.proofs.all_files.place_of_ith.Goals as goal

pub returns-in_err-index : goal.returns-in_err-index
returns-in_err-index g c =
    c.from_residual.ensures
    ∙ sym (found_last c.args.kind c.loop-end.left c.args.files.now c.loop-end.end c.index-files-end.result _ c.loop-end-test.true c.loop-end.invariant.1 c.index-files-end.is
    (subst (λ (n : ℕ). c.loop-end.left ≤ n) c.count_of_type-count.ensures c.if-left-count.true) (sym c.index_of_ith.ensures ∙ c.in_err-index.was))
    ∙ c.loop-end.invariant.0

pub returns-then-left-count : goal.returns-then-left-count
returns-then-left-count g c =
    sym (found_last c.args.kind c.loop-end.left c.args.files.now c.loop-end.end c.index-files-end.result _ c.loop-end-test.true c.loop-end.invariant.1 c.index-files-end.is
    (subst (λ (n : ℕ). c.loop-end.left ≤ n) c.count_of_type-count.ensures c.if-left-count.true) (sym c.index_of_ith.ensures ∙ c.in_ok-index.was))
    ∙ c.loop-end.invariant.0

pub loop-end-preserved : goal.loop-end-preserved
loop-end-preserved g c =
    let within = c.loop-end.invariant.1 in (
      found_before c.args.kind c.loop-end.left c.count_of_type-count.result c.args.files.now c.loop-end.end c.index-files-end.result c.loop-end-test.true within c.index-files-end.is c.count_of_type-count.ensures c.if-left-count.false
          ∙ c.loop-end.invariant.0,
      omega arith,
    )
