use Rattle.std.proofs.Common.{ℕ, List, bytes_eq, sym, ap, ◌∙◌}
use Rattle.std.specs.List.{list_any}
use Rattle.fork_answer.proofs.Grouping.{seen_more, new_more}
use Rattle.fork_answer.proofs.group.kinds_of.Goals as goal
use Rattle.fork_answer.proofs.group.kinds_of.Goals.{then-not-is_one_of+in_ok-push, else-not-is_one_of}

pub loop-row-preserved : goal.loop-row-preserved
loop-row-preserved c =
    let seen = c.loop-row.kinds.items in
    let rows = c.args.rows.now in
    let row = c.row-item.result in
    let test = ap (λ (kinds : List (List ℕ)). list_any (λ one. bytes_eq one row.kind) kinds) (sym c.as_slice.ensures.value) ∙ sym c.is_one_of.ensures in
    elim c.if-not-is_one_of.branch [
      | then-not-is_one_of+in_ok-push w ↦ rw (w.kinds-is, w.in_ok-push.ensures.items)
          (new_more seen rows c.loop-row.row-index row _ c.loop-row-test.true c.row-item.is (test ∙ w.if-not-is_one_of.true) c.loop-row.invariant)
      | else-not-is_one_of w ↦ rw w.kinds-is
          (seen_more seen rows c.loop-row.row-index row _ c.loop-row-test.true c.row-item.is (test ∙ w.if-not-is_one_of.false) c.loop-row.invariant)
    ]
