use Rattle.std.proofs.Common.{◌+◌, drop, sym, ap, ◌∙◌, arith, not, ◌&&◌}
use Rattle.std.specs.Prelude.{nat_lt}
use Rattle.res_table.specs.Kinds.{is_run_of, expanded, kind_in, changes}
use Rattle.res_table.proofs.Expanded.{at_run}
use Rattle.res_table.proofs.RunTypes.{run_told, one_more, none_more}
use Rattle.res_table.proofs.kinds.Kinds.count_types.Goals.{then-begins_type, else-begins_type}
use Rattle.res_table.proofs.kinds.Kinds.count_types.Goals as goal

pub loop-run-preserved : goal.loop-run-preserved
loop-run-preserved c =
    let runs = c.deref-run-items.result.now in let i = c.loop-run.run-index in let run = c.run-item.result in
    let last = c.loop-run.last in let rest = expanded (drop (i + 1) runs) in
    let step = ap (changes (kind_in last)) (at_run runs i run c.loop-run-test.true c.run-item.is) ∙ run_told last run c.last_with_rows-last.result rest c.last_with_rows-last.ensures in
    let all = c.loop-run.invariant.0 in let few = c.loop-run.invariant.1 in
    elim c.if-begins_type.branch [
      | then-begins_type w ↦
          let one = one_more (not (is_run_of run.kind last) && nat_lt 0 run.count) (sym c.begins_type.ensures ∙ w.if-begins_type.true) in let more = w.count-is in (omega arith, omega arith)
      | else-begins_type w ↦
          let none = none_more (not (is_run_of run.kind last) && nat_lt 0 run.count) (sym c.begins_type.ensures ∙ w.if-begins_type.false) in let more = w.count-is in (omega arith, omega arith)
    ]
