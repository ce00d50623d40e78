use Rattle.std.proofs.Common.{◌+◌, length, drop, slice_get, sym, ap, ◌∙◌, arith, ℕ, List}
use Rattle.fork_bytes.specs.declared.layout.TypeCount.{TypeCount}
use Rattle.res_table.specs.Kinds.{KindRuns, expanded, places_of, ith}
use Rattle.res_table.proofs.Expanded.{at_run, long_step, place_some, place_past, place_not}
use Rattle.res_table.proofs.kinds.Kinds.ith.Goals.{then-is_run_of+else-left-run, else-is_run_of}
use Rattle.res_table.proofs.kinds.Kinds.ith.Goals as goal

pub returns-then-left-run : goal.returns-then-left-run
returns-then-left-run c =
    let runs = c.deref-run-items.result.now in let kind = c.args.kind in let i = c.loop-run.run-index in let run = c.run-item.result in
    let at = c.loop-run.at in let left = c.loop-run.left in let rest = expanded (drop (i + 1) runs) in
    sym (place_some kind run at left rest (sym c.is_run_of.ensures ∙ c.if-is_run_of.true) c.if-left-run.true)
    ∙ sym (ap (λ (ks : List (List ℕ)). slice_get (places_of at kind ks) left) (at_run runs i run c.loop-run-test.true c.run-item.is)) ∙ c.loop-run.invariant.0
    ∙ ap (λ (rs : List TypeCount). ith c.args.i (places_of 0 kind (expanded rs))) (c.deref-run-items.ensures.value ∙ ap (λ (k : KindRuns). k.runs) c.self.view_is)

pub loop-run-preserved : goal.loop-run-preserved
loop-run-preserved c =
    let runs = c.deref-run-items.result.now in let kind = c.args.kind in let i = c.loop-run.run-index in let run = c.run-item.result in
    let at = c.loop-run.at in let left = c.loop-run.left in let rest = expanded (drop (i + 1) runs) in
    let split = at_run runs i run c.loop-run-test.true c.run-item.is in
    let step = long_step runs i run c.loop-run-test.true c.run-item.is in let all = c.loop-run.invariant.1 in (
      elim c.if-is_run_of.branch [
        | then-is_run_of+else-left-run w ↦
            ap (λ (n : ℕ). slice_get (places_of (at + run.count) kind rest) n) w.left-is
            ∙ sym (place_past kind run at left rest (sym c.is_run_of.ensures ∙ w.if-is_run_of.true) w.if-left-run.false)
            ∙ sym (ap (λ (ks : List (List ℕ)). slice_get (places_of at kind ks) left) split) ∙ c.loop-run.invariant.0
        | else-is_run_of w ↦
            ap (λ (n : ℕ). slice_get (places_of (at + run.count) kind rest) n) w.left-is
            ∙ sym (ap (λ (ks : List ℕ). slice_get ks left) (place_not kind run at rest (sym c.is_run_of.ensures ∙ w.if-is_run_of.false)))
            ∙ sym (ap (λ (ks : List (List ℕ)). slice_get (places_of at kind ks) left) split) ∙ c.loop-run.invariant.0
      ],
      omega arith,
    )

pub overflow_add-result : goal.overflow_add-result
overflow_add-result c =
    let runs = c.deref-run-items.result.now in
    let step = long_step runs c.loop-run.run-index c.run-item.result c.loop-run-test.true c.run-item.is in
    let all = c.loop-run.invariant.1 in let less = c.if-left-run.true in
    let same = ap (λ (rs : List TypeCount). length (expanded rs)) (c.deref-run-items.ensures.value ∙ ap (λ (k : KindRuns). k.runs) c.self.view_is) in let few = c.requires in
    omega (arith, step, all, less, same, few)

pub overflow_add-at : goal.overflow_add-at
overflow_add-at c =
    let runs = c.deref-run-items.result.now in
    let step = long_step runs c.loop-run.run-index c.run-item.result c.loop-run-test.true c.run-item.is in
    let all = c.loop-run.invariant.1 in
    let same = ap (λ (rs : List TypeCount). length (expanded rs)) (c.deref-run-items.ensures.value ∙ ap (λ (k : KindRuns). k.runs) c.self.view_is) in let few = c.requires in
    omega (arith, step, all, same, few)
