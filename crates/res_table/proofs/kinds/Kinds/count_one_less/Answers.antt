use Rattle.std.proofs.Common.{ℕ, ◌+◌, ◌<◌, ◌≤◌, List, length, take, remove, ap, ◌∙◌, subst}
use Rattle.fork_bytes.specs.declared.layout.TypeCount.{TypeCount}
use Rattle.res_table.specs.Kinds.{KindRuns, expanded}
use Rattle.res_table.proofs.Expanded.{some_left, run_taken, run_shorter}
use Rattle.res_table.proofs.kinds.Kinds.count_one_less.Goals as goal

-- what is said of the runs
abbrev Told : ℕ → ℕ → List TypeCount → Type 0
Told i place runs = (i < length runs) × (length (expanded (take i runs)) ≤ place) × (place < length (expanded (take (i + 1) runs)))

pub overflow_sub-run : goal.overflow_sub-run
overflow_sub-run c =
    let t : Told c.run_with-index.result c.args.place c.self.inside.runs.items = subst (Told c.run_with-index.result c.args.place) c.deref.ensures.value (c.run_with-index.ensures.within, c.run_with-index.ensures.start, c.run_with-index.ensures.end) in
    some_left c.self.inside.runs.items c.run_with-index.result c.args.place c.index-run.result.now t.0 c.index-run.ensures t.1 t.2

pub returns-then-run-eq1 : goal.returns-then-run-eq1
returns-then-run-eq1 c =
    let t : Told c.run_with-index.result c.args.place c.self.inside.runs.items = subst (Told c.run_with-index.result c.args.place) c.deref.ensures.value (c.run_with-index.ensures.within, c.run_with-index.ensures.start, c.run_with-index.ensures.end) in
    ap (λ (rs : List TypeCount). expanded rs) c.remove-run.ensures.items
    ∙ run_taken c.self.inside.runs.items c.run_with-index.result c.args.place c.index-run.result.now t.0 c.index-run.ensures t.1 t.2 c.if-run-eq1.true
    ∙ ap (λ (k : KindRuns). remove (expanded k.runs) c.args.place) c.self.view_is

pub returns-else-run-eq1 : goal.returns-else-run-eq1
returns-else-run-eq1 c =
    let t : Told c.run_with-index.result c.args.place c.self.inside.runs.items = subst (Told c.run_with-index.result c.args.place) c.deref.ensures.value (c.run_with-index.ensures.within, c.run_with-index.ensures.start, c.run_with-index.ensures.end) in
    run_shorter c.self.inside.runs.items c.run_with-index.result c.args.place c.index-run.result.now t.0 c.index-run.ensures t.1 t.2
    ∙ ap (λ (k : KindRuns). remove (expanded k.runs) c.args.place) c.self.view_is
