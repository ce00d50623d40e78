use Rattle.std.proofs.Common.{rules, ◌+◌, ◌-◌, ◌<◌, List, [], ◌∷◌, ◌++◌, length, sym, ap, ◌∙◌, arith}
use Rattle.fork_bytes.specs.declared.layout.TypeCount.{TypeCount}
use Rattle.res_table.specs.Kinds.{KindRuns, expanded}
use Rattle.res_table.proofs.Expanded.{run_pushed, run_few, runs_more}
use Rattle.res_table.proofs.kinds.Kinds.push.Goals as goal

pub overflow_add-last : goal.overflow_add-last
overflow_add-last c =
    let runs = c.self.inside.runs.items in let ok = c.self.inside.runs.ok.0 in let n = c.len-count.ensures in let some = c.if-count-gt0.true in
    let few = run_few runs (c.len-count.result - 1) c.index-last.result.now (omega arith) c.index-last.ensures in let small = c.requires in let same = ap (λ (k : KindRuns). length (expanded k.runs)) c.self.view_is in
    let fits : c.index-last.result.now.count + 1 < 18446744073709551616 = omega arith in search (rules, fits)

pub returns-then-is_same_kind : goal.returns-then-is_same_kind
returns-then-is_same_kind c =
    let runs = c.self.inside.runs.items in let ok = c.self.inside.runs.ok.0 in let n = c.len-count.ensures in let some = c.if-count-gt0.true in
    run_pushed c.args.kind runs (c.len-count.result - 1) c.index-last.result.now (omega arith) c.index-last.ensures (sym c.is_same_kind.ensures ∙ c.if-is_same_kind.true)
    ∙ ap (λ (k : KindRuns). expanded k.runs ++ c.args.kind ∷ []) c.self.view_is

pub returns : goal.returns
returns c = ap (λ (rs : List TypeCount). expanded rs) c.in_ok-push.ensures.items ∙ runs_more c.self.inside.runs.items (record { kind = c.args.kind; count = 1 })
    ∙ ap (λ (k : KindRuns). expanded k.runs ++ c.args.kind ∷ []) c.self.view_is
