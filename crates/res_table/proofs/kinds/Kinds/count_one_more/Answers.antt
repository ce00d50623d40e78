use Rattle.std.proofs.Common.{rules, ◌≡◌, ◌+◌, ◌<◌, List, length, sym, ap, ◌∙◌, arith, true, subst, get_or, drop, false, [], ℕ}
use Rattle.std.specs.Prelude.{is_ok, vec_len, vec_capacity}
use Rattle.fork_bytes.specs.declared.layout.TypeCount.{TypeCount}
use Rattle.res_table.specs.Kinds.{KindRuns, is_run_of, has_kind, expanded, with_kind}
use Rattle.res_table.proofs.Expanded.{run_added, run_few, runs_more, kind_last}
use Rattle.res_table.proofs.kinds.Kinds.count_one_more.Goals as goal

-- what is said of the runs
abbrev Told : List ℕ → ℕ → List TypeCount → Type 0
Told kind i runs = (i < length runs) × (is_run_of kind (get_or runs i (record { kind = []; count = 0 })) ≡ true) × (has_kind kind (expanded (drop (i + 1) runs)) ≡ false)

pub overflow_add-run : goal.overflow_add-run
overflow_add-run c =
    let told : Told c.args.kind c.in-Some.index c.self.inside.runs.items = subst (Told c.args.kind c.in-Some.index) c.deref.ensures.value c.in-Some.ensures.some in
    let few = run_few c.self.inside.runs.items c.in-Some.index c.index-run.result.now told.0 c.index-run.ensures in let small = c.requires.small in let same = ap (λ (k : KindRuns). length (expanded k.runs)) c.self.view_is in
    let fits : c.index-run.result.now.count + 1 < 18446744073709551616 = omega arith in search (rules, fits)

pub returns-in-Some : goal.returns-in-Some
returns-in-Some c =
    let told : Told c.args.kind c.in-Some.index c.self.inside.runs.items = subst (Told c.args.kind c.in-Some.index) c.deref.ensures.value c.in-Some.ensures.some in
    run_added c.args.kind c.self.inside.runs.items c.in-Some.index c.index-run.result.now (record { kind = []; count = 0 }) told.0 c.index-run.ensures told.1 told.2
    ∙ ap (λ (k : KindRuns). with_kind c.args.kind (expanded k.runs)) c.self.view_is

pub returns-in-None : goal.returns-in-None
returns-in-None c =
    let runs = c.self.inside.runs in
    let none = subst (λ (rs : List TypeCount). has_kind c.args.kind (expanded rs) ≡ false) c.deref.ensures.value c.in-None.ensures.none in
    let long = ap (λ (k : KindRuns). length k.runs) c.self.view_is in let all = ap (λ (k : KindRuns). k.room) c.self.view_is in
    let ok = runs.ok.0 in let few = c.requires.room in
    let room : vec_len runs < vec_capacity runs = omega arith in
    let done : is_ok c.push.result ≡ true = search (rules, c.push.ensures.succeeds room) in
    ap (λ (rs : List TypeCount). expanded rs) (rw done at c.push.ensures.items) ∙ runs_more runs.items (record { kind = c.args.kind; count = 1 }) ∙ sym (kind_last c.args.kind (expanded runs.items) none)
    ∙ ap (λ (k : KindRuns). with_kind c.args.kind (expanded k.runs)) c.self.view_is
