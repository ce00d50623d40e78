use Rattle.std.proofs.Common.{◌≡◌, ◌+◌, ◌-◌, ◌≤◌, List, ℕ, refl, sym, ap, ◌∙◌, arith, drop, length, get_or, subst}
use Rattle.res_table.specs.declared.chain.OpenFile.{OpenFile}
use Rattle.res_table.specs.Rows.{ith}
use Rattle.res_table.specs.AllFiles.{all_types, new_types}
use Rattle.res_table.proofs.FreeKeys.{part_is}
use Rattle.res_table.proofs.AllFiles.{type_found, no_type_left}
use Rattle.res_table.proofs.all_files.type_of_ith.Goals as goal

pub returns-then-left-count : goal.returns-then-left-count
returns-then-left-count g c =
    let files = c.args.files.now in let end = c.loop-end.end in let file = c.index-files-end.result in let rows = (get_or files (end - 1) file).table.rows in let left = c.loop-end.left in
    let part = part_is end files files refl in
    c.ith_new_type.ensures ∙ ap (λ (later : List (OpenFile _)). ith left (new_types rows later)) part
    ∙ type_found files c.args.i left end file c.loop-end-test.true c.loop-end.invariant.within c.loop-end.invariant.seen c.loop-end.invariant.none
    (subst (λ (n : ℕ). left ≤ n) (c.count_new_types-count.ensures ∙ ap (λ (later : List (OpenFile _)). length (new_types rows later)) part) c.if-left-count.true)

pub returns : goal.returns
returns g c =
    let e : c.loop-end.end ≡ 0 = omega arith in
    sym (no_type_left c.args.i c.loop-end.left (all_types c.args.files.now)
    (ap (λ (n : ℕ). c.loop-end.left + length (all_types (drop n c.args.files.now))) (sym e) ∙ c.loop-end.invariant.seen) c.loop-end.invariant.none)
