use Rattle.std.proofs.Common.{ℕ, sym, ap, ◌∙◌, arith}
use Rattle.res_table.specs.Rows.{index_of_ith}
use Rattle.res_table.proofs.Adding.{end-within}
use Rattle.res_files.proofs.Room.{end_after, end_last}
use Rattle.res_files.proofs.fitting.end_of_type.Goals as goal

pub returns-in-Some : goal.returns-in-Some
returns-in-Some c =
    end_after c.args.kind c.args.rows.now c.in-Some.last (sym (c.index_of_ith.ensures ∙ ap (λ (n : ℕ). index_of_ith c.args.kind n c.args.rows.now) c.count_of_type.ensures) ∙ c.in-Some.is)

pub overflow_add-result : goal.overflow_add-result
overflow_add-result c =
    let same = end_after c.args.kind c.args.rows.now c.in-Some.last (sym (c.index_of_ith.ensures ∙ ap (λ (n : ℕ). index_of_ith c.args.kind n c.args.rows.now) c.count_of_type.ensures) ∙ c.in-Some.is) in
    let within = end-within c.args.kind c.args.rows.now in let long = c.len-end.ensures in let fits = c.len-end.type_inv in omega arith

pub returns-in-None : goal.returns-in-None
returns-in-None c =
    c.len-end.ensures ∙ end_last c.args.kind c.args.rows.now (sym (c.index_of_ith.ensures ∙ ap (λ (n : ℕ). index_of_ith c.args.kind n c.args.rows.now) c.count_of_type.ensures) ∙ c.in-None.is)
