use Rattle.std.proofs.Common.{◌≡◌, ℕ, ◌-◌, ◌++◌, ◌∷◌, take, drop, sym, ap, ◌∙◌, arith, Option, false}
use Rattle.std.specs.Option.{option_map_or}
use Rattle.res_table.specs.Saved.{bare}
use Rattle.res_update.specs.Fitting.{names_fit}
use Rattle.res_files.proofs.Room.{names_told}
use Rattle.res_files.proofs.fitting.names_fit_with.Goals as goal

pub returns : goal.returns
returns c = λ row named.
    let others = bare (drop c.args.at c.args.rows.now) in
    c.is_some.ensures ∙ names_told c.args.rows.now c.args.at c.len.result c.in-Some-after.next c.names_end-2.result c.len.ensures c.names_end-2.ensures
    ∙ sym (ap (λ (found : Option ℕ). option_map_or (λ end. names_fit end others) found false) c.in-Some-after.is)
    ∙ sym (c.after.ensures row others named)
    ∙ sym (ap (λ (found : Option ℕ). option_map_or (λ end. names_fit end (row ∷ others)) found false) c.in-Some.is)
    ∙ sym (c.names_end.ensures (row ∷ others))
    ∙ ap (λ (n : ℕ). names_fit 0 (bare (take n c.args.rows.now) ++ row ∷ others)) (let e : c.args.at - 0 ≡ c.args.at = omega arith in e)
