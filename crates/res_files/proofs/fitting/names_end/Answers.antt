use Rattle.std.proofs.Common.{ℕ, ◌+◌, ◌-◌, ◌++◌, [], take, drop, sym, ap, ◌∙◌, arith, Option, false}
use Rattle.std.specs.Option.{option_map_or}
use Rattle.res_table.specs.Saved.{bare, saved_row}
use Rattle.res_update.specs.Fitting.{names_fit}
use Rattle.res_files.proofs.Room.{next_row}
use Rattle.res_files.proofs.fitting.names_end.Goals as goal

pub returns-in_err-next : goal.returns-in_err-next
returns-in_err-next c = λ rest.
    c.loop-at.invariant.1 rest
    ∙ ap (names_fit c.loop-at.next) (next_row c.args.rows.now c.loop-at.at c.args.to c.row.result.now rest c.row.ensures c.loop-at-test.true)
    ∙ c.after.ensures (saved_row (λ _. []) c.row.result.now) (bare (take (c.args.to - (c.loop-at.at + 1)) (drop (c.loop-at.at + 1) c.args.rows.now)) ++ rest) (sym c.name_of.ensures)
    ∙ ap (λ (found : Option ℕ). option_map_or (λ end. names_fit end (bare (take (c.args.to - (c.loop-at.at + 1)) (drop (c.loop-at.at + 1) c.args.rows.now)) ++ rest)) found false) c.in_err-next.was
    ∙ sym (ap (λ (found : Option ℕ). option_map_or (λ end. names_fit end rest) found false) c.from_residual.ensures)

pub loop-at-preserved : goal.loop-at-preserved
loop-at-preserved c = (
  let before = c.loop-at-test.true in omega arith,
  λ rest.
      c.loop-at.invariant.1 rest
      ∙ ap (names_fit c.loop-at.next) (next_row c.args.rows.now c.loop-at.at c.args.to c.row.result.now rest c.row.ensures c.loop-at-test.true)
      ∙ c.after.ensures (saved_row (λ _. []) c.row.result.now) (bare (take (c.args.to - (c.loop-at.at + 1)) (drop (c.loop-at.at + 1) c.args.rows.now)) ++ rest) (sym c.name_of.ensures)
      ∙ ap (λ (found : Option ℕ). option_map_or (λ end. names_fit end (bare (take (c.args.to - (c.loop-at.at + 1)) (drop (c.loop-at.at + 1) c.args.rows.now)) ++ rest)) found false) c.in_ok-next.was,
)
