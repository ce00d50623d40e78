use Rattle.std.proofs.Common.{rules, ◌≡◌, ◌≤◌, ◌<◌, ℕ, ◌-◌, Some, List, sym, ap, ◌∙◌, subst, map, drop, length, slice_get, IfSome, ◌∷◌}
use Rattle.fork_bytes.specs.Written.{types_of}
use Rattle.res_table.specs.declared.row.Row.{Row}
use Rattle.res_table.specs.Rows.{ith}
use Rattle.res_table.specs.Saved.{bare, kind_of}
use Rattle.res_table.proofs.Bare.{type_here, type_after}
use Rattle.res_table.proofs.rows.Rows.type_of_ith_run.Goals as goal

pub returns-then-left-eq1 : goal.returns-then-left-eq1
returns-then-left-eq1 g c =
    let rows = c.self.inside.rows.items in let at = c.loop-at.at in
    let long = c.len.ensures in let test = c.loop-at-test.true in
    let within : at < length rows = search (rules, c.self.inside.rows.ok) in
    ap Some c.kind.ensures ∙ sym (type_here rows at c.index.result.now within c.index.ensures)
    ∙ ap (λ (n : ℕ). ith n (map kind_of (types_of (drop at (bare rows))))) (sym c.if-left-eq1.true) ∙ c.loop-at.invariant.0
    ∙ ap (λ (rs : List (Row _)). ith c.args.i (map kind_of (types_of (bare rs)))) c.self.view_is

pub loop-at-preserved : goal.loop-at-preserved
loop-at-preserved g c =
    let rows = c.self.inside.rows.items in let at = c.loop-at.at in let left = c.loop-at.left in
    let long = c.len.ensures in let test = c.loop-at-test.true in
    let within : at < length rows = search (rules, c.self.inside.rows.ok) in
    let next = c.run_end-at.result in
    let P : List (Row _) → Type 0 = λ rs. IfSome (slice_get (bare rs) at) (λ row. types_of (drop at (bare rs)) ≡ record { kind = row.kind; count = next - at } ∷ types_of (drop next (bare rs))) in
    let run = subst P c.deref.ensures.value c.run_end-at.ensures.run in (
      ap (λ (n : ℕ). ith n (map kind_of (types_of (drop next (bare rows))))) c.saturating_sub-left.ensures
          ∙ type_after rows at next left within c.if-left-eq1.false run ∙ c.loop-at.invariant.0,
      subst (λ (rs : List (Row _)). next ≤ length rs) c.deref.ensures.value c.run_end-at.ensures.within,
    )
