use Rattle.std.proofs.Common.{◌<◌, ℕ, List, [], length, sym, ap, subst, arith}
use Rattle.fork_bytes.proofs.Steps.{some_name, no_name, fit_step, fit_not}
use Rattle.res_table.specs.Saved.{bare, saved_row}
use Rattle.res_table.proofs.Bare.{length-saved, never, saved_at}
use Rattle.res_table.proofs.runs.names_fit.Goals.{in-Some+else-next-gt-MAX_NAME_OFFSET, in_default}
use Rattle.res_table.proofs.runs.names_fit.Goals as goal

pub returns-then-next-gt-MAX_NAME_OFFSET : goal.returns-then-next-gt-MAX_NAME_OFFSET
returns-then-next-gt-MAX_NAME_OFFSET g c =
    let rows = c.args.rows.now in let i = c.loop-row.row-index in let row = c.row-item.result in
    let inside : i < length (bare rows) = subst (λ (n : ℕ). i < n) (sym (length-saved (λ _. []) rows)) c.loop-row-test.true in (
      λ t. never t,
      λ fit. absurd (fit_not (bare rows) i c.loop-row.next (saved_row (λ _. []) row) c.in-Some.name inside (saved_at (λ _. []) rows i row c.loop-row-test.true c.row-item.is)
          c.in-Some.is c.if-next-gt-MAX_NAME_OFFSET.true (c.loop-row.invariant.0.0 fit)),
    )

pub loop-row-preserved : goal.loop-row-preserved
loop-row-preserved g c =
    let rows = c.args.rows.now in let i = c.loop-row.row-index in let row = c.row-item.result in
    let inside : i < length (bare rows) = subst (λ (n : ℕ). i < n) (sym (length-saved (λ _. []) rows)) c.loop-row-test.true in
    let is = saved_at (λ _. []) rows i row c.loop-row-test.true c.row-item.is in
    let told = c.loop-row.invariant.0 in let few = c.loop-row.invariant.1 in
    elim c.match-row.branch [
      | in-Some+else-next-gt-MAX_NAME_OFFSET w ↦
          let low = w.if-next-gt-MAX_NAME_OFFSET.false in
          let named = some_name row.resource.name w.in-Some.name c.loop-row.next w.in-Some.is low in let name_length = named.1 in
          let long = ap (λ (xs : List ℕ). length xs) w.as_slice.ensures.bytes in let short = w.as_slice.ensures.short in let next = w.next-is in
          let fits = fit_step (bare rows) i c.loop-row.next c.match-row.next (saved_row (λ _. []) row) inside is named.0 (omega arith) in
          ((λ fit. fits.0 (told.0 fit), λ fit. told.1 (fits.1 fit)), omega arith)
      | in_default w ↦
          let named = no_name row.resource.name c.loop-row.next w.in_default.is in let name_length = named.1 in let next = w.next-is in
          let fits = fit_step (bare rows) i c.loop-row.next c.match-row.next (saved_row (λ _. []) row) inside is named.0 (omega arith) in
          ((λ fit. fits.0 (told.0 fit), λ fit. told.1 (fits.1 fit)), omega arith)
    ]
