use Rattle.std.proofs.Common.{ℕ, ◌<◌, ◌≤◌, ◌+◌, ◌*◌, ◌++◌, ◌∷◌, [], List, length, take, drop, subst, sym, ap, ◌∙◌, arith}
use Rattle.fork_bytes.specs.Fork.{max_rows}
use Rattle.res_table.specs.After.{end_of_type}
use Rattle.res_table.specs.Rows.{added}
use Rattle.res_table.specs.Saved.{bare, saved_row, row_types}
use Rattle.res_table.proofs.Adding.{end-within}
use Rattle.res_update.specs.Fitting.{names_fit}
use Rattle.res_files.proofs.Room.{bare_added, few_with, fit_parts, too_many, too_long}
use Rattle.res_files.proofs.fitting.fits_with.Goals.{then-len-ge-MAX_ROWS-via-then-len-ge-MAX_ROWS, then-len-ge-MAX_ROWS-via-else-len-ge-MAX_ROWS+then-names-gt-MAX_OFFSET}
use Rattle.res_files.proofs.fitting.fits_with.Goals as goal

pub overflow_mul-names : goal.overflow_mul-names
overflow_mul-names c = let few = c.types_with.ensures.few in let small = c.requires in omega arith

pub overflow_add-names : goal.overflow_add-names
overflow_add-names c = let few = c.types_with.ensures.few in let small = c.requires in omega arith

pub overflow_add-names-2 : goal.overflow_add-names-2
overflow_add-names-2 c = let few = c.types_with.ensures.few in let small = c.requires in let long = c.len.ensures in omega arith

pub returns-then-len-ge-MAX_ROWS : goal.returns-then-len-ge-MAX_ROWS
returns-then-len-ge-MAX_ROWS c = λ r mine named. elim c.then-len-ge-MAX_ROWS.branch [
  | then-len-ge-MAX_ROWS-via-then-len-ge-MAX_ROWS w ↦ too_many r c.args.rows.now (let many = w.if-len-ge-MAX_ROWS.true in let long = c.len-2.ensures in omega arith)
  | then-len-ge-MAX_ROWS-via-else-len-ge-MAX_ROWS+then-names-gt-MAX_OFFSET w ↦
      too_long r c.args.rows.now (let high = w.if-names-gt-MAX_OFFSET.true in let types = c.types_with.ensures.types r mine in let long = c.len.ensures in omega arith)
]

pub names_fit_with-requires : goal.names_fit_with-requires
names_fit_with-requires c = subst (λ (n : ℕ). n ≤ length c.args.rows.now) (sym c.end_of_type.ensures) (end-within c.args.kind c.args.rows.now)

pub returns-then-names_are_few : goal.returns-then-names_are_few
returns-then-names_are_few c = λ r mine named.
    let rows = c.args.rows.now in
    let few : length rows < max_rows = (let less = c.if-len-ge-MAX_ROWS.false in let long = c.len-2.ensures in omega arith) in
    let low : 42 + 8 * length (row_types (added r rows)) + 12 * length rows ≤ 65535 =
    (let high = c.if-names-gt-MAX_OFFSET.false in let types = c.types_with.ensures.types r mine in let long = c.len.ensures in omega arith) in
    sym (few_with r rows _ named (c.names_are_few.ensures.0 c.if-names_are_few.true)) ∙ fit_parts r rows few low

pub returns : goal.returns
returns c = λ r mine named.
    let rows = c.args.rows.now in
    let few : length rows < max_rows = (let less = c.if-len-ge-MAX_ROWS.false in let long = c.len-2.ensures in omega arith) in
    let low : 42 + 8 * length (row_types (added r rows)) + 12 * length rows ≤ 65535 =
    (let high = c.if-names-gt-MAX_OFFSET.false in let types = c.types_with.ensures.types r mine in let long = c.len.ensures in omega arith) in
    c.names_fit_with.ensures (saved_row (λ _. []) r) named
    ∙ ap (λ (at : ℕ). names_fit 0 (bare (take at rows) ++ saved_row (λ _. []) r ∷ bare (drop at rows))) (c.end_of_type.ensures ∙ ap (λ (kind : List ℕ). end_of_type kind rows) (sym mine))
    ∙ sym (ap (names_fit 0) (bare_added r rows)) ∙ fit_parts r rows few low
