use Rattle.std.proofs.Common.{◌≡◌, ◌∙◌, ◌+◌, ◌∷◌, [], List, sym, ap, subst, drop, arith}
use Rattle.std.proofs.lemmas.List.{drop_all, drop_more}
use Rattle.fork_bytes.specs.Rows.{Row}
use Rattle.fork_texts.proofs.Rows.{IsAt, ended, next, no_row}
use Rattle.fork_texts.proofs.table.put_lines.Goals as goal

pub returns-in-Err-clause-none : goal.returns-in-Err-clause-none
returns-in-Err-clause-none c =
    let rows = c.args.rows.now in
    let i = c.loop-row.row-index in
    let row = c.row-item.result in
    let split : drop i rows ≡ row ∷ drop (i + 1) rows = drop_more rows i row c.loop-row-test.true ∙ ap (λ (r : Row). r ∷ drop (i + 1) rows) (sym c.row-item.is) in
    let A : List Row → Type 0 = λ rest. IsAt c.args.types.now rows c.args.lines.now rest c.loop-row.left.now c.loop-row.changed.items in
    no_row c.args.types.now rows c.args.lines.now row (drop (i + 1) rows) c.loop-row.left.now c.loop-row.changed.items (subst A split c.loop-row.invariant) c.in-Err.error c.in-Err.ensures.none

pub loop-row-preserved : goal.loop-row-preserved
loop-row-preserved c =
    let rows = c.args.rows.now in
    let i = c.loop-row.row-index in
    let row = c.row-item.result in
    let split : drop i rows ≡ row ∷ drop (i + 1) rows = drop_more rows i row c.loop-row-test.true ∙ ap (λ (r : Row). r ∷ drop (i + 1) rows) (sym c.row-item.is) in
    let A : List Row → Type 0 = λ rest. IsAt c.args.types.now rows c.args.lines.now rest c.loop-row.left.now c.loop-row.changed.items in
    next c.args.types.now rows c.args.lines.now row (drop (i + 1) rows) c.loop-row.left.now c.loop-row.changed.items (subst A split c.loop-row.invariant)
    c.in-Ok.put.0 c.in-Ok.put.1.now c.push_new.new.changed.items c.in-Ok.ensures.row c.in-Ok.ensures.left c.in_ok-push_new.ensures

pub returns-in-None-clause-puts : goal.returns-in-None-clause-puts
returns-in-None-clause-puts c =
    let rows = c.args.rows.now in
    let i = c.loop-row.row-index in
    let A : List Row → Type 0 = λ rest. IsAt c.args.types.now rows c.args.lines.now rest c.loop-row.left.now c.loop-row.changed.items in
    ended c.args.types.now rows c.args.lines.now c.loop-row.left.now c.loop-row.changed.items (subst A (drop_all i rows (omega arith)) c.loop-row.invariant) c.in-None.ensures.none
