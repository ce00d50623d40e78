use Rattle.std.proofs.Common.{◌+◌, ◌++◌, ◌∷◌, [], List, ℕ, Bool, drop, sym, ap, ◌∙◌}
use Rattle.fork_bytes.specs.Rows as forks
use Rattle.res_table.specs.Saved.{saved_row}
use Rattle.res_update.specs.Drafts.{row_bytes, draft_bytes, rows_with}
use Rattle.res_update.proofs.Selecting.{unlent_at, made_step}
use Rattle.res_update.proofs.draft.draft_rows.Goals as goal

pub row_bytes-bytes-requires : goal.row_bytes-bytes-requires
row_bytes-bytes-requires g c = λ selected. unlent_at (g.C.Contents.table c.args.handles.now) c.args.selection c.args.rows.now c.loop-index.index c.row-row.result.now
    c.row-row.ensures c.requires (sym c.takes.ensures ∙ selected)

pub loop-index-preserved : goal.loop-index-preserved
loop-index-preserved g c =
    let t = g.C.Contents.table c.args.handles.now in let f = draft_bytes t c.args.selection in
    let rows = c.args.rows.now in let i = c.loop-index.index in let r = c.row-row.result.now in
    let saved = c.in_ok-saved.ensures
    ∙ ap (λ (bytes : List ℕ). saved_row (λ _. bytes) r) (c.row_bytes-bytes.ensures ∙ ap (λ (b : Bool). row_bytes t b r) c.takes.ensures) in
    let items = c.in_ok-push.ensures.items ∙ ap (λ (x : forks.Row). c.loop-index.draft.items ++ x ∷ []) saved in
    ap (λ (xs : List forks.Row). xs ++ rows_with f (i + 1) (drop (i + 1) rows)) items
    ∙ made_step f rows i r c.loop-index.draft.items (rows_with f 0 rows) c.row-row.ensures c.loop-index.invariant
