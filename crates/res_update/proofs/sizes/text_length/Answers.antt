use Rattle.std.proofs.Common.{◌≡◌, ℕ, List, Option, Some, length, map, slice_get, sym, ap, ◌∙◌, arith}
use Rattle.std.proofs.lemmas.List.{at_drop_all, length-map}
use Rattle.std.proofs.lemmas.Option.{slice_get-get_or}
use Rattle.fork_bytes.specs.Written.{data_text}
use Rattle.fork_bytes.specs.declared.place.Place.{Place}
use Rattle.res_table.specs.declared.row.Row.{Row}
use Rattle.res_table.specs.Rows.{changed_handle}
use Rattle.res_update.specs.Drafts.{rows_with, draft_bytes}
use Rattle.res_update.proofs.Measuring.{data_told}
use Rattle.res_update.proofs.Counting.{names_counted}
use Rattle.res_update.proofs.sizes.text_length.Goals as goal

-- there is a handle, or none, for each row
as_many : (rows : List (Row Place)) (handles : List (Option ℕ)) → handles ≡ map changed_handle rows → length handles ≡ length rows
as_many rows handles all = ap (λ (hs : List (Option ℕ)). length hs) all ∙ length-map rows changed_handle

pub returns-then-total-gt-MAX_FORK-clause-none : goal.returns-then-total-gt-MAX_FORK-clause-none
returns-then-total-gt-MAX_FORK-clause-none g c =
    let names = names_counted (draft_bytes (g.C.Contents.table c.args.contents.now) c.args.selection) 0 c.args.rows.now in omega arith

pub returns-then-total-gt-MAX_FORK-2-clause-none : goal.returns-then-total-gt-MAX_FORK-2-clause-none
returns-then-total-gt-MAX_FORK-2-clause-none g c =
    let f = draft_bytes (g.C.Contents.table c.args.contents.now) c.args.selection in
    let rows = c.args.rows.now in
    let names = names_counted f 0 rows in
    let many = as_many rows c.changed_handles-changed-items.result.now c.changed_handles-changed-items.ensures.handles in
    let rest = at_drop_all (λ (left : List (Row Place)). length (data_text (rows_with f c.loop-index.index left))) rows c.loop-index.index (omega arith) in omega arith

pub length_at-bytes-requires : goal.length_at-bytes-requires
length_at-bytes-requires g c =
    let handles = c.changed_handles-changed-items.result.now in let i = c.loop-index.index in
    ap (λ (hs : List (Option ℕ)). slice_get hs i) (sym c.changed_handles-changed-items.ensures.handles)
    ∙ slice_get-get_or handles i c.changed-item.result c.loop-index-test.true ∙ ap Some (sym c.changed-item.is)

pub loop-index-preserved : goal.loop-index-preserved
loop-index-preserved g c =
    let f = draft_bytes (g.C.Contents.table c.args.contents.now) c.args.selection in
    let rows = c.args.rows.now in let i = c.loop-index.index in
    let many = as_many rows c.changed_handles-changed-items.result.now c.changed_handles-changed-items.ensures.handles in
    let here = data_told f rows i c.length_at-bytes.result (omega arith) c.length_at-bytes.ensures in
    let all = c.loop-index.invariant.0 in
    (omega arith, omega arith)

pub returns-else-total-gt-MAX_FORK-2-clause-some : goal.returns-else-total-gt-MAX_FORK-2-clause-some
returns-else-total-gt-MAX_FORK-2-clause-some g c =
    let f = draft_bytes (g.C.Contents.table c.args.contents.now) c.args.selection in
    let rows = c.args.rows.now in
    let names = names_counted f 0 rows in
    let many = as_many rows c.changed_handles-changed-items.result.now c.changed_handles-changed-items.ensures.handles in
    let rest = at_drop_all (λ (left : List (Row Place)). length (data_text (rows_with f c.loop-index.index left))) rows c.loop-index.index (omega arith) in omega arith
