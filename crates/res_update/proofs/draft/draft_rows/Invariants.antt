use Rattle.std.proofs.Common.{◌≡◌, ◌++◌, drop}
use Rattle.res_update.specs.Drafts.{rows_with, draft_bytes}
use Rattle.res_update.proofs.draft.draft_rows.Given as goal

-- the rows so far and those of the others are all
abbrev pub invariant-loop-index : goal.invariant-loop-index
invariant-loop-index g l = l.draft.items ++ rows_with (draft_bytes (g.C.Contents.table l.handles) l.selection) l.index (drop l.index l.rows)
    ≡ rows_with (draft_bytes (g.C.Contents.table l.handles) l.selection) 0 l.rows
