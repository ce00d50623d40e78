use Rattle.std.proofs.Common.{◌≡◌, ◌+◌, ◌*◌, ◌≤◌, length, drop}
use Rattle.fork_bytes.specs.Fork.{max_fork}
use Rattle.fork_bytes.specs.Written.{data_text}
use Rattle.res_table.specs.Rows.{names_size}
use Rattle.res_update.specs.Drafts.{rows_with, draft_bytes}
use Rattle.res_update.proofs.sizes.text_length.Given as goal

-- the bytes so far and those of the other rows are all
abbrev pub invariant-loop-index : goal.invariant-loop-index
invariant-loop-index g l =
    (l.total + length (data_text (rows_with (draft_bytes (g.C.Contents.table l.contents) l.selection) l.index (drop l.index l.rows)))
    ≡ names_size l.rows + length (data_text (rows_with (draft_bytes (g.C.Contents.table l.contents) l.selection) 0 l.rows)))
    × (l.total ≤ max_fork + 4294967300 * l.index)
