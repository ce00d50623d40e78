use Rattle.std.proofs.Common.{◌≡◌, false, take}
use Rattle.std.specs.List.{list_any}
use Rattle.fork_texts.specs.Tables.{has_text}
use Rattle.fork_texts.proofs.table.why_left.Given as goal

-- no row so far has the text
abbrev pub invariant-loop-row : goal.invariant-loop-row
invariant-loop-row l = list_any (has_text l.types l.line) (take l.row-index l.rows) ≡ false
