use Rattle.std.proofs.Common.{◌≢◌, ℕ, ◌<◌, get_or}
use Rattle.script_lang.proofs.CallNames.{some_row}
use Rattle.script_lang.proofs.table.CallName.named.Given as goal

-- no row so far has the name
abbrev pub invariant-loop-row : goal.invariant-loop-row
invariant-loop-row l = (k : ℕ) → k < l.row-index → (get_or l.row-items k some_row).name.now ≢ l.word
