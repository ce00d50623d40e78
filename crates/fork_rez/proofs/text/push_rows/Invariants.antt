use Rattle.std.proofs.Common.{◌≡◌, ◌++◌, take}
use Rattle.std.specs.List.{flat_map}
use Rattle.fork_rez.specs.Text.{chosen_rows, row_text}
use Rattle.fork_rez.proofs.text.push_rows.Given as goal

-- the rows so far
abbrev pub invariant-loop-row : goal.invariant-loop-row
invariant-loop-row l = l.out.items ≡ l.initial.out.items ++ flat_map row_text (chosen_rows l.kinds (take l.row-index l.rows))
