use Rattle.std.proofs.Common.{◌≡◌, ◌++◌, take}
use Rattle.fork_answer.specs.Salvaged.{found_of_type}
use Rattle.fork_answer.proofs.group.push_type.Given as goal

abbrev pub invariant-loop-row : goal.invariant-loop-row
invariant-loop-row l = l.grouped.items ≡ l.initial.grouped.items ++ found_of_type (take l.row-index l.rows) l.kind
