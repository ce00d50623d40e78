use Rattle.std.proofs.Common.{◌≡◌, ◌++◌, [], map, drop}
use Rattle.fork_answer.specs.Salvaged.{each_once, kind_of}
use Rattle.fork_answer.proofs.group.kinds_of.Given as goal

-- the types so far, and those of the other rows that aren't among them, are all
abbrev pub invariant-loop-row : goal.invariant-loop-row
invariant-loop-row l = l.kinds.items ++ each_once l.kinds.items (map kind_of (drop l.row-index l.rows)) ≡ each_once [] (map kind_of l.rows)
