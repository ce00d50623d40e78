use Rattle.std.proofs.Common.{◌≡◌, ◌++◌, drop}
use Rattle.fork_bytes.specs.Written.{names_text}
use Rattle.fork_bytes.proofs.write.push_names.Given as goal

-- what was there, and all names, once those of the other rows follow
abbrev pub invariant-loop-row : goal.invariant-loop-row
invariant-loop-row g l = l.fork.items ++ names_text (drop l.row-index l.rows) ≡ l.fn.fork.items ++ names_text l.rows
