use Rattle.std.proofs.Common.{◌≡◌, take, string_bytes}
use Rattle.std.specs.List.{flat_map}
use Rattle.fork_find.specs.Sought.{found_line}
use Rattle.fork_find.proofs.found_lines.Given as goal

-- the lines of the resources so far
abbrev pub invariant-loop-row : goal.invariant-loop-row
invariant-loop-row l = string_bytes l.text ≡ flat_map (found_line l.fn.sought) (take l.row-index l.fn.rows)
