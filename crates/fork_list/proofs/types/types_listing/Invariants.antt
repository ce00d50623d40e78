use Rattle.std.proofs.Common.{◌≡◌, None, ◌++◌, drop, string_bytes}
use Rattle.fork_list.specs.Types.{type_lines}
use Rattle.fork_list.specs.Counts.{CountsTypes}
use Rattle.fork_list.proofs.types.types_listing.Given as goal

-- the lines so far, with those of the rows that are left, are all
abbrev pub invariant-loop-row : goal.invariant-loop-row
invariant-loop-row g l =
    string_bytes l.text ++ type_lines l.letters l.kinds l.rows l.before (drop l.row-index l.rows) ≡ type_lines l.letters l.kinds l.rows None l.rows
