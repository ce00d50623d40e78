use Rattle.std.proofs.Common.{◌≡◌, ◌++◌, drop, List}
use Rattle.std.specs.Prelude.{option_map}
use Rattle.fork_bytes.specs.Rows.{Row}
use Rattle.fork_c.specs.Given.{rows_given}
use Rattle.fork_c.proofs.given.rows_given.Given as goal

-- the rows so far and those that are left are all
abbrev pub invariant-loop-row : goal.invariant-loop-row
invariant-loop-row l = rows_given l.rows l.names l.contents ≡ option_map (λ (others : List Row). l.given.items ++ others) (rows_given (drop l.row-index l.rows) l.names_left l.data_left)
