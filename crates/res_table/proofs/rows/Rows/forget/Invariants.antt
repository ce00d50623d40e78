use Rattle.std.proofs.Common.{◌≡◌}
use Rattle.res_table.specs.Rows.{forgotten}
use Rattle.res_table.proofs.Forgetting.{holders}
use Rattle.res_table.proofs.rows.Rows.forget.Given as goal

-- what is to be forgotten is the same
abbrev pub invariant-loop-index : goal.invariant-loop-index
invariant-loop-index g l = forgotten l.handle l.self ≡ forgotten l.fn.handle l.fn.self

-- the rows that have the handle
abbrev pub decreases-loop-index : goal.decreases-loop-index
decreases-loop-index g l = holders l.handle l.self
