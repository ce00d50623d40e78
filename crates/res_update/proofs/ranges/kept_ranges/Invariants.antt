use Rattle.std.proofs.Common.{◌≡◌, ◌++◌, drop}
use Rattle.res_update.specs.Drafts.{kept_ranges}
use Rattle.res_update.proofs.ranges.kept_ranges.Given as goal

-- the ranges so far and those of the other rows are all
abbrev pub invariant-loop-index : goal.invariant-loop-index
invariant-loop-index l = l.kept.items ++ kept_ranges l.selection l.index (drop l.index l.rows) (drop l.index l.places) ≡ kept_ranges l.selection 0 l.rows l.places
