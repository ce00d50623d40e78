use Rattle.std.proofs.Common.{◌≡◌, ℕ, ◌≤◌, ◌-◌, ◌++◌, List, take, drop}
use Rattle.mac_base.specs.declared.resource.Resource.{Resource}
use Rattle.res_table.specs.Saved.{bare}
use Rattle.res_update.specs.Fitting.{names_fit}
use Rattle.res_files.proofs.fitting.names_end.Given as goal

-- the names so far fit, and the others follow from the next offset on
abbrev pub invariant-loop-at : goal.invariant-loop-at
invariant-loop-at l = (l.at ≤ l.to)
    × ((rest : List (Resource (List ℕ))) → names_fit l.start (bare (take (l.to - l.from) (drop l.from l.rows)) ++ rest) ≡ names_fit l.next (bare (take (l.to - l.at) (drop l.at l.rows)) ++ rest))

abbrev pub decreases-loop-at : goal.decreases-loop-at
decreases-loop-at l = l.to - l.at
