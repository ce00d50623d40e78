use Rattle.std.proofs.Common.{◌≡◌, take}
use Rattle.std.specs.List.{flat_map}
use Rattle.fork_view.specs.Sights.{untold_in}
use Rattle.fork_view.proofs.view.sight_of_rows.Given as goal

-- of the rows so far, those that can't be shown
abbrev pub invariant-loop-row : goal.invariant-loop-row
invariant-loop-row l = l.others.items ≡ flat_map (untold_in l.kind l.form) (take l.row-index l.rows)
