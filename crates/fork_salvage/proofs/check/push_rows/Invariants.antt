use Rattle.std.proofs.Common.{◌≡◌, ◌-◌, ◌++◌, take}
use Rattle.std.specs.List.{flat_map}
use Rattle.fork_salvage.specs.Plans.{IsCursor, left_of}
use Rattle.fork_salvage.specs.Faults.{row_faults, rows_faults}
use Rattle.fork_salvage.proofs.check.push_rows.Given as goal

-- the faults so far, and those of the references that are left
abbrev pub invariant-loop-turn : goal.invariant-loop-turn
invariant-loop-turn l = IsCursor l.plan l.cursor × (l.faults.items ++ flat_map (row_faults l.fork l.plan) (take (l.most - l._turn) (left_of l.fork l.plan l.cursor))
    ≡ l.initial.faults.items ++ rows_faults l.fork l.plan l.most)
