use Rattle.std.proofs.Common.{◌≡◌, ◌-◌, ◌++◌, take}
use Rattle.std.specs.List.{flat_map}
use Rattle.fork_answer.specs.Warnings.{extent_in, extents_of}
use Rattle.fork_answer.proofs.warning.found_extents.Given as goal

-- the bytes so far, and those of the items that are left
abbrev pub invariant-loop-turn : goal.invariant-loop-turn
invariant-loop-turn l = l.extents.items ++ flat_map (extent_in l.pool) (take (4194304 - l._turn) l.salvage) ≡ extents_of l.pool l.fork
