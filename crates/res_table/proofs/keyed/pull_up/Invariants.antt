use Rattle.std.proofs.Common.{◌≡◌, ◌++◌, map, take, drop}
use Rattle.res_table.specs.Keyed.{pulled_up}
use Rattle.res_table.proofs.keyed.pull_up.Given as goal

-- the pairs so far have moved, and the others are as they were
abbrev pub invariant-loop-pair : goal.invariant-loop-pair
invariant-loop-pair l = l.pairs ≡ map (pulled_up l.at) (take l.pair-index l.fn.pairs) ++ drop l.pair-index l.fn.pairs
