use Rattle.std.proofs.Common.{◌≡◌, ◌++◌, map, take, drop}
use Rattle.res_table.specs.Keyed.{pushed_back}
use Rattle.res_table.proofs.keyed.push_back.Given as goal

-- the pairs so far have moved, and the others are as they were
abbrev pub invariant-loop-pair : goal.invariant-loop-pair
invariant-loop-pair l = l.pairs ≡ map (pushed_back l.at) (take l.pair-index l.fn.pairs) ++ drop l.pair-index l.fn.pairs
