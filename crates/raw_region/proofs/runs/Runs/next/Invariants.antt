use Rattle.std.proofs.Common.{take}
use Rattle.raw_region.specs.Runs.{IsNext}
use Rattle.raw_region.proofs.runs.Runs.next.Given as goal

-- what the first runs have
abbrev pub invariant-loop-i : goal.invariant-loop-i
invariant-loop-i l = IsNext (take l.i l.self.runs) l.from l.found
