use Rattle.std.proofs.Common.{◌≡◌, ℕ, List, ◌++◌, length}
use Rattle.script_run.specs.Counting.{Took}
use Rattle.script_run.proofs.writing.write_whole.Given as goal

-- what has been written, and what is left
abbrev pub invariant-loop-rest : goal.invariant-loop-rest
invariant-loop-rest g l = (written : List ℕ) × Took g.W.Write.contents l.fn.writer written l.writer × (l.text ≡ written ++ l.rest) × (l.writer.failures ≡ l.fn.writer.failures)

abbrev pub decreases-loop-rest : goal.decreases-loop-rest
decreases-loop-rest g l = length l.rest
