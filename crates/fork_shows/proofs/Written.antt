-- What was written, where a command went well.
use Rattle.std.proofs.Common.{ℕ, List, Result, Ok, Err}
use Rattle.std.specs.Prelude.{IfOk, ⊤}
use Rattle.file_acts.specs.declared.message.Problem.{Problem}
use Rattle.file_acts.specs.Acts.{Log, Prints}
use Rattle.fork_shows.specs.Written.{JustPrinted}

-- what was to be printed was, where that went well
pub printed : (bytes : List ℕ) (result : Result ⊤ Problem) (old new : Log) → Prints bytes result old new → IfOk result (λ done. JustPrinted bytes new)
printed bytes (Ok done) old new prints = (old, prints)
printed bytes (Err why) old new prints = tt

-- a condition of what is so where it went well may be asked later
pub later : {A : Type 0} (P : Type 0) (result : Result ⊤ Problem) → (A → IfOk result (λ done. P)) → IfOk result (λ done. A → P)
later P (Ok done) holds = holds
later P (Err why) holds = tt
