-- A command that reads what a word names writes nothing.
use Rattle.std.proofs.Common.{ℕ, List, None}
use Rattle.file_acts.specs.Acts.{Log, WritesNothing}
use Rattle.image_acts.specs.Words.{ReadsWord}

pub writes_nothing : (word : List ℕ) (old new : Log) → ReadsWord word old new → WritesNothing old new
writes_nothing word old new reads = reads None (record { each = λ path named. tt })
