-- What a salvage writes.
use Rattle.std.specs.Prelude.{ℕ, Bool, true, false, List, ⊤}
use Rattle.file_acts.specs.Acts.{Log}
use Rattle.fork_shows.specs.Written.{IsSavedAt}
use Rattle.fork_words.specs.declared.asked.Salvage.{Salvage}
use Rattle.fork_words.specs.declared.asked.Salvage.TheVariants as salvage

-- what is salvaged is only listed
abbrev pub only_lists : Salvage → Bool
only_lists (salvage.List letters) = true
only_lists other = false

-- what is salvaged was just saved at the path that is named, unless it is only listed
abbrev pub IsSalvaged : Salvage → Log → Type 0
IsSalvaged (salvage.List letters) new = ⊤
IsSalvaged (salvage.Fork path) new = (bytes : List ℕ) × IsSavedAt path.now bytes new
IsSalvaged (salvage.Data path) new = (bytes : List ℕ) × IsSavedAt path.now bytes new
