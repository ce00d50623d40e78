-- What a command wrote last.
use Rattle.std.specs.Prelude.{◌≡◌, ◌≢◌, ℕ, true, List, ◌∷◌, Option, Some, None, codes}
use Rattle.std.specs.Borrow.{Bor}
use Rattle.file_acts.specs.declared.acts.Act.TheVariants as act
use Rattle.file_acts.specs.Acts.{Log}
use Rattle.file_acts.specs.Saved.{JustSaved}

-- these bytes were just printed
abbrev pub JustPrinted : List ℕ → Log → Type 0
JustPrinted bytes new = (past : Log) × (new ≡ act.Printed bytes true ∷ past)

-- these bytes were just saved at a path, which is the standard output's if it is "-"
abbrev pub IsSavedAt : List ℕ → List ℕ → Log → Type 0
IsSavedAt path bytes new = path ≢ codes "-" → JustSaved bytes new

-- these bytes were just written: to the file that is named, or else to the standard output
abbrev pub IsWritten : Option (Bor (List ℕ)) → List ℕ → Log → Type 0
IsWritten None bytes new = JustPrinted bytes new
IsWritten (Some path) bytes new = IsSavedAt path.now bytes new

-- some bytes were
abbrev pub WritesLast : Option (Bor (List ℕ)) → Log → Type 0
WritesLast output new = (bytes : List ℕ) × IsWritten output bytes new
