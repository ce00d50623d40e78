-- What is written of a text.
use Rattle.std.specs.Prelude.{◌≡◌, List, ℕ, ◌++◌, Option, Result, Ok, Err}
use Rattle.std.specs.Io.KnownBytes.{Appends}
use Rattle.zone_view.specs.declared.writing.NotWritten.{NotWritten}

-- a front of a text was written, and nothing else
abbrev pub WritesFront : List ℕ → Option (List ℕ) → Option (List ℕ) → Type 0
WritesFront text old new = (front : List ℕ) × (rest : List ℕ) × (text ≡ front ++ rest) × Appends old new front

-- this text was written, or a front of it where the output fails or the host has no memory
abbrev pub Writes : {T : Type 0} → List ℕ → Option (List ℕ) → Option (List ℕ) → Result T NotWritten → Type 0
Writes text old new (Ok done) = Appends old new text
Writes text old new (Err why) = WritesFront text old new
