-- What was done with the host's files, as it is noted.
use Rattle.std.proofs.Common.{◌≡◌, ◌≤◌, ◌∷◌, ℕ, length, Vec, Global, Result, Ok, Err, inr}
use Rattle.std.specs.Prelude.{IfErr, IfOk}
use Rattle.std.specs.declared.fs.File.{File}
use Rattle.clap.specs.Words.{Text}
use Rattle.zone_view.specs.declared.reading.NotRead.{NotRead}
use Rattle.zone_view.specs.declared.reading.NotRead.TheVariants as not_read
use Rattle.zone_view.specs.Reading.{Acts, IsOpened, IsReadFault, IsReading, answer_of, most_bytes}

-- the file was opened, and it was to be read
pub was_read : (path : Text) (file : File) (r : Result (Vec ℕ Global) NotRead) (old new : Acts) → IsOpened path file old.calls new.calls → new.reads ≡ (file, answer_of r) ∷ old.reads
    → IfOk r (λ bytes. length bytes.items ≤ most_bytes) → IfErr r IsReadFault → IsReading path r old new
was_read path file (Ok bytes) old new opened noted few fault = ((file, opened, noted), few)
was_read path file (Err not_read.TooLong) old new opened noted few fault = (file, opened, noted)
was_read path file (Err (not_read.Failed error)) old new opened noted few fault = inr (file, opened, noted)
was_read path file (Err not_read.Missing) old new opened noted few fault = absurd fault
was_read path file (Err not_read.NotPlain) old new opened noted few fault = absurd fault
