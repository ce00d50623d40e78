-- A file of an image that was opened.
use Rattle.std.proofs.Common.{◌≡◌, ℕ, Bool, true, false, List, [], Option, None, Some, Result, Ok, Err, inl, inr, sym, ap, ◌∙◌, subst}
use Rattle.std.specs.Global.{Vec}
use Rattle.image_files.specs.declared.contents.Place.{Place}
use Rattle.image_open.specs.declared.opened.NotOpened.{NotOpened}
use Rattle.image_open.specs.declared.opened.NotRead.{NotRead}
use Rattle.image_open.specs.declared.opened.NotRead.TheVariants as not_read
use Rattle.image_open.specs.declared.opened.Opened.{Opened}
use Rattle.image_open.specs.Opening.{IsNoFile, IsOpened, IsTried, NamesFile, OpensAt, OpensImage, ReadsFile, StatesFile, holds_fork, if_image}

-- what is said of what was opened holds of the text that names it
pub reads_opened : (text file : List ℕ) (limit : ℕ) (opened : Opened) (result : Result (Vec ℕ) NotRead) → IsOpened text file opened → StatesFile opened limit result file → ReadsFile text limit result file
reads_opened text file limit opened (Ok bytes) is states = (opened, states.0, record { opens = is; is = states.1 }, states.2)
reads_opened text file limit opened (Err (not_read.NotOpened why)) is states = absurd states
reads_opened text file limit opened (Err (not_read.NoFile other)) is states =
    (subst (λ (o : Opened). IsOpened text file o) (sym states.0) is, subst (λ (o : Opened). IsNoFile o.found) (sym states.0) states.1)
reads_opened text file limit opened (Err (not_read.Refused refusal)) is states = (opened, states.0, record { opens = is; is = states.1 }, states.2)
