-- What is reported of files.
use Rattle.std.specs.Prelude.{◌≡◌, ◌↔◌, ℕ, false, string_bytes, IsTrue, List}
use Rattle.fork_bytes.specs.declared.table.Table.{Table}
use Rattle.fork_answer.specs.Answer.{IsTableOf}
use Rattle.fork_answer.specs.Source.{IsForkIn}
use Rattle.fork_report.specs.declared.report.Told.{Told}
use Rattle.fork_report.specs.declared.request.Form.{Form}
use Rattle.fork_report.specs.declared.request.Form.TheVariants.{Json, Text}
use Rattle.fork_report.specs.declared.request.Report.{Report}
use Rattle.fork_report.specs.declared.request.Report.TheVariants as report
use Rattle.fork_report.specs.Damage.{IsDamaged}
use Rattle.fork_report.specs.Digests.{digest_listing}
use Rattle.fork_report.specs.Inside.{HasArchive}
use Rattle.fork_report.specs.Refused.{IsTaken}

-- the form in which it is reported
abbrev pub form_of : Report → Form
form_of (report.Info form digests) = form
form_of (report.Check form) = form
form_of (report.List kinds shown digests) = Json
form_of (report.DigestList choice) = Text

-- the file has a fork that stands for a table
abbrev pub HasTable : List ℕ → Type 0
HasTable file = (fork : List ℕ) × (table : Table) × IsForkIn file fork × IsTableOf fork table

-- where the faults of a file's fork are asked for, it is reported as damaged exactly if it is, and only where the file
-- is taken for one with a fork; a list is reported of a fork that isn't damaged
abbrev pub TellsOfFork : Report → List ℕ → Told → Type 0
TellsOfFork (report.Check form) file told =
    (fork : List ℕ) × IsForkIn file fork × (IsTrue told.is_damaged ↔ IsDamaged fork) × IsTaken file
TellsOfFork (report.List kinds shown digests) file told = HasTable file × (told.is_damaged ≡ false)
TellsOfFork (report.DigestList choice) file told = ((fork : List ℕ) × (table : Table) × IsForkIn file fork × IsTableOf fork table
    × (string_bytes told.text ≡ digest_listing choice.letters choice.kinds.items table.rows)) × (told.is_damaged ≡ false)
TellsOfFork (report.Info form digests) file told = told.is_damaged ≡ false

-- what is reported of a file: that of its fork, and the archive in its data fork where it has no resources
abbrev pub Tells : Report → List ℕ → Told → Type 0
Tells report file told = TellsOfFork report file told × HasArchive file told.archive
