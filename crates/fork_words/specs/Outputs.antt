-- Where a command is asked to write something new.
use Rattle.std.specs.Prelude.{ℕ, List, Option, None, Some}
use Rattle.std.specs.Borrow.{Bor}
use Rattle.fork_words.specs.declared.asked.Asked.{Asked}
use Rattle.fork_words.specs.declared.asked.Asked.TheVariants as asked
use Rattle.fork_words.specs.declared.asked.Salvage.{Salvage}
use Rattle.fork_words.specs.declared.asked.Salvage.TheVariants as salvage
use Rattle.fork_words.specs.declared.work.Place.{Place}
use Rattle.fork_words.specs.declared.work.Place.TheVariants.{New, Into}
use Rattle.fork_words.specs.declared.work.Work.{Work}
use Rattle.fork_words.specs.declared.work.Work.TheVariants as work

-- where a salvage goes
abbrev pub salvage_output : Salvage → Option (Bor (List ℕ))
salvage_output (salvage.List letters) = None
salvage_output (salvage.Fork path) = Some path
salvage_output (salvage.Data path) = Some path

-- where resources of a text or a folder go
abbrev pub place_output : Place → Option (Bor (List ℕ))
place_output (New target is_forced) = target.output
place_output (Into target on_collision) = target.output

-- where a changed file goes, if not in its own place
abbrev pub work_output : Work → Option (Bor (List ℕ))
work_output (work.Put asked) = asked.target.output
work_output (work.Remove asked) = asked.target.output
work_output (work.Set asked) = asked.target.output
work_output (work.Copy asked) = asked.target.output
work_output (work.Compare asked) = None
work_output (work.Derez asked) = None
work_output (work.Rez asked) = place_output asked.place
work_output (work.Pack asked) = place_output asked.place
work_output (work.Convert asked) = asked.target.output
work_output (work.Texts file) = None
work_output (work.PutTexts asked) = asked.target.output

-- the new file or folder that is named to be written
abbrev pub new_output : Asked → Option (Bor (List ℕ))
new_output (asked.Show showing) = showing.output
new_output (asked.Report reporting) = None
new_output (asked.Salvage salvaging) = salvage_output salvaging.what
new_output (asked.View viewing) = viewing.output
new_output (asked.Unpack unpacking file) = Some unpacking.folder
new_output (asked.Page paging) = paging.output
new_output (asked.Change change) = work_output change
new_output (asked.Find finding) = None
new_output (asked.Tell text) = None

-- the data fork's file that a conversion names
abbrev pub data_output : Asked → Option (Bor (List ℕ))
data_output (asked.Change (work.Convert conversion)) = conversion.data
data_output other = None
