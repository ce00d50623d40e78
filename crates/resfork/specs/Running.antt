-- What the program reads and writes, by what is asked of it.
use Rattle.std.specs.Prelude.{Bool, true, false, is_none, ℕ, List}
use Rattle.fork_words.specs.declared.asked.Asked.{Asked}
use Rattle.fork_words.specs.declared.asked.Asked.TheVariants as asked
use Rattle.fork_words.specs.declared.work.Place.{Place}
use Rattle.fork_words.specs.declared.work.Place.TheVariants.{New, Into}
use Rattle.fork_words.specs.declared.work.Work.{Work}
use Rattle.fork_words.specs.declared.work.Work.TheVariants as work
use Rattle.file_acts.specs.Acts.{Log, ReadsNothing, WritesNothing}
use Rattle.image_acts.specs.Words.{ReadsBothWords, ReadsWord, ReadsWords}
use Rattle.fork_shows.specs.Salvages.{only_lists}
use Rattle.fork_saves.specs.Changing.{IsForFile, IsForNew, IsForOther}

-- nothing is written in this place
abbrev pub is_dry_place : Place → Bool
is_dry_place (New target is_forced) = target.is_dry
is_dry_place (Into target on_collision) = target.is_dry

-- a command writes to no file: it only compares or shows, or says what it would do
abbrev pub writes_nothing : Work → Bool
writes_nothing (work.Put asked) = asked.target.is_dry
writes_nothing (work.Remove asked) = asked.target.is_dry
writes_nothing (work.Set asked) = asked.target.is_dry
writes_nothing (work.Copy asked) = asked.target.is_dry
writes_nothing (work.Compare asked) = true
writes_nothing (work.Derez asked) = true
writes_nothing (work.Rez asked) = is_dry_place asked.place
writes_nothing (work.Pack asked) = is_dry_place asked.place
writes_nothing (work.Convert asked) = asked.target.is_dry
writes_nothing (work.Texts file) = true
writes_nothing (work.PutTexts asked) = asked.target.is_dry

-- nothing is written but to the standard output: no other file is named to be written, or it is only said what would be
-- done
abbrev pub only_reads : Asked → Bool
only_reads (asked.Show showing) = is_none showing.output
only_reads (asked.Report reporting) = true
only_reads (asked.Salvage salvaging) = only_lists salvaging.what
only_reads (asked.View viewing) = is_none viewing.output
only_reads (asked.Unpack unpacking file) = false
only_reads (asked.Page paging) = is_none paging.output
only_reads (asked.Find finding) = true
only_reads (asked.Change change) = writes_nothing change
only_reads (asked.Tell text) = true

-- a command that writes to no file read just the files that it names; where it only says what it would do, files that it
-- needs for that
abbrev pub ReadsWork : Work → Log → Log → Type 0
ReadsWork (work.Compare asked) = ReadsBothWords asked.a.now asked.b.now
ReadsWork (work.Derez asked) = ReadsWord asked.file.now
ReadsWork (work.Texts file) = ReadsWord file.now
ReadsWork other = WritesNothing

-- the same of whatever is asked for
abbrev pub ReadsAsked : Asked → Log → Log → Type 0
ReadsAsked (asked.Show showing) = ReadsWords showing.files.items
ReadsAsked (asked.Report reporting) = ReadsWords reporting.files.items
ReadsAsked (asked.Salvage salvaging) = ReadsWord salvaging.file.now
ReadsAsked (asked.View viewing) = ReadsWord viewing.file.now
ReadsAsked (asked.Unpack unpacking file) = ReadsWord file.now
ReadsAsked (asked.Page paging) = ReadsWords paging.files.items
ReadsAsked (asked.Find finding) = WritesNothing
ReadsAsked (asked.Change change) = ReadsWork change
ReadsAsked (asked.Tell text) = ReadsNothing

-- a place where resources go, which isn't the standard output
abbrev pub IsForPlace : Place → Type 0
IsForPlace (New target is_forced) = IsForOther target
IsForPlace (Into target on_collision) = IsForFile target

-- a command changes files
abbrev pub ChangesFiles : Work → Type 0
ChangesFiles (work.Put asked) = IsForFile asked.target
ChangesFiles (work.Remove asked) = IsForFile asked.target
ChangesFiles (work.Set asked) = IsForFile asked.target
ChangesFiles (work.Copy asked) = IsForFile asked.target
ChangesFiles (work.Compare asked) = ⊥
ChangesFiles (work.Derez asked) = ⊥
ChangesFiles (work.Rez asked) = IsForPlace asked.place
ChangesFiles (work.Pack asked) = IsForPlace asked.place
ChangesFiles (work.Convert asked) = IsForNew asked
ChangesFiles (work.Texts file) = ⊥
ChangesFiles (work.PutTexts asked) = IsForFile asked.target

-- the same of whatever is asked for
abbrev pub ChangesAsked : Asked → Type 0
ChangesAsked (asked.Change change) = ChangesFiles change
ChangesAsked other = ⊥
