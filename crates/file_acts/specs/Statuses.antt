-- The exit statuses (resfork(1)).
use Rattle.std.specs.Prelude.{ℕ, Bool, true, false, if◌then◌else◌, Result, Ok, Err}
use Rattle.fork_answer.specs.declared.answer.Failure.TheVariants as failure
use Rattle.fork_change.specs.declared.refusal.Refusal.TheVariants as edit
use Rattle.fork_folder.specs.declared.rows.PackFault.TheVariants as pack
use Rattle.fork_report.specs.declared.refusal.Refusal.TheVariants as refusal
use Rattle.fork_rez.specs.declared.fault.RezFault.TheVariants as rez
use Rattle.fork_texts.specs.declared.fault.TextFault.TheVariants as texts
use Rattle.fork_view.specs.declared.view.NotShown.TheVariants as sight
use Rattle.fork_words.specs.declared.asked.NotAsked.{NotAsked}
use Rattle.fork_words.specs.declared.asked.NotAsked.TheVariants as words
use Rattle.file_acts.specs.declared.message.Problem.{Problem}
use Rattle.file_acts.specs.declared.message.Problem.TheVariants as problem

-- there is no such resource, or it is there already
abbrev pub is_of_resource : Problem → Bool
is_of_resource (problem.Refused (refusal.Show failure.NotFound)) = true
is_of_resource (problem.NotFound shown) = true
is_of_resource (problem.View sight.NotFound) = true
is_of_resource (problem.Edit (edit.Missing what)) = true
is_of_resource (problem.Edit edit.Taken) = true
is_of_resource (problem.NoKind kind) = true
is_of_resource problem.Nothing = true
is_of_resource problem.Twice = true
is_of_resource problem.IsThere = true
is_of_resource (problem.NotInImage told) = true
is_of_resource other = false

-- the words of the command line are bad, as those that ask for a form that a resource hasn't; or bytes would go to a
-- terminal
abbrev pub is_of_words : Problem → Bool
is_of_words (problem.View (sight.NoPicture kind)) = true
is_of_words (problem.View (sight.Undrawn fault)) = true
is_of_words (problem.View sight.NoText) = true
is_of_words (problem.View (sight.Compressed length)) = true
is_of_words (problem.View sight.ManyPictures) = true
is_of_words (problem.View (sight.NoSound kind)) = true
is_of_words (problem.View (sight.Unheard fault)) = true
is_of_words (problem.View sight.ManySounds) = true
is_of_words (problem.Untold others) = true
is_of_words problem.Terminal = true
is_of_words problem.NoDataFile = true
is_of_words problem.OneFile = true
is_of_words problem.InImage = true
is_of_words problem.IntoImage = true
is_of_words other = false

-- a file has no resource fork, or a damaged one; or a text or a folder says no resources
abbrev pub is_of_fork : Problem → Bool
is_of_fork (problem.Refused (refusal.Show failure.NotFound)) = false
is_of_fork (problem.Refused (refusal.Show failure.HostFull)) = false
is_of_fork (problem.Refused (refusal.Show (failure.Write fault))) = false
is_of_fork (problem.Refused told) = true
is_of_fork (problem.Salvageable told) = true
is_of_fork (problem.Rez (rez.Refused fault)) = true
is_of_fork (problem.Texts (texts.Refused fault)) = true
is_of_fork (problem.Pack pack.HostFull) = false
is_of_fork (problem.Pack fault) = true
is_of_fork (problem.Image told) = true
is_of_fork (problem.Apart row) = true
is_of_fork (problem.NoText path) = true
is_of_fork other = false

-- the status of a problem: of all others something can't be read or written, or the host has no memory
abbrev pub status_of : Problem → ℕ
status_of why = if is_of_resource why then 1 else if is_of_words why then 2 else if is_of_fork why then 3 else 4

-- the status after something was done, or wasn't
abbrev pub status_after : Result ℕ Problem → ℕ
status_after (Ok status) = status
status_after (Err why) = status_of why

-- the status where the words ask for nothing
abbrev pub status_of_words : NotAsked → ℕ
status_of_words words.HostFull = 4
status_of_words other = 2
