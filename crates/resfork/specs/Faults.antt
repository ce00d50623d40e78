-- Which file and which resource are in the way of a command.
use Rattle.std.specs.Prelude.{◌≡◌, ℕ, List, Option, None, Some, Result, Ok, Err, ⊤}
use Rattle.fork_edit.specs.declared.file.NotWritten.TheVariants as written
use Rattle.file_acts.specs.declared.message.Problem.{Problem}
use Rattle.file_acts.specs.declared.message.Problem.TheVariants as problem

-- the file that is in the way where a folder isn't packed: the one that the new file is like, where that is a text which
-- can't be read, or a container which can't hold the fork
abbrev pub file_at_fault : Option (List ℕ) → List ℕ → Problem → List ℕ
file_at_fault (Some like) folder (problem.Write (written.Text fault)) = like
file_at_fault (Some like) folder (problem.Write (written.Container refusal)) = like
file_at_fault like folder other = folder
