-- How the characters of a text are shown.
use Rattle.std.specs.Prelude.{ℕ, List}
use Rattle.path_text.specs.declared.characters.Way.{Way}
use Rattle.path_text.specs.declared.characters.Way.TheVariants.{Quoted, Single, Lines, Line}
use Rattle.path_text.specs.FileNames.{escaped, in_line, tamed}
use Rattle.path_text.specs.ShellWords.{single}

-- a character that is shown in a way
abbrev pub shown_by : Way → ℕ → List ℕ
shown_by Quoted = escaped
shown_by Single = single
shown_by Lines = tamed
shown_by Line = in_line
