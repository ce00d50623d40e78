-- Commands that are asked to write nothing new.
use Rattle.std.specs.Prelude.{◌≡◌, is_none, true}
use Rattle.fork_words.specs.declared.asked.Asked.{Asked}
use Rattle.fork_words.specs.Outputs.{data_output, new_output}

-- no file or folder is named to be written
abbrev pub NamesNone : Asked → Type 0
NamesNone asked = (is_none (new_output asked) ≡ true) × (is_none (data_output asked) ≡ true)
