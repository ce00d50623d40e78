-- What the words of the command line ask for.
use Rattle.std.specs.Prelude.{◌≡◌, ◌≢◌, ◌⊎◌, ⊤}
use Rattle.clap.specs.Values.{kind_of}
use Rattle.clap.specs.declared.error.kind.ErrorKind.TheVariants.{DisplayHelp, DisplayVersion, OutOfMemory}
use Rattle.fork_words.specs.declared.asked.Asked.{Asked}
use Rattle.fork_words.specs.declared.asked.Asked.TheVariants as asked
use Rattle.fork_words.specs.declared.asked.NotAsked.{NotAsked}
use Rattle.fork_words.specs.declared.asked.NotAsked.TheVariants as not_asked
use Rattle.fork_words.specs.Inputs.{ReadsOnce}

-- what changes files reads the standard input once, and doesn't write in its place; what is to be printed is the help,
-- or the version
abbrev pub IsFit : Asked → Type 0
IsFit (asked.Change work) = ReadsOnce work
IsFit (asked.Tell told) = (kind_of told ≡ DisplayHelp) ⊎ (kind_of told ≡ DisplayVersion)
IsFit other = ⊤

-- words that ask for the help or the version aren't refused for it, and want of memory is no fault of theirs
abbrev pub IsFault : NotAsked → Type 0
IsFault (not_asked.Words told) = (kind_of told ≢ DisplayHelp) × (kind_of told ≢ DisplayVersion) × (kind_of told ≢ OutOfMemory)
IsFault other = ⊤
