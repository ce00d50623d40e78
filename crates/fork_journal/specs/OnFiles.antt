-- A fork and its journal in two files of a world, as a pair.
use Rattle.std.specs.Prelude.{◌≡◌, true}
use Rattle.fork_journal.specs.Crash.{Contents, History}
use Rattle.fork_journal.specs.Files.{IsHonest, history_of}
use Rattle.fork_journal.specs.declared.file_pair.FilePair.{FilePair}
use Rattle.fork_journal.specs.declared.pair_world.PairWorld.{Ghosts}

module _ {W : Type 0} (world : Ghosts W) where
  -- its bytes are those that its world gives after the calls on it
  abbrev pub contents_in : FilePair W world → Contents
  contents_in pair = world.held pair.run pair.number pair.log.events

  abbrev pub history_in : FilePair W world → History
  history_in pair = history_of (world.held pair.run pair.number) pair.log.events

  -- it is honest where both files were synced once they were open, and the answers of these calls are those of such
  -- files
  pub record IsHonestIn (pair : FilePair W world) : Type 0 where
    pub fork_synced : pair.fork.was_synced ≡ true
    pub journal_synced : pair.journal.was_synced ≡ true
    pub answers : IsHonest (world.held pair.run pair.number) pair.log.events
