-- The stores of a run that are files of the host: what is read of them, and when their devices are honest.
use Rattle.std.specs.Prelude.{⊤, []}
use Rattle.std.proofs.Common.{◌∙◌, ap}
use Rattle.fork_disk.specs.Fork.{IsPartly}
use Rattle.fork_disk.specs.Record as file
use Rattle.fork_disk.specs.declared.file_disk.FileDisk.{FileDisk}
use Rattle.fork_disk.specs.declared.store.ForkStore.{Ghosts}
use Rattle.fork_disk.specs.declared.store.PlainStore.{PlainStore}
use Rattle.fork_disk.specs.declared.world.World as world_of
use Rattle.fork_journal.specs.Crash.{Event}
use Rattle.fork_journal.specs.Files as pair
use Rattle.fork_journal.specs.OnFiles.{IsHonestIn}
use Rattle.fork_journal.specs.Recovery.{IsEither, IsReady, IsStable, MayFind, copied_length, settled_fork}
use Rattle.fork_journal.specs.declared.file_pair.FilePair.{FilePair}
use Rattle.fork_journal.specs.declared.journal.Journal.{Journal}
use Rattle.fork_journal.specs.declared.pair.PairDisk as pair_disk
use Rattle.fork_journal.specs.declared.pair_world.PairWorld as pair_world

-- A fork in a file of this world: its bytes are those that the file held after the calls on it. It is honest where
-- the answers of these calls are those of such a file.
abbrev pub file_store : {W : Type 0} → world_of.Ghosts W → Ghosts (PlainStore (FileDisk W))
file_store world = record {
  fork = λ store. world.held store.disk.number store.disk.log.events;
  is_ready = λ store. ⊤;
  is_stable = λ store. let disk = store.disk in
      file.IsStable (world.held disk.number) (world.may_leave disk.number) disk.log.events;
  is_honest = λ store. let disk = store.disk in
      file.IsHonest (world.held disk.number) (world.may_leave disk.number) disk.log.events;
  failures = λ store. file.failed_calls store.disk.log.events;
  may_leave = IsPartly;
  has_journal = ⊥;
  Event = ⊤;
  history = λ store. [];
  may_find = λ history found. ⊤;
  copied = λ store. 0;
  ready_finds = λ store journalled. absurd journalled;
}

-- A fork and its journal in two files of this world: both hold what it says after the calls on them. They are honest
-- where both were synced once they were open, and the answers of these calls are those of such files.
abbrev pub file_pair : {W : Type 0} (world : pair_world.Ghosts W) → pair_disk.Ghosts (FilePair W world)
file_pair world = record {
  contents = λ files. world.held files.run files.number files.log.events;
  history = λ files. pair.history_of (world.held files.run files.number) files.log.events;
  is_honest = λ files. IsHonestIn world files;
  failures = λ files. file.failed_calls files.log.events;
}

-- A fork with a journal: it is the one that is there once the two files are recovered.
abbrev pub journalled_store : {W : Type 0} (world : pair_world.Ghosts W)
    → Ghosts (Journal (FilePair W world) (file_pair world))
journalled_store world = let files = file_pair world in record {
  fork = λ store. settled_fork (files.contents store.pair);
  is_ready = λ store. IsReady (files.contents store.pair) (files.history store.pair);
  is_stable = λ store. IsStable (files.contents store.pair) (files.history store.pair);
  is_honest = λ store. files.is_honest store.pair;
  failures = λ store. files.failures store.pair;
  may_leave = IsEither;
  has_journal = ⊤;
  Event = Event;
  history = λ store. files.history store.pair;
  may_find = MayFind;
  copied = λ store. copied_length (files.contents store.pair);
  ready_finds = λ store journalled honest ready found may.
      may.2 ∙ ap settled_fork (ready.settled may.0 may.1);
}
