-- A pair in memory that stops.
use Rattle.std.specs.Prelude.{◌≡◌, ⊤, Result, IsErr}
use Rattle.fork_journal.specs.declared.crash_pair.CrashPair.{CrashPair}
use Rattle.fork_journal.specs.Crash.{Contents, History}
use Rattle.fork_journal.specs.Record.{after_calls, found}

-- the pair inside as it reads, and its history; it is honest
abbrev pub stopping_contents : CrashPair → Contents
stopping_contents c = record { fork = c.pair.fork.items; journal = c.pair.journal.items }

abbrev pub stopping_history : CrashPair → History
stopping_history c = (after_calls c.pair.calls.items (found c.pair.first_fork.items c.pair.first_journal.items)).history

abbrev pub IsStoppingHonest : CrashPair → Type 0
IsStoppingHonest c = ⊤

-- no more writes, cuts and syncs are done
abbrev pub HasStopped : CrashPair → Type 0
HasStopped c = c.calls_left ≡ 0

-- where the pair has stopped, the call fails and the pair inside is as it was; elsewhere none is refused
pub record FailsStopped {T E : Type 0} (old new : CrashPair) (result : Result T E) : Type 0 where
  pub fails : HasStopped old → IsErr result
  pub same : HasStopped old → new.pair ≡ old.pair
  pub others : ¬ HasStopped old → new.refusals ≡ old.refusals
