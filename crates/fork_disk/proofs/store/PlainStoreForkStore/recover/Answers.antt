use Rattle.std.proofs.Common.{rules}
use Rattle.fork_disk.proofs.Crash.{finds_before}
use Rattle.fork_disk.proofs.store.PlainStoreForkStore.recover.Goals as goal

pub returns-clause-recovers : goal.returns-clause-recovers
returns-clause-recovers g c honest = search (rules, finds_before)
