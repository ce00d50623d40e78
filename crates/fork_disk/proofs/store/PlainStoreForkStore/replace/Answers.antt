use Rattle.std.proofs.Common.{rules}
use Rattle.fork_disk.proofs.Crash.{finds_before_or}
use Rattle.fork_disk.proofs.store.PlainStoreForkStore.replace.Goals as goal

pub returns-in-Ok-clause-replaces : goal.returns-in-Ok-clause-replaces
returns-in-Ok-clause-replaces g c honest = search (rules, finds_before_or)

pub returns-in-Err-clause-replaces : goal.returns-in-Err-clause-replaces
returns-in-Err-clause-replaces g c honest = search (rules, finds_before_or)
