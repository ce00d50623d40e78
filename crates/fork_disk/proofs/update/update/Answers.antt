use Rattle.std.proofs.Common.{rules}
use Rattle.fork_disk.proofs.Crash.{finds_before_or}
use Rattle.fork_disk.proofs.update.update.Goals as goal

pub returns-in-Err-clause-updates : goal.returns-in-Err-clause-updates
returns-in-Err-clause-updates g c honest = search (rules, finds_before_or)
