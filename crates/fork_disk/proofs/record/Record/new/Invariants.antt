use Rattle.fork_disk.proofs.record.Record.new.Given as goal
use Rattle.std.proofs.Common.{[]}

abbrev pub ghost-of_events : goal.ghost-of_events
ghost-of_events g a = []
