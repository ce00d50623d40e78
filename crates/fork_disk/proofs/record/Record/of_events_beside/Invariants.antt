use Rattle.fork_disk.proofs.record.Record.of_events_beside.Given as goal

abbrev pub ghost-of_events : goal.ghost-of_events
ghost-of_events g a = g.picked
