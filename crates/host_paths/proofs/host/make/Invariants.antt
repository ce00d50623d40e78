use Rattle.host_paths.specs.declared.host.HostCall.TheVariants.{Make}
use Rattle.host_paths.specs.Asked.{opened}
use Rattle.host_paths.proofs.host.make.Given as goal
use Rattle.std.proofs.Common.{◌∷◌}

abbrev pub ghost-of_events_beside : goal.ghost-of_events_beside
ghost-of_events_beside a = Make a._first.now.0 a._first.now.1.now (opened a._second.now) ∷ a._past.now.events
