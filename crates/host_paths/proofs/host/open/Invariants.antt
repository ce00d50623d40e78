use Rattle.host_paths.specs.declared.host.HostCall.TheVariants.{Open}
use Rattle.host_paths.specs.Asked.{or_kind}
use Rattle.host_paths.proofs.host.open.Given as goal
use Rattle.std.proofs.Common.{◌∷◌}

abbrev pub ghost-of_events_beside : goal.ghost-of_events_beside
ghost-of_events_beside a = Open a._first.now.0 a._first.now.1.now (or_kind a._second.now) ∷ a._past.now.events
