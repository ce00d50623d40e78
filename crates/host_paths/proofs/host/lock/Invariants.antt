use Rattle.host_paths.specs.declared.host.HostCall.TheVariants.{Lock}
use Rattle.host_paths.specs.Asked.{or_kind}
use Rattle.host_paths.proofs.host.lock.Given as goal
use Rattle.std.proofs.Common.{◌∷◌}

abbrev pub ghost-of_events_beside : goal.ghost-of_events_beside
ghost-of_events_beside a = Lock a._first.now (or_kind a._second.now) ∷ a._past.now.events
