use Rattle.host_paths.specs.declared.host.HostCall.TheVariants.{Over}
use Rattle.host_paths.proofs.host.found_over.Given as goal
use Rattle.std.proofs.Common.{◌∷◌}

abbrev pub ghost-of_events_beside : goal.ghost-of_events_beside
ghost-of_events_beside a = Over a._first.now.now a._second.now ∷ a._past.now.events
