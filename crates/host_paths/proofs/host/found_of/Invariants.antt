use Rattle.host_paths.specs.declared.host.HostCall.TheVariants.{Of}
use Rattle.host_paths.proofs.host.found_of.Given as goal
use Rattle.std.proofs.Common.{◌∷◌}

abbrev pub ghost-of_events_beside : goal.ghost-of_events_beside
ghost-of_events_beside a = Of a._first.now a._second.now ∷ a._past.now.events
