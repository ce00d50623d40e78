use Rattle.host_paths.specs.declared.host.HostCall.TheVariants.{Remove}
use Rattle.host_paths.proofs.host.remove.Given as goal
use Rattle.std.proofs.Common.{◌∷◌, is_ok}

abbrev pub ghost-of_events_beside : goal.ghost-of_events_beside
ghost-of_events_beside a = Remove a._first.now.now (is_ok a._second.now) ∷ a._past.now.events
