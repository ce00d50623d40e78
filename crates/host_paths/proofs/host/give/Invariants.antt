use Rattle.host_paths.specs.declared.host.HostCall.TheVariants.{Give}
use Rattle.host_paths.proofs.host.give.Given as goal
use Rattle.std.proofs.Common.{◌∷◌, is_ok}

abbrev pub ghost-of_events_beside : goal.ghost-of_events_beside
ghost-of_events_beside a = Give a._first.now.0.now a._first.now.1 a._first.now.2 (is_ok a._second.now) ∷ a._past.now.events
