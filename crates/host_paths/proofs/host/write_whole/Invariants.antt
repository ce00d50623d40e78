use Rattle.host_paths.specs.declared.host.HostCall.TheVariants.{Write}
use Rattle.host_paths.proofs.host.write_whole.Given as goal
use Rattle.std.proofs.Common.{◌∷◌, is_ok}

abbrev pub ghost-of_events_beside : goal.ghost-of_events_beside
ghost-of_events_beside a = Write a._first.now.0.now a._first.now.1.now (is_ok a._second.now) ∷ a._past.now.events
