use Rattle.host_paths.specs.declared.host.HostCall.TheVariants.{OpenOrMake}
use Rattle.host_paths.specs.Asked.{or_kind}
use Rattle.host_paths.proofs.host.open_or_make.Given as goal
use Rattle.std.proofs.Common.{◌∷◌}

abbrev pub ghost-of_events_beside : goal.ghost-of_events_beside
ghost-of_events_beside a = OpenOrMake a._first.now.now (or_kind a._second.now) ∷ a._past.now.events
