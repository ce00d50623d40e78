use Rattle.host_paths.specs.declared.host.HostCall.TheVariants.{User}
use Rattle.host_paths.specs.Asked.{asked_user}
use Rattle.host_paths.proofs.host.this_user.Given as goal
use Rattle.std.proofs.Common.{◌∷◌}

abbrev pub ghost-of_events_beside : goal.ghost-of_events_beside
ghost-of_events_beside a = User (asked_user a._first.now) ∷ a._past.now.events
