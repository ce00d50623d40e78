use Rattle.host_paths.specs.declared.host.HostCall.TheVariants.{ReadLink}
use Rattle.host_paths.specs.Asked.{named_path}
use Rattle.host_paths.proofs.host.link_at.Given as goal
use Rattle.std.proofs.Common.{◌∷◌}

abbrev pub ghost-of_events_beside : goal.ghost-of_events_beside
ghost-of_events_beside a = ReadLink a._first.now.now (named_path a._second.now) ∷ a._past.now.events
