use Rattle.host_paths.specs.declared.host.HostCall.TheVariants.{Empty}
use Rattle.new_folder.specs.Checked.{emptiness}
use Rattle.new_folder.proofs.opened.is_empty.Given as goal
use Rattle.std.proofs.Common.{◌∷◌}

abbrev pub ghost-of_events_beside : goal.ghost-of_events_beside
ghost-of_events_beside a = Empty a._first.now (emptiness a._second.now) ∷ a._past.now.events
