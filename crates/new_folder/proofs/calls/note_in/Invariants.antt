use Rattle.new_folder.specs.NewFolder.{path_below}
use Rattle.new_folder.proofs.calls.note_in.Given as goal
use Rattle.std.proofs.Common.{◌∷◌, Some}

abbrev pub ghost-of_events_beside : goal.ghost-of_events_beside
ghost-of_events_beside a = (a._first.now, path_below (Some a._second.now.0.now) a._second.now.1.now) ∷ a._past.now.events
