use Rattle.new_folder.proofs.calls.note.Given as goal
use Rattle.std.proofs.Common.{◌∷◌}

abbrev pub ghost-of_events_beside : goal.ghost-of_events_beside
ghost-of_events_beside a = (a._first.now, a._second.now.now) ∷ a._past.now.events
