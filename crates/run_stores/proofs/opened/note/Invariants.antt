use Rattle.std.proofs.Common.{◌++◌, ◌∷◌, []}
use Rattle.run_stores.proofs.opened.note.Given as goal

abbrev pub ghost-of_events_beside : goal.ghost-of_events_beside
ghost-of_events_beside a = a._past.now.events ++ (a._first.now.now, a._second.now) ∷ []
