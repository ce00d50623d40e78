use Rattle.std.proofs.Common.{[], ◌∷◌, ◌++◌}
use Rattle.script_run.specs.Turns.{moment, stores_of}
use Rattle.script_run.proofs.moments.Moments.note.Given as goal

abbrev pub ghost-of_events_beside : goal.ghost-of_events_beside
ghost-of_events_beside g a = a._past.now.events ++ moment a._first.now.passed (stores_of a._second.now) ∷ []
