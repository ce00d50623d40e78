use Rattle.file_acts.specs.declared.acts.Act.TheVariants as act
use Rattle.file_acts.proofs.acts.note_saved.Given as goal
use Rattle.std.proofs.Common.{◌∷◌}

abbrev pub ghost-of_events_beside : goal.ghost-of_events_beside
ghost-of_events_beside a = act.Saved a._first.now.events ∷ a._past.now.events
