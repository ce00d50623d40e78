use Rattle.file_acts.specs.declared.acts.Act.TheVariants as act
use Rattle.file_acts.proofs.acts.note_listed.Given as goal
use Rattle.std.proofs.Common.{◌∷◌}

abbrev pub ghost-of_events_beside : goal.ghost-of_events_beside
ghost-of_events_beside a = act.Listed a._first.now.now ∷ a._past.now.events
