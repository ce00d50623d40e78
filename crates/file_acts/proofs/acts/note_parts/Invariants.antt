use Rattle.file_acts.specs.declared.acts.Act.TheVariants as act
use Rattle.file_acts.proofs.acts.note_parts.Given as goal
use Rattle.std.proofs.Common.{◌∷◌}

abbrev pub ghost-of_events_beside : goal.ghost-of_events_beside
ghost-of_events_beside g a = act.ReadParts a._first.now.now a._second.now.disk.number a._second.now.disk.log.events ∷ a._past.now.events
