use Rattle.file_acts.specs.Acts.{bytes_read}
use Rattle.file_acts.specs.declared.acts.Act.TheVariants as act
use Rattle.file_acts.proofs.acts.note_front.Given as goal
use Rattle.std.proofs.Common.{◌∷◌}

abbrev pub ghost-of_events_beside : goal.ghost-of_events_beside
ghost-of_events_beside a = act.ReadFront a._first.now.0.now a._first.now.1 (bytes_read a._second.now) ∷ a._past.now.events
