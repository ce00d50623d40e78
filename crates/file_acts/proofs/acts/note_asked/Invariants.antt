use Rattle.host_paths.specs.Asked.{answer_of}
use Rattle.file_acts.specs.declared.acts.Act.TheVariants as act
use Rattle.file_acts.proofs.acts.note_asked.Given as goal
use Rattle.std.proofs.Common.{◌∷◌}

abbrev pub ghost-of_events_beside : goal.ghost-of_events_beside
ghost-of_events_beside a = act.Asked a._first.now.now (answer_of a._second.now) ∷ a._past.now.events
