use Rattle.file_acts.specs.declared.acts.Act.TheVariants as act
use Rattle.file_acts.proofs.acts.note_printed.Given as goal
use Rattle.std.specs.Prelude.{is_ok}
use Rattle.std.proofs.Common.{◌∷◌}

abbrev pub ghost-of_events_beside : goal.ghost-of_events_beside
ghost-of_events_beside a = act.Printed a._first.now.now (is_ok a._second.now) ∷ a._past.now.events
