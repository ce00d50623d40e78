use Rattle.file_replace.proofs.calls.note_at.Given as goal
use Rattle.file_replace.specs.declared.calls.HeldCall.TheVariants.{Put}
use Rattle.std.proofs.Common.{◌∷◌}

abbrev pub ghost-of_events_beside : goal.ghost-of_events_beside
ghost-of_events_beside a = Put a._first.now.now a._second.now.events ∷ a._past.now.events
