use Rattle.file_replace.proofs.calls.note_asked.Given as goal
use Rattle.file_replace.specs.declared.calls.HeldCall.TheVariants.{Asked}
use Rattle.std.proofs.Common.{◌∷◌}

abbrev pub ghost-of_events_beside : goal.ghost-of_events_beside
ghost-of_events_beside a = Asked a._first.now.events ∷ a._past.now.events
