use Rattle.std.proofs.Common.{◌∷◌}
use Rattle.zone_view.specs.Reading.{answer_of}
use Rattle.zone_view.proofs.reading.note_read.Given as goal

abbrev pub ghost-of_events_beside : goal.ghost-of_events_beside
ghost-of_events_beside a = (a._first.now, answer_of a._second.now) ∷ a._past.now.events
