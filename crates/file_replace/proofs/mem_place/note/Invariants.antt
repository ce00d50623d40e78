use Rattle.file_replace.specs.Memory.{noted}
use Rattle.file_replace.proofs.mem_place.note.Given as goal

abbrev pub ghost-of_events_beside : goal.ghost-of_events_beside
ghost-of_events_beside a = noted a._first.now a._second.now a._past.now.events
