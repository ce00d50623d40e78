use Rattle.host_paths.proofs.host.write_stream.Given as goal
use Rattle.std.proofs.Common.{◌∷◌, is_ok}

abbrev pub ghost-of_events_beside : goal.ghost-of_events_beside
ghost-of_events_beside a = record { file = a._first.now.0.now; bytes = a._first.now.1.now; is_done = is_ok a._second.now } ∷ a._past.now.events
