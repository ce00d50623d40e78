use Rattle.file_replace.proofs.calls.note_stream.Given as goal
use Rattle.file_replace.specs.declared.calls.HeldCall.TheVariants.{Stream}
use Rattle.std.proofs.Common.{◌∷◌}
use Rattle.std.specs.Path.{path_buf_bytes}

abbrev pub ghost-of_events_beside : goal.ghost-of_events_beside
ghost-of_events_beside a = Stream (path_buf_bytes a._second.now.to.path) a._first.now a._second.now.bytes.now ∷ a._past.now.events
