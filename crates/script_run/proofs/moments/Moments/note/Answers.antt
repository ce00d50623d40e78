use borrow.Author.Rules.{lives}
use Rattle.script_run.proofs.moments.Moments.note.Goals as goal

pub of_events_beside-self-inside-requires : goal.of_events_beside-self-inside-requires
of_events_beside-self-inside-requires g c κs within = search (lives, within.0, within.1.0, within.1.1) depth 60 fits 20000
