use Rattle.file_acts.specs.Acts.{WritesNothing}
use Rattle.fork_shows.proofs.find.find_all.Given as goal

abbrev pub invariant-loop-file : goal.invariant-loop-file
invariant-loop-file l = record { quiet : WritesNothing l.fn.acts.events l.acts.events }
