use Rattle.file_acts.specs.Acts.{WritesNothing}
use Rattle.fork_shows.proofs.find.find_in_folder.Given as goal

abbrev pub invariant-loop : goal.invariant-loop
invariant-loop l = record { quiet : WritesNothing l.fn.acts.events l.acts.events }
