use Rattle.file_acts.specs.Acts.{WritesNothing}
use Rattle.file_acts.specs.Saved.{ShowsSaved}
use Rattle.resfork.proofs.rez.read_files.Given as goal

abbrev pub invariant-loop-entry : goal.invariant-loop-entry
invariant-loop-entry l = record { quiet : WritesNothing l.fn.acts.events l.acts.events; seen : ShowsSaved l.fn.acts.events l.acts.events }
