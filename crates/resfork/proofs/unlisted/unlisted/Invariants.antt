use Rattle.file_acts.specs.Acts.{WritesNothing}
use Rattle.file_acts.specs.Saved.{ShowsSaved}
use Rattle.resfork.proofs.unlisted.unlisted.Given as goal

abbrev pub invariant-loop-name : goal.invariant-loop-name
invariant-loop-name l = record { quiet : WritesNothing l.fn.acts.events l.acts.events; seen : ShowsSaved l.fn.acts.events l.acts.events }
