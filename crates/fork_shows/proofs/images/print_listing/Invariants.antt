use Rattle.file_acts.specs.Acts.{ReadsNothing}
use Rattle.fork_shows.proofs.images.print_listing.Given as goal

abbrev pub invariant-loop-at : goal.invariant-loop-at
invariant-loop-at l = ReadsNothing l.initial.acts.events l.acts.events
