use Rattle.fork_salvage.specs.Salvage.{items}
use Rattle.fork_report.proofs.Counts.{Counted}
use Rattle.fork_report.proofs.damage.tally_of.Given as goal

abbrev pub invariant-loop-found : goal.invariant-loop-found
invariant-loop-found l = Counted (items l.fork) l.salvage l.readable l.found l.more
