use Rattle.fork_shows.proofs.compare.compare_with.Goals as goal

pub returns-clause-quiet : goal.returns-clause-quiet
returns-clause-quiet c = λ paths may before. c.write_differences.ensures.quiet paths (c.in_ok-bytes.ensures.quiet paths may before)
