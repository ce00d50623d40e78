use Rattle.fork_shows.proofs.salvage.salvaged.Goals as goal

pub returns-in-List-clause-quiet : goal.returns-in-List-clause-quiet
returns-in-List-clause-quiet c = λ lists paths may before. c.write_salvaged.ensures.quiet paths (c.in_ok-bytes.ensures.quiet paths may before)
