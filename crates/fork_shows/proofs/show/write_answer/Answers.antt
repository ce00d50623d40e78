use Rattle.fork_shows.proofs.show.write_answer.Goals as goal

pub returns-clause-quiet : goal.returns-clause-quiet
returns-clause-quiet g c = λ none paths may before. c.write_to.ensures.quiet none paths (c.in_ok-answered.ensures.quiet paths may before)
