use Rattle.fork_shows.proofs.report.report_one.Goals as goal

pub returns-in-Ok-clause-quiet : goal.returns-in-Ok-clause-quiet
returns-in-Ok-clause-quiet g c = λ paths may before. c.print_told.ensures.quiet paths (c.in-Ok.ensures.quiet paths may before)

pub returns-in-Err-clause-quiet : goal.returns-in-Err-clause-quiet
returns-in-Err-clause-quiet g c = λ paths may before. c.refused.ensures.quiet paths (c.in-Err.ensures.quiet paths may before)
