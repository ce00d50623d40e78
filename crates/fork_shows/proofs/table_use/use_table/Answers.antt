use Rattle.fork_shows.proofs.table_use.use_table.Goals as goal

pub returns-clause-quiet : goal.returns-clause-quiet
returns-clause-quiet g c = λ reads paths may before. c.use_table_in.ensures.quiet reads paths (c.in_ok-bytes.ensures.quiet paths may before)
