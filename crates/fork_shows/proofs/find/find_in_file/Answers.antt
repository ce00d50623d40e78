use Rattle.fork_shows.proofs.find.find_in_file.Goals as goal

pub returns : goal.returns
returns c = record { quiet = λ paths may before. c.find_in_bytes.ensures.quiet paths (c.in_ok-bytes.ensures.quiet paths may before) }
