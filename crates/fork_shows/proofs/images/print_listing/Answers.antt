use Rattle.fork_shows.proofs.images.print_listing.Goals as goal

pub returns-in_err-write_lines : goal.returns-in_err-write_lines
returns-in_err-write_lines c = record { quiet = λ paths before. c.write_lines.ensures.quiet paths (c.loop-at.invariant paths before) }

pub loop-at-preserved : goal.loop-at-preserved
loop-at-preserved c = λ paths before. c.write_lines.ensures.quiet paths (c.loop-at.invariant paths before)
