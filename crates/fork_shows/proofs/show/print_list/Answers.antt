use Rattle.fork_shows.proofs.show.print_list.Goals as goal

pub returns : goal.returns
returns g c = record { quiet = λ paths may before. c.write_lines.ensures.quiet paths (c.in_ok-answered.ensures.quiet paths may (c.in_ok-print_images.ensures.quiet paths may before)) }
