use Rattle.fork_shows.proofs.several.write_lines.Goals as goal

pub returns-in_ok-write_title-in-BeforeFiles : goal.returns-in_ok-write_title-in-BeforeFiles
returns-in_ok-write_title-in-BeforeFiles c = record { quiet = λ paths before. c.print.ensures.quiet paths (c.in_ok-write_title-in-BeforeFiles.ensures.quiet paths before) }
