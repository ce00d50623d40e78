use Rattle.fork_shows.proofs.images.print_images.Goals as goal

pub returns-in_err-print_listing-in-Some : goal.returns-in_err-print_listing-in-Some
returns-in_err-print_listing-in-Some g c = record { quiet = λ paths may before. c.print_listing.ensures.quiet paths (c.in_ok-listing.ensures.quiet paths may before) }

pub returns-in_ok-print_listing-in-Some : goal.returns-in_ok-print_listing-in-Some
returns-in_ok-print_listing-in-Some g c = record { quiet = λ paths may before. c.print_listing.ensures.quiet paths (c.in_ok-listing.ensures.quiet paths may before) }
