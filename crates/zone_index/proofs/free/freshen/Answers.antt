use Rattle.std.proofs.Common.{◌∙◌}
use Rattle.zone_index.proofs.free.freshen.Goals as goal

pub freshen-requires-clause-fits : goal.freshen-requires-clause-fits
freshen-requires-clause-fits c ys mixed = tt

pub returns : goal.returns
returns c = record { places = c.freshen.ensures.count ∙ c.requires.places; right = c.freshen.ensures.right }
