use Rattle.std.proofs.Common.{◌∙◌}
use Rattle.zone_heap.proofs.Counting.{found-some}
use Rattle.zone_heap.proofs.fitting.some_gap_has.Goals as goal

pub returns-clause-room : goal.returns-clause-room
returns-clause-room c = c.is_some.ensures ∙ found-some c.args.zone.now c.args.needed c.lowest_gap.result c.lowest_gap.ensures.found
