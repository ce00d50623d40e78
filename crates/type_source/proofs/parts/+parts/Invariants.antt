use Rattle.std.proofs.Common.{◌+◌, ◌*◌}
use Rattle.type_source.proofs.parts.+parts.Given as goal

abbrev pub decreases-fields : goal.decreases-fields
decreases-fields l = 6 * l.depth

abbrev pub decreases-row : goal.decreases-row
decreases-row l = 6 * l.depth + 1

abbrev pub decreases-braced : goal.decreases-braced
decreases-braced l = 6 * l.depth + 2

abbrev pub decreases-keyed : goal.decreases-keyed
decreases-keyed l = 6 * l.depth + 2

abbrev pub decreases-counted : goal.decreases-counted
decreases-counted l = 6 * l.depth + 3

abbrev pub decreases-array_at : goal.decreases-array_at
decreases-array_at l = 6 * l.depth + 3

abbrev pub decreases-cases : goal.decreases-cases
decreases-cases l = 6 * l.depth + 3

abbrev pub decreases-switch_at : goal.decreases-switch_at
decreases-switch_at l = 6 * l.depth + 4

abbrev pub decreases-number_piece : goal.decreases-number_piece
decreases-number_piece l = 6 * l.depth + 4

abbrev pub decreases-piece_at : goal.decreases-piece_at
decreases-piece_at l = 6 * l.depth + 5
