use Rattle.std.proofs.Common.{length}
use Rattle.fork_texts.proofs.kinds.+numbers_then.Given as goal

abbrev pub decreases-numbers_then : goal.decreases-numbers_then
decreases-numbers_then l = length l.widths.now
