use Rattle.disk_ranges.proofs.Parts.{HasParts}
use Rattle.disk_ranges.proofs.nested.parts_of.Given as goal

abbrev pub invariant-loop-range : goal.invariant-loop-range
invariant-loop-range l = HasParts l.outer l.fn.inner l.parts.items l.range-index l.skipped l.left
