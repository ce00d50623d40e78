use Rattle.std.proofs.Common.{drop}
use Rattle.std.specs.List.{AllByRecursion}
use Rattle.zone_records.specs.declared.structure.Agreement.{Agreement}
use Rattle.zone_records.specs.Structure.{Means, worse}
use Rattle.zone_records.specs.Written.{RangeAgrees, RangeSame}
use Rattle.zone_records.proofs.ranges.compare_ranges.Given as goal

-- with what an agreement means for the ranges that are left, this is one for all
abbrev pub invariant-loop-range : goal.invariant-loop-range
invariant-loop-range l =
    (r : Agreement) → Means r (AllByRecursion (RangeAgrees l.blocks l.bytes) (drop l.range-index l.ranges)) (AllByRecursion (RangeSame l.blocks l.bytes) (drop l.range-index l.ranges))
    → Means (worse l.agreement r) (AllByRecursion (RangeAgrees l.blocks l.bytes) l.ranges) (AllByRecursion (RangeSame l.blocks l.bytes) l.ranges)
