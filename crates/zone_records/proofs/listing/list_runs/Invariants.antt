use Rattle.std.proofs.Common.{◌≡◌, ◌-◌, ◌≤◌, length}
use Rattle.raw_region.specs.Runs.{noted}
use Rattle.zone_records.proofs.Listed.{AreListed}
use Rattle.zone_records.proofs.listing.list_runs.Given as goal

-- what lies before is listed
abbrev pub invariant-loop-run : goal.invariant-loop-run
invariant-loop-run l = (l.from ≤ l.all) × (l.count ≤ length l.ranges) × (length l.ranges ≡ length l.initial.ranges) × AreListed (noted l.runs) l.from l.count l.ranges

abbrev pub decreases-loop-run : goal.decreases-loop-run
decreases-loop-run l = l.all - l.from
