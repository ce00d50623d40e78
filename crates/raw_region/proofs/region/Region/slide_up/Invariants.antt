use Rattle.std.proofs.Common.{◌≡◌, ◌+◌, ◌≤◌, length, ◌-◌}
use Rattle.raw_region.specs.Bytes.{part, written}
use Rattle.raw_region.proofs.region.Region.slide_up.Given as goal

-- the last bytes have moved
abbrev pub invariant-loop-left : goal.invariant-loop-left
invariant-loop-left l = (l.left ≤ l.n) × (l.self.bytes ≡ written l.initial.self.bytes (l.to + l.left) (part l.initial.self.bytes (l.from + l.left) (l.n - l.left)))
    × (length l.self.bytes ≡ length l.initial.self.bytes) × (l.self.name ≡ l.initial.self.name) × (l.self.lent ≡ l.initial.self.lent)

abbrev pub decreases-loop-left : goal.decreases-loop-left
decreases-loop-left l = l.left
