use Rattle.std.proofs.Common.{◌-◌, ◌≡◌, ◌≤◌, length}
use Rattle.raw_region.specs.Bytes.{part, written}
use Rattle.raw_region.proofs.region.Region.slide_down.Given as goal

-- the first bytes have moved
abbrev pub invariant-loop-done : goal.invariant-loop-done
invariant-loop-done l = (l.done ≤ l.n) × (l.self.bytes ≡ written l.initial.self.bytes l.to (part l.initial.self.bytes l.from l.done))
    × (length l.self.bytes ≡ length l.initial.self.bytes) × (l.self.name ≡ l.initial.self.name) × (l.self.lent ≡ l.initial.self.lent)

abbrev pub decreases-loop-done : goal.decreases-loop-done
decreases-loop-done l = l.n - l.done
