use Rattle.std.proofs.Common.{◌≡◌, ℕ, ◌-◌, length, slice_get, Some}
use Rattle.zone_index.proofs.lengths.extend.Given as goal

-- nothing else is said than before
abbrev pub invariant-loop-places : goal.invariant-loop-places
invariant-loop-places l = (p n : ℕ) → slice_get l.places.items p ≡ Some (Some n) → slice_get l.fn.places.items p ≡ Some (Some n)

abbrev pub decreases-loop-places : goal.decreases-loop-places
decreases-loop-places l = l.end - length l.places.items
