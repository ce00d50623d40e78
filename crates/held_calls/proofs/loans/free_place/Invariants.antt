use Rattle.std.proofs.Common.{◌≡◌, ◌-◌, length, take}
use Rattle.held_calls.specs.Holding.{held_at}
use Rattle.held_calls.proofs.loans.free_place.Given as goal

-- there is a loan at each place so far
abbrev pub invariant-loop-place : goal.invariant-loop-place
invariant-loop-place l = length (held_at (take l.place l.places)) ≡ l.place

abbrev pub decreases-loop-place : goal.decreases-loop-place
decreases-loop-place l = length l.places - l.place
