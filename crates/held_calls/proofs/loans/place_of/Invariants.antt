use Rattle.std.proofs.Common.{take, IsFalse}
use Rattle.held_calls.specs.Holding.{held_at, is_held}
use Rattle.held_calls.proofs.loans.place_of.Given as goal

-- the block's loan is at none of the places so far
abbrev pub invariant-loop-place : goal.invariant-loop-place
invariant-loop-place l = IsFalse (is_held l.block (held_at (take l.place l.places)))
