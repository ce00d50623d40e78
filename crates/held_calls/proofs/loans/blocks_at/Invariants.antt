use Rattle.std.proofs.Common.{◌≡◌, ◌≤◌, length, take}
use Rattle.held_calls.specs.Holding.{blocks_of, held_at}
use Rattle.held_calls.proofs.loans.blocks_at.Given as goal

-- the blocks so far are those of the loans at the places so far
abbrev pub invariant-loop-place : goal.invariant-loop-place
invariant-loop-place l = (l.blocks.items ≡ blocks_of (held_at (take l.place-index l.places))) × (length l.blocks.items ≤ l.place-index)
