use Rattle.std.proofs.Common.{◌≡◌, [], take}
use Rattle.held_calls.specs.Holding.{held_at}
use Rattle.held_calls.proofs.loans.first_block.Given as goal

-- the places so far are free
abbrev pub invariant-loop-held : goal.invariant-loop-held
invariant-loop-held l = held_at (take l.held-index l.places) ≡ []
