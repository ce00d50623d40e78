use Rattle.std.proofs.Common.{◌≡◌, length}
use Rattle.mac_base.specs.ZoneState.{with_heap}
use Rattle.mac_base.specs.LoanStep.{all_returned}
use Rattle.held_calls.specs.Holding.{Holds, loans_of}
use Rattle.held_calls.proofs.lending.take_all_back.Given as goal

-- what is left is held, and comes back as it would have at the start
abbrev pub invariant-loop-block : goal.invariant-loop-block
invariant-loop-block l = record {
  holds : Holds l.memory l.loans;
  zone : with_heap (all_returned (loans_of l.loans) l.memory.heap) l.memory ≡ with_heap (all_returned (loans_of l.fn.loans) l.fn.memory.heap) l.fn.memory;
}

-- the loans that are left
abbrev pub decreases-loop-block : goal.decreases-loop-block
decreases-loop-block l = length l.loans
