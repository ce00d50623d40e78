use Rattle.std.proofs.Common.{◌≡◌, take}
use Rattle.mac_base.specs.ZoneState.{with_heap}
use Rattle.held_calls.specs.Holding.{Holds, loans_of}
use Rattle.held_zone.specs.Asleep.{new_loans, with_these_lent}
use Rattle.held_zone.proofs.lending_again.lend_all.Given as goal

-- the blocks so far are lent
abbrev pub invariant-loop-block : goal.invariant-loop-block
invariant-loop-block l = record {
  holds : Holds l.memory l.loans;
  zone : l.memory ≡ with_heap (with_these_lent (take l.block-index l.blocks) l.fn.memory.heap) l.fn.memory;
  loans : loans_of l.loans ≡ new_loans l.fn.memory.heap.table (take l.block-index l.blocks);
}
