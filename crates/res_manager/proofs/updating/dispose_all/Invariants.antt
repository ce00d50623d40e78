use Rattle.std.proofs.Common.{◌≡◌, ◌-◌, length, drop}
use Rattle.linked_zone.specs.Loans.{KeepsLoans}
use Rattle.res_update.specs.Changes.{rows_of}
use Rattle.res_update.specs.Updates.{disposed, handles_of}
use Rattle.res_manager.proofs.updating.dispose_all.Given as goal

-- what is left to be disposed of leads to the same heap
abbrev pub invariant-loop-found : goal.invariant-loop-found
invariant-loop-found g l = record {
  heap : disposed l.fn.memory.shape (handles_of (drop l.from (rows_of l.number l.files.files))) l.memory.heap ≡ disposed l.fn.memory.shape (handles_of (rows_of l.number l.files.files)) l.fn.memory.heap;
  shape : l.memory.shape ≡ l.fn.memory.shape;
  loans : KeepsLoans l.fn.memory l.memory;
}

-- the rows that are left
abbrev pub decreases-loop-found : goal.decreases-loop-found
decreases-loop-found g l = length (rows_of l.number l.files.files) - l.from
