use Rattle.std.proofs.Common.{◌≡◌, ◌++◌}
use Rattle.fork_salvage.specs.Faults.{entries_faults}
use Rattle.fork_salvage.specs.Plans.{AreFirsts}
use Rattle.fork_salvage.proofs.check.push_entries.Given as goal

-- the entries so far are noted; the faults so far, and those of the entries that are left
abbrev pub invariant-loop-i : goal.invariant-loop-i
invariant-loop-i l = record {
  firsts : AreFirsts l.firsts l.map l.types l.i;
  so_far : l.faults.items ++ entries_faults l.part l.map l.types l.i ≡ l.initial.faults.items ++ entries_faults l.part l.map l.types 0;
}
