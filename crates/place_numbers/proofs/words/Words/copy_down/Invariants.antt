use Rattle.std.proofs.Common.{◌≡◌, ◌-◌, ◌≤◌}
use Rattle.place_numbers.specs.Shifted.{copied}
use Rattle.place_numbers.proofs.words.Words.copy_down.Given as goal

-- the first marks are copied
abbrev pub invariant-loop-done : goal.invariant-loop-done
invariant-loop-done l = record {
  within : l.done ≤ l.count;
  moved : l.self ≡ copied l.from l.to l.done l.fn.self;
}

abbrev pub decreases-loop-done : goal.decreases-loop-done
decreases-loop-done l = l.count - l.done
