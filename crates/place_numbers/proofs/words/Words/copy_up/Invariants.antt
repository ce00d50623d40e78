use Rattle.std.proofs.Common.{◌≡◌, ◌+◌, ◌-◌, ◌≤◌}
use Rattle.place_numbers.specs.Shifted.{copied}
use Rattle.place_numbers.proofs.words.Words.copy_up.Given as goal

-- the last marks are copied
abbrev pub invariant-loop-left : goal.invariant-loop-left
invariant-loop-left l = record {
  within : l.left ≤ l.count;
  moved : l.self ≡ copied (l.from + l.left) (l.to + l.left) (l.count - l.left) l.fn.self;
}

abbrev pub decreases-loop-left : goal.decreases-loop-left
decreases-loop-left l = l.left
