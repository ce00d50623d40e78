use Rattle.std.proofs.Common.{ℕ, ◌<◌}
use Rattle.fork_bytes.specs.Fork.{map_of}
use Rattle.fork_salvage.specs.Fault.{EndsWithin}
use Rattle.fork_salvage.proofs.first.find_list.Given as goal

-- all lists so far end within the map
abbrev pub invariant-loop-i : goal.invariant-loop-i
invariant-loop-i l = (k : ℕ) → k < l.i → EndsWithin (map_of l.fork) k
