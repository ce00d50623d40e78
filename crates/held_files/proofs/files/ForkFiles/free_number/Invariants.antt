use Rattle.std.proofs.Common.{◌≡◌, ℕ, ◌<◌, ◌≤◌, true}
use Rattle.res_table.specs.OpenFiles.{is_open}
use Rattle.held_files.proofs.files.ForkFiles.free_number.Given as goal

-- a file of each number before is open
abbrev pub invariant-loop-number : goal.invariant-loop-number
invariant-loop-number l = (k : ℕ) → 1 ≤ k → k < l.number → is_open k l.self.files ≡ true
