use Rattle.std.proofs.Common.{◌≡◌, ◌≤◌, ◌-◌, ◌++◌, map, take, drop, length}
use Rattle.res_table.specs.OpenFiles.{file_forgotten}
use Rattle.res_table.proofs.chain.Chain.forget.Given as goal

-- the files so far have forgotten the handle, and the others are as they were
abbrev pub invariant-loop-at : goal.invariant-loop-at
invariant-loop-at g l = (l.self-inside.files.items ≡ map (file_forgotten l.handle) (take l.at l.fn.self.files) ++ drop l.at l.fn.self.files)
    × (l.self-inside.current ≡ l.fn.self.current) × (length l.self-inside.files.items ≡ length l.fn.self.files) × (l.at ≤ length l.fn.self.files)

abbrev pub decreases-loop-at : goal.decreases-loop-at
decreases-loop-at g l = length l.self-inside.files.items - l.at
