use Rattle.std.proofs.Common.{ℕ, List, take, map}
use Rattle.std.specs.Borrow.{Bor}
use Rattle.fork_folder.specs.Added.{AreAdded}
use Rattle.fork_folder.proofs.added.with_added.Given as goal

-- those of the paths so far are added
abbrev pub invariant-loop-path : goal.invariant-loop-path
invariant-loop-path l = AreAdded (map (λ (path : Bor (List ℕ)). path.now) (take l.path-index l.paths)) l.initial.entries.items l.entries.items
