use Rattle.std.proofs.Common.{◌≡◌, ℕ, ◌<◌}
use Rattle.fork_salvage.specs.Salvage.{told_list}
use Rattle.fork_salvage.proofs.first.earlier_type.Given as goal

-- no entry so far has the type
abbrev pub invariant-loop-i : goal.invariant-loop-i
invariant-loop-i l = (k : ℕ) → k < l.i → (told_list l.map l.types k).kind ≡ (told_list l.map l.types l.index).kind → ⊥
