use Rattle.std.proofs.Common.{◌≡◌, ℕ, List, drop}
use Rattle.fork_journal.specs.Leaving.{left_by, AreLeft}
use Rattle.fork_journal.proofs.leaving.side_left.Given as goal

-- what is left after the calls that follow is left after all of them, and by the choices too
abbrev pub invariant-loop-index : goal.invariant-loop-index
invariant-loop-index l =
    ((end : List ℕ) → AreLeft l.side (drop l.index l.calls) l.now.read.items l.now.left.items end → AreLeft l.side l.calls l.first l.first end)
    × (left_by l.side (drop l.index l.calls) (drop l.index l.choices) l.now.read.items l.now.left.items ≡ left_by l.side l.calls l.choices l.first l.first)
