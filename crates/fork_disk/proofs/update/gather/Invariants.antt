use Rattle.std.proofs.Common.{◌≡◌, drop}
use Rattle.fork_disk.specs.Fork.{gathered}
use Rattle.fork_disk.proofs.update.gather.Given as goal

-- the ranges so far are in the new fork, and the store is as it was, where it is still honest
abbrev pub invariant-loop-range : goal.invariant-loop-range
invariant-loop-range g l =
    (g.S.ForkStore.is_honest l.store → g.S.ForkStore.is_honest l.initial.store)
    × (g.S.ForkStore.failures l.store ≡ g.S.ForkStore.failures l.initial.store)
    × (g.S.ForkStore.is_honest l.store → (g.S.ForkStore.fork l.store ≡ g.S.ForkStore.fork l.initial.store))
    × (g.S.ForkStore.is_honest l.store → g.S.ForkStore.is_ready l.store)
    × (g.S.ForkStore.is_honest l.store → g.S.ForkStore.is_stable l.initial.store → g.S.ForkStore.is_stable l.store)
    × (g.S.ForkStore.is_honest l.store → (g.S.ForkStore.history l.store ≡ g.S.ForkStore.history l.initial.store))
    × (g.S.ForkStore.is_honest l.store →
    gathered (g.S.ForkStore.fork l.initial.store) (drop l.range-index l.kept) l.fork ≡ gathered (g.S.ForkStore.fork l.initial.store) l.kept l.initial.fork)
