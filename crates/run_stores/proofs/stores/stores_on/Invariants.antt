use Rattle.std.proofs.Common.{◌≡◌, ◌+◌, ◌≤◌, ◌++◌, length}
use Rattle.std.specs.Vec.{vec_capacity}
use Rattle.std.specs.Vec.Iter.{into_iter_items, into_iter_len}
use Rattle.run_stores.specs.Stores.{AreOn}
use Rattle.run_stores.proofs.stores.stores_on.Given as goal

-- the stores of the forks so far, and the forks that are left
abbrev pub invariant-loop-fork : goal.invariant-loop-fork
invariant-loop-fork g l = (l.yielded ++ into_iter_items l.fork-iterator ≡ into_iter_items l.initial.fork-iterator)
    × AreOn g.O.Opens.plain 0 l.yielded l.stores.items
    × (length l.stores.items ≡ length l.yielded)
    × (into_iter_len l.fork-iterator ≡ length (into_iter_items l.fork-iterator))
    × (length l.yielded + into_iter_len l.fork-iterator ≤ vec_capacity l.stores)
