use Rattle.std.proofs.Common.{◌≡◌, ◌+◌, ◌≤◌, ◌++◌, map, length}
use Rattle.std.specs.Vec.{vec_capacity}
use Rattle.std.specs.Vec.Iter.{into_iter_items, into_iter_len}
use Rattle.run_stores.specs.Stores.{ArePaired}
use Rattle.run_stores.proofs.stores.pairs_on.Given as goal

-- the stores of the pairs so far, and the pairs that are left
abbrev pub invariant-loop-pair : goal.invariant-loop-pair
invariant-loop-pair g l = (l.yielded ++ into_iter_items l.pair-iterator ≡ into_iter_items l.initial.pair-iterator)
    × ArePaired g.O.Opens.pairs 0 (map (λ pair. pair.0) l.yielded) (map (λ pair. pair.1) l.yielded) l.stores.items
    × (length l.stores.items ≡ length l.yielded)
    × (into_iter_len l.pair-iterator ≡ length (into_iter_items l.pair-iterator))
    × (length l.yielded + into_iter_len l.pair-iterator ≤ vec_capacity l.stores)
