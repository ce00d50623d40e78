use Rattle.std.proofs.Common.{◌≡◌, ◌++◌, map, length}
use Rattle.std.specs.Vec.Iter.{into_iter_items, into_iter_len}
use Rattle.run_stores.specs.declared.stores.AnyStore.TheVariants.{Journalled}
use Rattle.run_stores.proofs.stores.close_journalled.Given as goal

-- what was closed, and what is left to be
abbrev pub invariant-loop-store : goal.invariant-loop-store
invariant-loop-store g l = (g.O.Opens.closed l.opener ++ map Journalled (into_iter_items l.left) ≡ g.O.Opens.closed l.fn.opener ++ map Journalled l.fn.stores.items)
    × (g.O.Opens.openings l.opener ≡ g.O.Opens.openings l.fn.opener)
    × (into_iter_len l.left ≡ length (into_iter_items l.left))

abbrev pub decreases-loop-store : goal.decreases-loop-store
decreases-loop-store g l = into_iter_len l.left
