use Rattle.std.proofs.Common.{◌≡◌, ◌++◌, [], List, Ok, map, length, take}
use Rattle.std.specs.Vec.Iter.{into_iter_items, into_iter_len}
use Rattle.run_stores.specs.Claiming.{AreNamed}
use Rattle.run_stores.specs.declared.claimed.Naming.TheVariants.{Once}
use Rattle.run_stores.specs.Stores.{Asked, Opening}
use Rattle.run_stores.proofs.stores.opened_pairs.Given as goal

-- the forks so far with their journals, and the forks that are left
abbrev pub invariant-loop-fork : goal.invariant-loop-fork
invariant-loop-fork g l =
    (openings : List (Opening g.row.F.Denot))
    × (g.O.Opens.openings l.opener ≡ g.O.Opens.openings l.fn.opener ++ openings)
    × Asked (map (λ path. path.now) l.paths ++ map (λ path. path.now) (take (length l.yielded) l.journals)) (map Ok (into_iter_items l.initial.fork-iterator ++ map (λ pair. pair.1) l.pairs.items)) openings
    × (l.yielded ++ into_iter_items l.fork-iterator ≡ into_iter_items l.initial.fork-iterator)
    × (map (λ pair. pair.0) l.pairs.items ≡ l.yielded)
    × (length l.pairs.items ≡ length l.yielded)
    × (into_iter_len l.fork-iterator ≡ length (into_iter_items l.fork-iterator))
    × AreNamed g.O.Opens.asking Once [] (map (λ path. path.now) l.paths ++ map (λ path. path.now) (take (length l.yielded) l.journals)) (into_iter_items l.initial.fork-iterator ++ map (λ pair. pair.1) l.pairs.items)
    × (l.known.items ≡ map g.O.Opens.asking.id (into_iter_items l.initial.fork-iterator ++ map (λ pair. pair.1) l.pairs.items))
    × (g.O.Opens.closed l.opener ≡ g.O.Opens.closed l.fn.opener)
