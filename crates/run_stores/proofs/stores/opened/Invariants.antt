use Rattle.std.proofs.Common.{◌≡◌, List, [], ◌++◌, Ok, map, take}
use Rattle.run_stores.specs.Claiming.{AreNamed}
use Rattle.run_stores.specs.Stores.{Asked, Opening}
use Rattle.run_stores.proofs.stores.opened.Given as goal

-- the files of the paths so far
abbrev pub invariant-loop-path : goal.invariant-loop-path
invariant-loop-path g l =
    (openings : List (Opening g.row.F.Denot))
    × (g.O.Opens.openings l.opener ≡ g.O.Opens.openings l.fn.opener ++ openings)
    × Asked ([] ++ map (λ path. path.now) (take l.path-index l.paths)) (map Ok l.files.items) openings
    × AreNamed g.O.Opens.asking l.fn.naming [] ([] ++ map (λ path. path.now) (take l.path-index l.paths)) l.files.items
    × (l.known.items ≡ map g.O.Opens.asking.id l.files.items)
    × (g.O.Opens.closed l.opener ≡ g.O.Opens.closed l.fn.opener)
