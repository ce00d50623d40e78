use Rattle.std.proofs.Common.{◌≡◌, ◌∷◌, not, take}
use Rattle.std.specs.List.{filter}
use Rattle.fork_salvage.proofs.check.with_first.Given as goal

-- the first, and of those so far those that are others
abbrev pub invariant-loop-other : goal.invariant-loop-other
invariant-loop-other g l = l.all.items ≡ l.first ∷ filter (λ other. not (g.T.PartialEq.eq other l.first)) (take l.other-index l.others)
