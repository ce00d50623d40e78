use Rattle.std.proofs.Common.{List, ℕ, subst, arith}
use Rattle.fork_salvage.specs.Plans.{AreDistinct}
use Rattle.fork_salvage.proofs.Conditions.{types_hold}
use Rattle.fork_salvage.proofs.first.find_same_type.Goals as goal

pub returns-in-None-clause-none : goal.returns-in-None-clause-none
returns-in-None-clause-none c =
    let types = c.args.plan.now.types in
    types_hold c.args.fork.now c.args.plan.now types.count c.requires (omega arith) (subst (λ (m : List ℕ). AreDistinct m types types.count) c.of-map.ensures c.in-None.ensures.none)
