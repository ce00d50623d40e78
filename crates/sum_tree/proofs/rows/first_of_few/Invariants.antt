use Rattle.std.proofs.Common.{◌≡◌, IsFalse}
use Rattle.sum_tree.specs.Monoids.{sum_of}
use Rattle.sum_tree.proofs.rows.first_of_few.Given as goal

abbrev pub invariant-loop-at : goal.invariant-loop-at
invariant-loop-at g l =
    let m = g.M.Monoid in
    record {
      sum_is : l.sum ≡ sum_of m.empty m.op l.items 0 l.at;
      fails : IsFalse (g.T.Test.passes l.test l.sum);
    }
