use Rattle.std.proofs.Common.{List, subst}
use Rattle.std.specs.List.Sorted.{IsPermutation}
use Rattle.fork_answer.specs.Warnings.{Extent}
use Rattle.fork_answer.proofs.warning.extents.Goals as goal

pub returns : goal.returns
returns c =
    let P : List Extent → Type 0 = λ found. IsPermutation found c.sort.new.self.items in
    record { same = subst P c.in_ok-extents.ensures c.sort.ensures.permutation; sorted = c.in_ok-sort.ensures.sorted }
