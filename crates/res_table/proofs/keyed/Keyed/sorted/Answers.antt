use Rattle.std.proofs.Common.{◌+◌, get_or, arith}
use Rattle.res_table.proofs.Sorting.{sorted_are, told_by_cmp}
use Rattle.res_table.proofs.keyed.Keyed.sorted.Goals as goal

pub returns : goal.returns
returns c =
    let ps = c.sort_unstable.new.self.items in
    sorted_are c.args.pairs.items ps c.sort_unstable.ensures.permutation (λ k d within. told_by_cmp (get_or ps (k + 1) d) (get_or ps k d) (c.sort_unstable.ensures.sorted k d (omega arith) within))
