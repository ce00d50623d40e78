use Rattle.std.proofs.Common.{rules}
use Rattle.std.proofs.lemmas.List.Sorted.{IsPartitionPoint-from_clause}
use Rattle.res_table.specs.declared.keyed.Pair.{Pair}
use Rattle.res_table.specs.Keyed.{is_before}
use Rattle.res_table.proofs.Pairs.{partitioned, rank_is}
use Rattle.res_table.proofs.keyed.rank_by_halving.Goals as goal

pub returns : goal.returns
returns c =
    let x = c.args.pair in let ps = c.args.pairs.now in
    let point = IsPartitionPoint-from_clause (λ (p : Pair). is_before p x) ps c.partition_point.result c.partition_point.ensures.partitioned (partitioned x ps c.requires) (λ a r q k. search rules) in
    rank_is x ps c.partition_point.result c.partition_point.ensures.bound (λ k d below. point.0 k d (search rules) below) (λ k d least below. point.1 k d least below)
