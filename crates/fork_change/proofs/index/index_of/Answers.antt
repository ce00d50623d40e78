use Rattle.std.proofs.Common.{◌<◌, ◌^◌, length, rules}
use Rattle.fork_change.specs.Rows.{id_of}
use Rattle.fork_change.proofs.Indexed.{few}
use Rattle.fork_change.proofs.index.index_of.Goals as goal

pub count_row-requires : goal.count_row-requires
count_row-requires c =
    let small : length c.args.rows.now < 2 ^ 63 = search rules in
    record { few = few c.loop-at.counts c.args.rows.now c.loop-at.at (id_of c.index-rows-at.result) c.loop-at.invariant.1 small }
