use Rattle.std.proofs.Common.{arith}
use Rattle.zone_index.proofs.Fronts.{entry-high}
use Rattle.zone_index.proofs.zone.IndexedZone.leaf.Goals as goal

pub leaf_at-requires : goal.leaf_at-requires
leaf_at-requires c = record {
  low = (let place = c.requires.place in omega arith);
  high = (let high = entry-high c.args.self.now c.args.at c.requires in omega arith);
}
