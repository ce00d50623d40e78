use Rattle.std.proofs.Common.{arith}
use Rattle.zone_index.proofs.Fronts.{entry-high}
use Rattle.zone_index.proofs.zone.IndexedZone.page.Goals as goal

pub page_at-requires : goal.page_at-requires
page_at-requires c = record {
  low = (let place = c.requires.place in omega arith);
  high = (let high = entry-high c.args.self.now c.args.at c.requires in omega arith);
}
