use Rattle.std.proofs.Common.{◌∙◌}
use Rattle.zone_records.proofs.Held.{held-now}
use Rattle.zone_records.proofs.Placing.{free-block, free-is, free-size}
use Rattle.zone_records.proofs.records.Records.free_size.Goals as goal

pub free_size-requires : goal.free_size-requires
free_size-requires c =
    let held = held-now c.self.invariant c.self.view_is in
    record { block = (free-block _ _ held c.args.at c.requires).block; free = free-is _ _ held c.args.at c.requires }

pub returns : goal.returns
returns c f =
    let held = held-now c.self.invariant c.self.view_is in
    c.free_size.ensures (record { block = (free-block _ _ held c.args.at f).block; free = free-is _ _ held c.args.at f }) ∙ free-size _ _ held c.args.at f
