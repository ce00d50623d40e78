use Rattle.std.proofs.Common.{◌∙◌}
use Rattle.zone_records.proofs.Held.{held-now}
use Rattle.zone_records.proofs.Holding.{held-block, held-bytes}
use Rattle.zone_records.proofs.records.Records.contents.Goals as goal

pub contents-requires : goal.contents-requires
contents-requires c = held-block _ _ (held-now c.self.invariant c.self.view_is) c.args.at c.requires

pub returns : goal.returns
returns c h =
    let held = held-now c.self.invariant c.self.view_is in
    c.contents.ensures (held-block _ _ held c.args.at h).block ∙ held-bytes _ _ held c.args.at h
