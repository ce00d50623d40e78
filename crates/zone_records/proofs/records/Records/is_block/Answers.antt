use Rattle.zone_records.proofs.Held.{held-now}
use Rattle.zone_records.proofs.Looking.{of-record, of-block}
use Rattle.zone_records.proofs.records.Records.is_block.Goals as goal

pub returns : goal.returns
returns c =
    let held = held-now c.self.invariant c.self.view_is in
    (λ is. of-block _ _ held c.args.at (c.is_block.ensures.0 is), λ r. c.is_block.ensures.1 (of-record _ _ held c.args.at r).block)
