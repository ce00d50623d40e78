use Rattle.std.proofs.Common.{refl}
use Rattle.zone_records.proofs.Held.{held-now}
use Rattle.zone_records.proofs.Structures.{structure-head_is, agrees}
use Rattle.zone_records.proofs.records.Records.agreement.Goals as goal

pub returns-then-not-has_head : goal.returns-then-not-has_head
returns-then-not-has_head c has =
    let held = held-now c.self.invariant c.self.view_is in
    let head = c.if-not-has_head.ensures.1 (structure-head_is c.self.inside.blocks c.args.bytes.now _ held has) in
    absurd (cc head)

pub returns : goal.returns
returns c =
    let held = held-now c.self.invariant c.self.view_is in
    agrees c.self.inside.blocks c.args.bytes.now _ held c.compare_all.result (c.if-not-has_head.ensures.0 refl) c.compare_all.ensures
