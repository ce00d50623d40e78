use Rattle.std.proofs.Common.{◌∙◌, arith}
use Rattle.zone_records.specs.Places.{CanHold}
use Rattle.zone_records.specs.Fitting.{CanKeep}
use Rattle.zone_records.proofs.Fitted.{held_record, held-all, length-held}
use Rattle.zone_records.proofs.records.Records.hold.Goals as goal

-- all bytes can be kept
keep : (c : goal.After-fit-arg-1) → (can : CanHold c.args.self.now c.args.at c.args.size c.args.length) → CanKeep c.args.self.now c.args.at c.args.size c.args.length c.length_at-kept.result
keep c can = record {
  can = can;
  few = (let kept = c.length_at-kept.ensures (held_record c.args.self.now c.args.at can.held) ∙ length-held can.held.content can.held.held in omega arith);
}

pub fit-requires : goal.fit-requires
fit-requires c = keep c c.requires

pub returns : goal.returns
returns c can = let kept = c.length_at-kept.ensures (held_record c.args.self.now c.args.at can.held) in
    c.fit.ensures (record { can = can; few = (let all = length-held can.held.content can.held.held in omega arith) }) ∙ held-all c.args.self.now c.args.at c.args.size c.args.length can c.length_at-kept.result kept
