use Rattle.std.proofs.Common.{◌≡◌, ◌+◌, ◌∙◌, ap, sym, arith}
use Rattle.mac_base.specs.HeadKind.{zone_header}
use Rattle.zone_records.specs.Records.{ZoneRecords, total_of}
use Rattle.zone_records.proofs.Apart.{total-read}
use Rattle.zone_records.proofs.Held.{held-now, heads-is, base-is}
use Rattle.zone_records.proofs.records.Records.spec.Goals as goal

pub returns : goal.returns
returns c =
    let l = c.self.inside.blocks in
    let z = c.args.self.now in
    let held = held-now c.self.invariant c.self.view_is in
    let s = c.spec.result in
    let base : s.base ≡ l.base = c.spec.ensures.base in
    let low = c.spec.ensures.size in
    let high = c.spec.ensures.limit in
    let total = sym (total-read l.heads l.base l.blocks) ∙ ap (λ (z : ZoneRecords). total_of z.blocks) held.shows in
    let shape = ap (λ (z : ZoneRecords). z.shape.limit) held.shows in
    let size : s.size ≡ zone_header + total_of z.blocks = omega arith in
    let limit : s.limit ≡ z.shape.limit = omega arith in
    λ i. record { heads = (c.spec.ensures.heads ∙ heads-is _ _ held) i; base = (base ∙ base-is _ _ held) i; size = size i; limit = limit i }
