use Rattle.zone_records.proofs.Held.{held-now}
use Rattle.zone_records.proofs.Headers.{mine, length-free, length-said, not-free}
use Rattle.zone_records.proofs.records.Records.length_at.Goals as goal

pub entry_at-header-requires : goal.entry_at-header-requires
entry_at-header-requires c = mine _ _ (held-now c.self.invariant c.self.view_is) c.args.at c.requires

pub overflow_sub-result : goal.overflow_sub-result
overflow_sub-result c =
    (length-said _ _ (held-now c.self.invariant c.self.view_is) c.args.at c.requires c.entry_at-header.result c.head_size.result c.entry_at-header.ensures c.head_size.ensures (not-free _ c.in-Fixed.is)).0

pub overflow_sub-result-in-Fixed : goal.overflow_sub-result-in-Fixed
overflow_sub-result-in-Fixed c =
    (length-said _ _ (held-now c.self.invariant c.self.view_is) c.args.at c.requires c.entry_at-header.result c.head_size.result c.entry_at-header.ensures c.head_size.ensures (not-free _ c.in-Fixed.is)).1

pub returns-in-Free : goal.returns-in-Free
returns-in-Free c r =
    length-free _ _ (held-now c.self.invariant c.self.view_is) c.args.at r c.entry_at-header.result c.entry_at-header.ensures c.in-Free.is

pub returns-in-Fixed : goal.returns-in-Fixed
returns-in-Fixed c r =
    (length-said _ _ (held-now c.self.invariant c.self.view_is) c.args.at r c.entry_at-header.result c.head_size.result c.entry_at-header.ensures c.head_size.ensures (not-free _ c.in-Fixed.is)).2
