use Rattle.std.proofs.Common.{◌∙◌, sym, ap, Ok}
use Rattle.disk_ranges.proofs.Whole.{length_is}
use Rattle.disk_ranges.proofs.disk.RangesDiskForkDisk.len.Goals as goal

pub returns-clause-value : goal.returns-clause-value
returns-clause-value g c = rw (← c.self.view_is) (λ honest.
    ap Ok (c.self.invariant.whole ∙ sym (length_is c.self.inside.ranges.items (g.D.ForkDisk.seen c.self.inside.disk) (c.self.invariant.inside honest))))
