use Rattle.std.proofs.Common.{◌+◌, length, take, ap, arith}
use Rattle.raw_region.specs.State.{State}
use Rattle.raw_region.proofs.Noted.{differ-written, front-short}
use Rattle.raw_region.proofs.region.Region.bytes_mut.Goals as goal

pub invariant_of-self-lent : goal.invariant_of-self-lent
invariant_of-self-lent c w =
    let at = c.args.at in let n = c.args.n in let cells = c.self.inside.cells in let long = ap (λ (s : State). length s.bytes) c.self.view_is in
    let inside = c.requires.inside in let short = front-short n w in (
      c.self.invariant.0,
      c.self.invariant.1,
      differ-written c.self.inside.noted c.add.new.self cells.home.1 cells.bytes (record { start = at; end = at + n }) at (take n w) c.self.invariant.2 c.add.ensures
          (omega arith) (omega arith) (omega arith),
    )
