use Rattle.std.proofs.Common.{◌≡◌, length, arith}
use Rattle.block_bytes.proofs.Noted.{in-at}
use Rattle.block_bytes.proofs.record.Changed.has.Goals as goal

pub returns-then-has : goal.returns-then-has
returns-then-has c = λ yes i low high.
    let test = c.loop-i-test.true in let end = c.min-i-end.ensures in let long : length c.args.self.now.ranges ≡ 32 = omega arith in let inside = c.has.ensures c.if-has.true in let first = inside.0 in let last = inside.1 in
    in-at c.args.self.now.ranges c.args.self.now.len c.loop-i.i (record { start = 0; count = 0 }) i (omega arith) (omega arith) (omega arith) (omega arith)
