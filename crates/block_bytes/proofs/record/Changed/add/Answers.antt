use Rattle.std.proofs.Common.{◌≡◌, inr, length, refl, arith}
use Rattle.std.proofs.lemmas.List.{take_more_set}
use Rattle.block_bytes.proofs.Noted.{adds-range}
use Rattle.block_bytes.proofs.record.Changed.add.Goals as goal

pub returns-then-has : goal.returns-then-has
returns-then-has c = record { stay = λ i noted. noted; now = λ i low high. inr (c.has.ensures c.if-has.true i low high); within = λ most fits all. all }

pub returns-then-count-le-MOST_BYTES : goal.returns-then-count-le-MOST_BYTES
returns-then-count-le-MOST_BYTES c = let old = c.args.self.now in let long : length old.ranges ≡ 32 = omega arith in
    adds-range old _ c.args.start c.args.count refl (take_more_set old.ranges old.len (record { start = c.args.start; count = c.args.count }) (omega arith))
