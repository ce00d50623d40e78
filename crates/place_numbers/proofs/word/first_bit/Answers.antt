use Rattle.std.proofs.Common.{refl, ◌/◌, ◌^◌, arith, w64}
use Rattle.std.specs.Int.{trailing_zeros}
use Rattle.std.proofs.lemmas.Nat.{shr_le}
use Rattle.place_numbers.proofs.Marked.{first-bit, no-first-bit}
use Rattle.place_numbers.proofs.word.first_bit.Goals as goal

pub returns-then-rest-eq0-clause-none : goal.returns-then-rest-eq0-clause-none
returns-then-rest-eq0-clause-none c = no-first-bit c.args.word c.args.from c.if-rest-eq0.true

pub returns-else-rest-eq0-clause-first : goal.returns-else-rest-eq0-clause-first
returns-else-rest-eq0-clause-first c =
    let word = c.ranges.word in let fits = word.fits in let less = shr_le c.args.word c.args.from in let some = c.if-rest-eq0.false in
    first-bit c.args.word c.args.from (trailing_zeros w64 (c.args.word / 2 ^ c.args.from)) (omega arith) (omega arith) (omega arith) refl
