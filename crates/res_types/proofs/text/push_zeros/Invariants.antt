use Rattle.std.proofs.Common.{◌≡◌, ◌++◌, replicate}
use Rattle.res_types.specs.Bits.{byte_bits}
use Rattle.res_types.proofs.text.push_zeros.Given as goal

abbrev pub invariant-loop-turn : goal.invariant-loop-turn
invariant-loop-turn l = l.bits.items ≡ l.initial.bits.items ++ byte_bits (replicate l._turn 0)
