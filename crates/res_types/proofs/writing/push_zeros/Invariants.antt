use Rattle.std.proofs.Common.{◌≡◌, ◌++◌, false, replicate}
use Rattle.res_types.proofs.writing.push_zeros.Given as goal

abbrev pub invariant-loop-turn : goal.invariant-loop-turn
invariant-loop-turn l = l.bits.items ≡ l.initial.bits.items ++ replicate l._turn false
