use Rattle.std.proofs.Common.{◌≡◌, ℕ, ◌+◌, ◌-◌, ◌/◌, ◌<◌, get_or}
use Rattle.std.specs.Int.{bit_at}
use Rattle.place_numbers.specs.Bits.{HasMark}
use Rattle.place_numbers.proofs.words.Words.used.Given as goal

-- the first bits say it
abbrev pub invariant-loop-done : goal.invariant-loop-done
invariant-loop-done l = record {
  some : (i : ℕ) → i < l.done → bit_at l.used i ≡ 1 → HasMark l.self (l.word + i);
  none : (i : ℕ) → i < l.done → bit_at l.used i ≡ 0 → (j : ℕ) → j / 64 ≡ l.word + i → get_or l.self j 0 < 1;
}

abbrev pub decreases-loop-done : goal.decreases-loop-done
decreases-loop-done l = l.count - l.done
