use Rattle.std.proofs.Common.{◌≡◌, ◌-◌, length, []}
use Rattle.fork_texts.specs.Reading.{run_at}
use Rattle.fork_texts.proofs.reading.bytes_at.Given as goal

-- with what is left, the bytes so far are all
abbrev pub invariant-loop-turn : goal.invariant-loop-turn
invariant-loop-turn l = run_at l.stop (length l.text - l._turn) l.bytes.items l.rest ≡ run_at l.stop (length l.text) [] l.text
