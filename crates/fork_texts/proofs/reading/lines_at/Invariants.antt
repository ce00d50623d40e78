use Rattle.std.proofs.Common.{◌≡◌, ◌-◌, length, []}
use Rattle.fork_texts.specs.Reading.{after_lines, lines_from}
use Rattle.fork_texts.proofs.reading.lines_at.Given as goal

-- with what is left, the lines so far are all
abbrev pub invariant-loop-turn : goal.invariant-loop-turn
invariant-loop-turn l = lines_from (length l.text - l._turn) l.lines.items l.rest ≡ lines_from (length l.text) [] (after_lines l.text)
