use Rattle.std.proofs.Common.{◌≡◌, ◌-◌, suc, length, []}
use Rattle.std.specs.List.{push}
use Rattle.fork_rez.specs.Reading.{many, unit_at}
use Rattle.fork_rez.proofs.quoted.quoted_at.Given as goal

-- with what is left, the bytes so far are all
abbrev pub invariant-loop-turn : goal.invariant-loop-turn
invariant-loop-turn l =
    many push (unit_at l.quotes) (suc (length l.text) - l._turn) l.bytes.items l.rest ≡ many push (unit_at l.quotes) (suc (length l.text)) [] l.text
