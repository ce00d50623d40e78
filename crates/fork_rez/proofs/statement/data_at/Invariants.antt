use Rattle.std.proofs.Common.{◌≡◌, ◌-◌, ◌++◌, suc, length, []}
use Rattle.fork_rez.specs.Reading.{many, string_at}
use Rattle.fork_rez.proofs.statement.data_at.Given as goal

-- with what is left, the bytes so far are all
abbrev pub invariant-loop-turn : goal.invariant-loop-turn
invariant-loop-turn l =
    many (λ so_far one. so_far ++ one) string_at (suc (length l.text) - l._turn) l.bytes.items l.rest
    ≡ many (λ so_far one. so_far ++ one) string_at (suc (length l.text)) [] l.text
