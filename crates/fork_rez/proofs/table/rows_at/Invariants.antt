use Rattle.std.proofs.Common.{◌≡◌, ◌-◌, suc, length, []}
use Rattle.std.specs.List.{push}
use Rattle.fork_bytes.specs.Written.{plain_rows}
use Rattle.fork_rez.specs.Reading.{many, row_at}
use Rattle.fork_rez.proofs.table.rows_at.Given as goal

-- with what is left, the rows so far are all
abbrev pub invariant-loop-turn : goal.invariant-loop-turn
invariant-loop-turn l =
    many push row_at (suc (length l.text) - l._turn) (plain_rows (λ v. v.items) l.rows.items) l.rest ≡ many push row_at (suc (length l.text)) [] l.text
