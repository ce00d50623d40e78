use Rattle.std.proofs.Common.{sym, ◌∙◌}
use Rattle.fork_list.proofs.Table.{ascii_exact, none_exact, upper_exact}
use Rattle.fork_list.proofs.roman.byte_of.Goals as goal

pub returns-then-character-lt128 : goal.returns-then-character-lt128
returns-then-character-lt128 c = ascii_exact c.args.character c.if-character-lt128.true

pub returns-in_err-place : goal.returns-in_err-place
returns-in_err-place c =
    rw c.from_residual.ensures (none_exact c.args.character c.if-character-lt128.false (sym c.upper_place.ensures ∙ c.in_err-place.was))

pub returns : goal.returns
returns c = upper_exact c.args.character c.in_ok-place.place c.if-character-lt128.false (sym c.in_ok-place.ensures)
