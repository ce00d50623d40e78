use Rattle.std.proofs.Common.{◌≡◌, length}
use Rattle.type_source.specs.Tokens.{number_from}
use Rattle.type_source.proofs.lexing.number.Given as goal

-- with the digits that are left, the number so far is the whole one
abbrev pub invariant-loop-digit : goal.invariant-loop-digit
invariant-loop-digit l = number_from l.base l.number l.rest ≡ number_from l.base 0 l.digits

abbrev pub decreases-loop-digit : goal.decreases-loop-digit
decreases-loop-digit l = length l.rest
