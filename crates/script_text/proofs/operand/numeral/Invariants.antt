use Rattle.std.proofs.Common.{◌≡◌, take}
use Rattle.std.specs.Str.Parse.{AllDigits, digits_value}
use Rattle.script_text.proofs.operand.numeral.Given as goal

-- the digits so far are digits, and the number is theirs
abbrev pub invariant-loop-byte : goal.invariant-loop-byte
invariant-loop-byte l = record { digits : AllDigits l.base (take l.byte-index l.word); value : l.number ≡ digits_value l.base (take l.byte-index l.word) }
