use Rattle.std.proofs.Common.{◌≡◌, ◌*◌, take}
use Rattle.script_lang.specs.Text as texts
use Rattle.script_lang.proofs.literal.write_digits.Given as goal

-- the digits of the bytes so far have been written
abbrev pub invariant-loop-index : goal.invariant-loop-index
invariant-loop-index l = take (2 * l.index) l.digits ≡ texts.in_digits (take l.index l.bytes)
