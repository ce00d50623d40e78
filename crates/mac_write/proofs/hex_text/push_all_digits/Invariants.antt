use Rattle.std.proofs.Common.{◌≡◌, ◌*◌, ◌++◌, drop}
use Rattle.mac_write.specs.HexText.{digits}
use Rattle.mac_write.proofs.hex_text.push_all_digits.Given as goal

-- with the digits of what is left, all digits
abbrev pub invariant-loop-group : goal.invariant-loop-group
invariant-loop-group l = l.new.items ++ digits (drop (3 * l.group) l.bytes) ≡ l.fn.new.items ++ digits l.bytes
