use Rattle.std.proofs.Common.{◌≡◌, ◌++◌, take}
use Rattle.mac_write.specs.HexText.{escaped}
use Rattle.mac_write.proofs.hex_text.push_escaped.Given as goal

abbrev pub invariant-loop-byte : goal.invariant-loop-byte
invariant-loop-byte l = l.new.items ≡ l.fn.new.items ++ escaped (take l.byte-index l.bytes)
