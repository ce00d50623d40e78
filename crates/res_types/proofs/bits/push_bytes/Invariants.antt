use Rattle.std.proofs.Common.{◌≡◌, ◌++◌, take}
use Rattle.res_types.specs.Bits.{byte_bits}
use Rattle.res_types.proofs.bits.push_bytes.Given as goal

abbrev pub invariant-loop-byte : goal.invariant-loop-byte
invariant-loop-byte l = l.bits.items ≡ l.initial.bits.items ++ byte_bits (take l.byte-index l.bytes)
