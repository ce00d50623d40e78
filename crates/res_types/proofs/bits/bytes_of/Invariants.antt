use Rattle.std.proofs.Common.{◌≡◌, ◌++◌, length}
use Rattle.res_types.specs.Bits.{byte_bits}
use Rattle.res_types.proofs.bits.bytes_of.Given as goal

abbrev pub invariant-loop-byte : goal.invariant-loop-byte
invariant-loop-byte l = l.bits ≡ byte_bits l.bytes.items ++ l.rest

abbrev pub decreases-loop-byte : goal.decreases-loop-byte
decreases-loop-byte l = length l.rest
