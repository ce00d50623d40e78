use Rattle.std.proofs.Common.{◌≡◌, ◌^◌, ◌<◌, drop}
use Rattle.res_types.specs.Bits.{number_from}
use Rattle.res_types.proofs.bits.number_of.Given as goal

-- with the bits that are left, the number so far is the number
abbrev pub invariant-loop-bit : goal.invariant-loop-bit
invariant-loop-bit l = record {
  number : number_from l.number (drop l.bit-index l.bits) ≡ number_from 0 l.bits;
  within : l.number < 2 ^ l.bit-index;
}
