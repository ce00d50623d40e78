use Rattle.std.proofs.Common.{◌≡◌, ◌≤◌, ◌-◌, ◌*◌, ◌++◌, drop, length}
use Rattle.fork_drawings.specs.Packed.{unpacked}
use Rattle.fork_drawings.proofs.packed.unpacked.Given as goal

-- what there is, with what the codes that are left stand for, is all
abbrev pub invariant-loop-code : goal.invariant-loop-code
invariant-loop-code l =
    record {
      all : l.row.items ++ unpacked l.unit (l.wanted - length l.row.items) (length l.bytes - l._code) (drop l.at l.bytes) ≡ unpacked l.unit l.wanted (length l.bytes) l.bytes;
      low : l.at ≤ 257 * l._code;
    }
