use Rattle.std.proofs.Common.{◌≡◌, ◌≤◌, ◌-◌}
use Rattle.pict_bytes.specs.Sequence.{opcodes_from}
use Rattle.pict_bytes.proofs.Steps.{after}
use Rattle.pict_bytes.proofs.sequence.opcodes_from.Given as goal

-- the opcodes so far, and those that are left, are all
abbrev pub invariant-loop-opcode : goal.invariant-loop-opcode
invariant-loop-opcode l =
    record {
      all : after l.opcodes.items (opcodes_from l.version l.bytes (1048576 - l._opcode) l.at) ≡ opcodes_from l.version l.bytes 1048576 l.start;
      low : l.at ≤ 16777217;
    }
