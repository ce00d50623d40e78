use Rattle.std.proofs.Common.{◌≡◌, ◌≤◌, ◌+◌, None, drop}
use Rattle.fork_drawings.specs.Brushes.{IsBelow}
use Rattle.fork_drawings.specs.Pictures.{work_of}
use Rattle.fork_drawings.proofs.picture.is_too_much.Given as goal

-- the work so far, and that of the opcodes that are left, is all
abbrev pub invariant-loop-opcode : goal.invariant-loop-opcode
invariant-loop-opcode l =
    record {
      all : l.work + work_of l.bytes l.frame l.clip (drop l.opcode-index l.opcodes) ≡ work_of l.bytes l.frame None l.opcodes;
      low : l.work ≤ 268435456;
      below : IsBelow l.clip;
    }
