use Rattle.std.proofs.Common.{take}
use Rattle.block_bytes.proofs.Noted.{IsCopied}
use Rattle.block_bytes.proofs.record.Changed.copy.Given as goal

abbrev pub invariant-loop-i : goal.invariant-loop-i
invariant-loop-i l = IsCopied (take l.i l.self.ranges) l.memory.bytes l.fn.bytes l.bytes
