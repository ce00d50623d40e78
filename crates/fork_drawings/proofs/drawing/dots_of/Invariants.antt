use Rattle.std.proofs.Common.{◌≡◌, ◌<◌, ℕ, ◌+◌, ◌*◌, ◌/◌, ◌%◌, length, drop, get_or}
use Rattle.pict_bytes.specs.Maps.{height, width}
use Rattle.fork_drawings.specs.Brushes.{IsBelow}
use Rattle.fork_drawings.specs.Painting.{dot, drawn_by, unseen}
use Rattle.fork_drawings.proofs.drawing.dots_of.Given as goal

-- what the opcodes that are left make of each dot is what all make of it
abbrev pub invariant-loop-opcode : goal.invariant-loop-opcode
invariant-loop-opcode l =
    record {
      long : length l.pixels.items ≡ width l.frame * height l.frame;
      below : IsBelow l.clip;
      each :
          (place : ℕ) → place < width l.frame * height l.frame
          → drawn_by l.bytes l.clip (drop l.opcode-index l.opcodes) (l.frame.left + place % width l.frame) (l.frame.top + place / width l.frame)
          (get_or l.pixels.items place unseen)
          ≡ dot l.bytes l.frame l.opcodes (place % width l.frame) (place / width l.frame);
    }
