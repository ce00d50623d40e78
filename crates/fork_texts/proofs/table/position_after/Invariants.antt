use Rattle.std.proofs.Common.{◌≡◌, ◌≤◌, ◌+◌, drop}
use Rattle.fork_texts.specs.Tables.{position}
use Rattle.fork_texts.proofs.table.position_after.Given as goal

-- with what is left, this is the place
abbrev pub invariant-loop-byte : goal.invariant-loop-byte
invariant-loop-byte l = record {
  all : position l.line l.column (drop l.byte-index l.bytes) ≡ position 1 1 l.bytes;
  line : l.line ≤ 1 + l.byte-index;
  column : l.column ≤ 1 + l.byte-index;
}
