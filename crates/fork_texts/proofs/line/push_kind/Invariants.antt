use Rattle.std.proofs.Common.{◌≡◌, ◌++◌, take}
use Rattle.std.specs.List.{flat_map}
use Rattle.fork_texts.specs.Lines.{kind_written}
use Rattle.fork_texts.proofs.line.push_kind.Given as goal

-- the bytes so far
abbrev pub invariant-loop-byte : goal.invariant-loop-byte
invariant-loop-byte l = l.out.items ≡ l.initial.out.items ++ flat_map kind_written (take l.byte-index l.byte-items)
