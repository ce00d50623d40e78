use Rattle.std.proofs.Common.{◌≡◌, ◌++◌, take, map}
use Rattle.fork_rez.specs.Text.{shown}
use Rattle.fork_rez.proofs.text.push_shown.Given as goal

-- the characters so far
abbrev pub invariant-loop-byte : goal.invariant-loop-byte
invariant-loop-byte l = l.out.items ≡ l.initial.out.items ++ map shown (take l.byte-index l.bytes)
