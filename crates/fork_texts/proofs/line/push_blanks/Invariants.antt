use Rattle.std.proofs.Common.{◌≡◌, ◌++◌, replicate}
use Rattle.fork_texts.proofs.line.push_blanks.Given as goal

-- the blanks so far
abbrev pub invariant-loop-blank : goal.invariant-loop-blank
invariant-loop-blank l = l.out.items ≡ l.initial.out.items ++ replicate l._blank 32
