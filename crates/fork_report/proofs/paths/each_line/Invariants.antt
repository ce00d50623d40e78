use Rattle.std.proofs.Common.{◌≡◌, ◌++◌, drop}
use Rattle.fork_report.specs.Paths.{each_line, lines_after}
use Rattle.fork_report.proofs.paths.each_line.Given as goal

-- the lines so far, and those that are left, are all
abbrev pub invariant-loop-byte : goal.invariant-loop-byte
invariant-loop-byte l = l.all.items ++ lines_after l.front l.begins (drop l.byte-index l.text) ≡ each_line l.front l.text
