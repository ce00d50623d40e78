use Rattle.std.proofs.Common.{◌≡◌, ◌++◌, take}
use Rattle.std.specs.List.{flat_map}
use Rattle.fork_texts.specs.Lines.{line_text}
use Rattle.fork_texts.proofs.table.push_lines.Given as goal

-- the lines so far
abbrev pub invariant-loop-entry : goal.invariant-loop-entry
invariant-loop-entry l = l.out.items ≡ l.initial.out.items ++ flat_map line_text (take l.entry-index l.entry-items)
