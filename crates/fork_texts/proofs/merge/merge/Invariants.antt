use Rattle.std.proofs.Common.{◌≡◌, ◌++◌, drop}
use Rattle.fork_texts.specs.Putting.{merged}
use Rattle.fork_texts.proofs.merge.merge.Given as goal

-- the texts so far, with those that are left as they become, are all
abbrev pub invariant-loop-entry : goal.invariant-loop-entry
invariant-loop-entry l = record {
  all : l.merged.items ++ (merged (drop l.entry-index l.entries) l.left).entries ≡ (merged l.entries l.lines).entries;
  left : (merged (drop l.entry-index l.entries) l.left).left ≡ (merged l.entries l.lines).left;
}
