use Rattle.std.proofs.Common.{◌≡◌, ◌++◌, ◌≤◌, drop}
use Rattle.fork_texts.specs.Places.{start}
use Rattle.fork_texts.specs.Texts.{shown}
use Rattle.fork_texts.proofs.resource.push_texts.Given as goal

-- the texts so far, with those of the parts that are left, are all; there are no more than parts
abbrev pub invariant-loop-part : goal.invariant-loop-part
invariant-loop-part l = record {
  all : l.entries.items ++ shown l.what l.before (drop l.part-index l.parts) ≡ l.initial.entries.items ++ shown l.what (start l.one.naming) l.parts;
  few : l.before.texts ≤ l.part-index;
}
