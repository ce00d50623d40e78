use Rattle.std.proofs.Common.{◌≡◌, ◌++◌, ◌≤◌, drop, length, take}
use Rattle.fork_texts.specs.Places.{start}
use Rattle.fork_texts.specs.Texts.{filled}
use Rattle.fork_texts.proofs.resource.fill.Given as goal

-- the parts so far, with those that are left as they become, are all
abbrev pub invariant-loop-at : goal.invariant-loop-at
invariant-loop-at l = record {
  all : take l.at l.parts.items ++ filled l.before (drop l.at l.parts.items) l.left ≡ filled (start l.one.naming) l.initial.parts.items l.texts;
  few : l.before.texts ≤ l.at;
  same : length l.parts.items ≡ length l.initial.parts.items;
}
