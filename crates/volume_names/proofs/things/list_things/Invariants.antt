use Rattle.std.proofs.Common.{◌≡◌, take}
use Rattle.volume_names.proofs.Listed.{listed}
use Rattle.volume_names.proofs.things.list_things.Given as goal

-- those of the records so far
abbrev pub invariant-loop-entry : goal.invariant-loop-entry
invariant-loop-entry l = l.things.items ≡ listed l.entries (take l.entry-index l.entries)
