use Rattle.std.proofs.Common.{◌≡◌, ◌++◌, take}
use Rattle.file_facts.specs.Flags.{set_among}
use Rattle.file_facts.proofs.flag.push_set.Given as goal

abbrev pub invariant-loop-flag : goal.invariant-loop-flag
invariant-loop-flag l = l.set.items ≡ l.initial.set.items ++ set_among l.flags (take l.flag-index l.all)
