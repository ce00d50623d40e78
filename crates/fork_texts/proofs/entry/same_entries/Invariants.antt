use Rattle.std.proofs.Common.{◌≡◌, take}
use Rattle.fork_texts.proofs.entry.same_entries.Given as goal

-- those so far are the same
abbrev pub invariant-loop-at : goal.invariant-loop-at
invariant-loop-at l = take l.at l.some ≡ take l.at l.others
