use Rattle.std.proofs.Common.{◌≡◌, ◌≤◌, length, take}
use Rattle.mac_base.specs.GrowZone.{answered}
use Rattle.held_calls.proofs.answers.answered.Given as goal

-- the asks so far that had an answer
abbrev pub invariant-loop-ask : goal.invariant-loop-ask
invariant-loop-ask l = (l.asked.items ≡ answered (take l.ask-index l.asks)) × (length l.asked.items ≤ l.ask-index)
