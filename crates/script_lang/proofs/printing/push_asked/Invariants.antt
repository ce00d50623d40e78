use Rattle.std.proofs.Common.{◌≡◌, ◌≤◌, ◌++◌, take, vec_capacity}
use Rattle.std.specs.List.{flat_map}
use Rattle.script_lang.specs.Text as texts
use Rattle.script_lang.proofs.printing.push_asked.Given as goal

-- the lines of the asks so far are after what was there, and the room didn't shrink
abbrev pub invariant-loop-ask : goal.invariant-loop-ask
invariant-loop-ask l = (l.text.items ≡ l.fn.text.items ++ flat_map texts.asked_text (take l.ask-index l.asked)) × (vec_capacity l.fn.text ≤ vec_capacity l.text)
