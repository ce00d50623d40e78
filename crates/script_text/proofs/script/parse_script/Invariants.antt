use Rattle.std.proofs.Common.{◌≤◌, length}
use Rattle.script_text.proofs.ScriptLaws.{Parsing}
use Rattle.script_text.proofs.script.parse_script.Given as goal

-- the lines so far are those of the front of the text, and none assigned two names
abbrev pub invariant-loop-line : goal.invariant-loop-line
invariant-loop-line l = Parsing l.text l.rest l.number l.names l.script.items × (length l.names ≤ l.number)

-- the bytes that are left
abbrev pub decreases-loop-line : goal.decreases-loop-line
decreases-loop-line l = length l.rest
