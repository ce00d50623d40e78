use Rattle.std.proofs.Common.{◌≡◌}
use Rattle.fork_pictures.specs.Colours.{valued}
use Rattle.fork_pictures.proofs.colours.Table.valued.Given as goal

-- the colour of the last of the entries so far
abbrev pub invariant-loop-entry : goal.invariant-loop-entry
invariant-loop-entry l = l.colour ≡ valued l.self l.bytes l.value l.entry
