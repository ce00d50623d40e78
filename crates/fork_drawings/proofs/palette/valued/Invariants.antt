use Rattle.std.proofs.Common.{◌≡◌}
use Rattle.fork_drawings.specs.Palettes.{valued}
use Rattle.fork_drawings.proofs.palette.valued.Given as goal

-- the colour of the last of the entries so far
abbrev pub invariant-loop-entry : goal.invariant-loop-entry
invariant-loop-entry l = l.colour ≡ valued l.bytes l.table l.value l.entry
