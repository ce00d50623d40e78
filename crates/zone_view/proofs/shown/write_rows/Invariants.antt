use Rattle.std.proofs.Common.{◌≡◌, List, ◌++◌, length}
use Rattle.std.specs.Io.KnownBytes.{Appends}
use Rattle.std.specs.List.{flat_map}
use Rattle.mac_base.specs.declared.block.Block.{Block}
use Rattle.zone_view.specs.Shown.{row_text}
use Rattle.zone_view.proofs.shown.write_rows.Given as goal

-- the rows of some first blocks were written, and the others are left
abbrev pub invariant-loop-rest : goal.invariant-loop-rest
invariant-loop-rest g l = (done : List Block) × (l.blocks ≡ done ++ l.rest) × Appends (g.W.Write.contents l.fn.output) (g.W.Write.contents l.output) (flat_map (row_text l.is_json) done)

abbrev pub decreases-loop-rest : goal.decreases-loop-rest
decreases-loop-rest g l = length l.rest
