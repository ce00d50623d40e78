use Rattle.std.proofs.Common.{take}
use Rattle.std.specs.List.{flat_map}
use Rattle.std.specs.Fmt.{HasWritten, IsPlainFormatter}
use Rattle.zone_view.specs.Shown.{row_text}
use Rattle.zone_view.proofs.shown.RowsDisplay.fmt.Given as goal

abbrev pub invariant-loop-block : goal.invariant-loop-block
invariant-loop-block g l = IsPlainFormatter l.initial.f → HasWritten g.W.Write.write_str_gives l.initial.f (flat_map (row_text l.fn.self.is_json) (take l.block-index l.block-items)) l.f
