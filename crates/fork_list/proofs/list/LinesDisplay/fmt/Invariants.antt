use Rattle.std.proofs.Common.{take}
use Rattle.std.specs.List.{flat_map}
use Rattle.std.specs.Fmt.{HasWritten, IsPlainFormatter}
use Rattle.fork_list.specs.Listing.{row_line}
use Rattle.fork_list.proofs.list.LinesDisplay.fmt.Given as goal

abbrev pub invariant-loop-row : goal.invariant-loop-row
invariant-loop-row g l =
    IsPlainFormatter l.initial.f → HasWritten g.W.Write.write_str_gives l.initial.f (flat_map (row_line g.D.HasSize.size g.D.HasSize.unpacked l.fn.self.letters l.fn.self.kinds.now) (take l.row-index l.row-items)) l.f
