use Rattle.std.proofs.Common.{ap, ◌∙◌}
use Rattle.fork_salvage.proofs.Checked.{four_more}
use Rattle.fork_salvage.specs.Faults.{map_header_fault}
use Rattle.fork_salvage.specs.declared.place.Parts.{Parts}
use Rattle.fork_salvage.proofs.check.push_parts.Goals as goal

pub returns : goal.returns
returns c =
    rw (c.in_ok-push_fault-4.ensures, c.in_ok-push_fault-3.ensures, c.in_ok-push_fault-2.ensures, c.in_ok-push_fault.ensures)
    (four_more c.args.faults.now.items _ _ _ _ _ _ _ _ c.too_long.ensures c.data_fault.ensures c.map_fault.ensures
    (c.map_header_fault.ensures ∙ ap (λ (p : Parts). map_header_fault p.map) c.parts_at.ensures.parts))
