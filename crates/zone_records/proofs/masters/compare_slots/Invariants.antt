use Rattle.zone_records.specs.Masters.{SlotsAgree, SlotsSame}
use Rattle.zone_records.specs.Structure.{Means}
use Rattle.zone_records.proofs.masters.compare_slots.Given as goal

abbrev pub invariant-loop-index : goal.invariant-loop-index
invariant-loop-index l = Means l.agreement (SlotsAgree l.heads l.bytes l.index l.start l.ours) (SlotsSame l.heads l.bytes l.index l.start l.ours)
