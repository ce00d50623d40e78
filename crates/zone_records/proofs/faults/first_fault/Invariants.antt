use Rattle.zone_records.specs.Reading.{records_in}
use Rattle.zone_records.specs.Structure.{HasStructure}
use Rattle.zone_records.proofs.FaultFronts.{front}
use Rattle.zone_records.proofs.faults.first_fault.Given as goal

-- up to the byte the bytes may be those of the zone
abbrev pub invariant-loop-at : goal.invariant-loop-at
invariant-loop-at l = HasStructure (records_in l.blocks) (front l.own l.bytes l.at)
