-- A zone that falls asleep.
use Rattle.std.specs.Prelude.{◌≡◌, ℕ, List, Some, None}
use Rattle.zone_records.specs.Records.{ZoneRecords}
use Rattle.zone_records.specs.Structure.{HasStructure, SameFlags, shown}

-- the new zone is the old one asleep: in memory of its own, whose bytes have its structure and say the flags of its
-- handles
pub record FallsAsleep (old new : ZoneRecords) : Type 0 where
  pub kept : old.memory.kept ≡ Some new.memory.region
  pub bytes : List ℕ
  pub structure : HasStructure old bytes
  pub flags : SameFlags old bytes
  pub zone : new ≡ record (shown old bytes) { memory = new.memory }
  pub own : new.memory.kept ≡ None
