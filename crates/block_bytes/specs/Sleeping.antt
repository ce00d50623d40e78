-- A zone that falls asleep.
use Rattle.std.specs.Prelude.{◌≡◌, ℕ, List, Some, None}
use Rattle.mac_base.specs.HeadKind.{zone_header}
use Rattle.block_bytes.specs.Layout.{Layout}
use Rattle.block_bytes.specs.Structure.{AreWritten, EachMaster, HasStructure, shown}

-- the new zone is the old one asleep: in memory of its own, whose bytes have its structure and the contents of its
-- master blocks
pub record FallsAsleep (old new : Layout) : Type 0 where
  pub kept : old.memory.kept ≡ Some new.memory.region
  pub bytes : List ℕ
  pub structure : HasStructure old bytes
  pub masters : EachMaster (AreWritten bytes) old.heads zone_header old.blocks
  pub zone : new ≡ record (shown old bytes) { memory = new.memory }
  pub own : new.memory.kept ≡ None
