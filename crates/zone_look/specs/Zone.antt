-- A zone whose header says where it ends.
use Rattle.std.specs.Prelude.{ℕ, ◌+◌, ◌<◌, ◌≤◌, ◌^◌, length}
use Rattle.mac_base.specs.HeadKind.{zone_header}
use Rattle.zone_look.specs.Memory.{Memory}

-- the memory reaches to the zone's end, and all addresses up to that have 32 bits
pub record IsZone (m : Memory) (end : ℕ) : Type 0 where
  pub headed : zone_header ≤ end
  pub within : end ≤ length m.bytes
  pub small : m.base + end < 2 ^ 32
