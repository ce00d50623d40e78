-- A zone that wakes in other bytes.
use Rattle.std.specs.Prelude.{◌≡◌, ℕ, ◌≤◌, List}
use Rattle.mac_base.specs.HandleTable.{flags_of}
use Rattle.mac_base.specs.Sound.{Sound}
use Rattle.mac_base.specs.ZoneState.{ZoneState}
use Rattle.linked_zone.specs.Structure.{SameFlags, shown}

-- the zone, which is sound, has the flags that bytes say, and they show of it what they showed before
pub record TakesFlags (old : ZoneState) (bytes : List ℕ) (new : ZoneState) : Type 0 where
  pub flags : SameFlags new bytes
  pub others : shown new bytes ≡ shown old bytes
  pub sound : Sound new.shape new.heap

-- it has those of the handles up to a number
pub record HasFlagsTo (old : ZoneState) (bytes : List ℕ) (from : ℕ) (new : ZoneState) : Type 0 where
  pub flags : (x : ℕ) → x ≤ from → flags_of (shown new bytes).heap.table x ≡ flags_of new.heap.table x
  pub others : shown new bytes ≡ shown old bytes
