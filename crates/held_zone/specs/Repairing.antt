-- A zone whose bytes are repaired.
use Rattle.std.specs.Prelude.{◌≡◌}
use Rattle.raw_region.specs.State.{State as Region}
use Rattle.held_zone.specs.Asleep.{IsSettled}
use Rattle.held_zone.specs.Fields.{fields_in, managed, managed_in}
use Rattle.held_zone.specs.KeptFlags.{KeepsFlags}
use Rattle.held_zone.specs.State.{State}

-- a zone that sleeps has the flags that its guest set in bytes which are given, and the region has its structure then,
-- with these flags. The guest's fields of the header and all other bytes are as they were
pub record IsMended (old : State) (given r : Region) (new : State) : Type 0 where
  pub flags : KeepsFlags old.zone (managed given.bytes) old.waiting new.zone
  pub others : new ≡ record old { zone = new.zone }
  pub settled : IsSettled new (managed_in given) (managed_in r)
  pub fields : fields_in r.bytes ≡ fields_in given.bytes
