-- A zone that is in bytes which others wrote.
use Rattle.std.specs.Prelude.{◌≡◌, ℕ, List, []}
use Rattle.mac_base.specs.Sound.{Sound}
use Rattle.mac_base.specs.ZoneSizes.{ZoneSizes}
use Rattle.mac_base.specs.ZoneState.{ZoneState}
use Rattle.linked_zone.specs.Sizes.{sizes_of}
use Rattle.linked_zone.specs.Structure.{IsIn}

-- a zone of these sizes is in bytes: a sound one, of which nothing is lent
pub record IsZoneIn (spec : ZoneSizes) (bytes : List ℕ) (z : ZoneState) : Type 0 where
  pub sizes : sizes_of z ≡ spec
  pub sound : Sound z.shape z.heap
  pub nothing_lent : z.heap.table.lent ≡ []
  pub inside : IsIn z bytes
