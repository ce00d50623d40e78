-- A zone that is made of bytes which others wrote.
use Rattle.std.specs.Prelude.{◌≡◌, ℕ, None, List, []}
use Rattle.mac_base.specs.Sound.{Sound}
use Rattle.mac_base.specs.ZoneSizes.{ZoneSizes}
use Rattle.mac_base.specs.ZoneState.{ZoneState}
use Rattle.linked_zone.specs.Image.{IsImage}
use Rattle.linked_zone.specs.Sizes.{sizes_of}
use Rattle.held_zone.specs.Purges.{no_purges}
use Rattle.held_zone.specs.State.{State}

-- these are the bytes of a zone of these sizes, from its start to the end of its last block: a sound one, of which
-- nothing is lent
pub record IsZoneOf (sizes : ZoneSizes) (image : List ℕ) (z : ZoneState) : Type 0 where
  pub sizes_are : sizes_of z ≡ sizes
  pub sound : Sound z.shape z.heap
  pub nothing_lent : z.heap.table.lent ≡ []
  pub bytes : IsImage z image

-- nothing is lent, no answer and no block waits, nothing was asked, the zone is in memory of its own, and no call is held
-- or has purged
pub record IsIdle (s : State) : Type 0 where
  pub loans : s.loans ≡ []
  pub left : s.left ≡ []
  pub asks : s.asks ≡ []
  pub waiting : s.waiting ≡ []
  pub own : s.zone.memory.kept ≡ None
  pub purges : s.purges ≡ no_purges
