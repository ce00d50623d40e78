-- What the fields of an indexed zone mean, and what they keep true.
use Rattle.mac_base.specs.Gap.{is_fixed}
use Rattle.mac_base.specs.ZoneState.{ZoneState}
use Rattle.zone_index.specs.declared.zone.IndexedZone.TheInside.{Inside}
use Rattle.zone_index.specs.LeafSums.{AreLeaves}
use Rattle.zone_index.specs.Lengths.{AreLengths}
use Rattle.zone_index.specs.Marks.{AreMarked}
use Rattle.zone_index.specs.Pages.{ArePages}
use Rattle.zone_index.specs.Purging.{may_go}

-- the zone that they show
abbrev pub zone_of : Inside → ZoneState
zone_of z = z.zone

-- its fixed blocks are marked, and those that may be purged; the sums of leaves that aren't stale are
-- right; and what is remembered of pages and of handles is so
pub record IsIndexed (z : Inside) : Type 0 where
  pub fixed : AreMarked is_fixed z.zone z.marks
  pub purgeable : AreMarked may_go z.zone z.purgeable
  pub leaves : AreLeaves z.zone z.leaves
  pub pages : ArePages z.zone z.pages
  pub lengths : AreLengths z.zone.heap.table z.lengths
