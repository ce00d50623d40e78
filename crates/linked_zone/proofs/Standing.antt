-- What is known of the blocks of a zone while it is changed, and when they stand for the changed one.
use Rattle.std.proofs.Common.{◌≡◌, ◌+◌, ◌%◌, ◌≤◌, ap, sym, ◌∙◌, subst}
use Rattle.mac_base.specs.HeadKind.{zone_header, address_end}
use Rattle.mac_base.specs.ZoneMap.{total_size}
use Rattle.mac_base.specs.ZoneState.{ZoneState}
use Rattle.zone_records.specs.Records.{ZoneRecords}
use Rattle.linked_zone.specs.declared.zone.LinkedZone.TheInside.{Inside}
use Rattle.linked_zone.specs.Owned.{records_of}
use Rattle.linked_zone.specs.Reading.{StandsAsRead, state_in}
use Rattle.linked_zone.specs.Fit.{Fits, HasSizes, HasRooms}
use Rattle.linked_zone.proofs.ReadBack.{read_back}

-- blocks are those of a zone that they can stand for
pub record Stands (r : ZoneRecords) (z : ZoneState) : Type 0 where
  pub blocks : r ≡ records_of z
  pub fits : Fits z
  pub sizes : HasSizes z
  pub rooms : HasRooms z
  pub within : zone_header + total_size z.heap.map ≤ z.shape.limit
  pub even : z.shape.base % 4 ≡ 0
  pub low : 0x1000 ≤ z.shape.base
  pub high : z.shape.base + z.shape.limit ≤ address_end z.shape.heads

-- the fields of a zone are the blocks of what it shows
pub stands-now : {i : Inside} {z : ZoneState} → StandsAsRead i → state_in i.records ≡ z → Stands i.records z
stands-now {i = i} inside shows = subst (Stands i.records) shows (record {
  blocks = inside.blocks;
  fits = inside.fits;
  sizes = inside.sizes;
  rooms = inside.rooms;
  within = inside.within;
  even = inside.even;
  low = inside.low;
  high = inside.high;
})

-- such blocks stand for the zone, and are fields
pub record Kept (r : ZoneRecords) (z : ZoneState) : Type 0 where
  pub same : state_in r ≡ z
  pub inside : StandsAsRead (record { records = r })

pub kept : (r : ZoneRecords) (z : ZoneState) → Stands r z → Kept r z
kept r z stands =
    let same : state_in r ≡ z = ap state_in stands.blocks ∙ read_back z stands.fits stands.rooms stands.low in
    let back = subst (Stands r) (sym same) stands in
    record {
      same = same;
      inside = record {
        blocks = back.blocks;
        fits = back.fits;
        sizes = back.sizes;
        rooms = back.rooms;
        within = back.within;
        even = back.even;
        low = back.low;
        high = back.high;
      };
    }
