-- The bytes of a zone.
use Rattle.std.specs.Prelude.{◌≡◌, ℕ, IsTrue, List}
use Rattle.std.specs.List.{All, list_all}
use Rattle.block_bytes.specs.Layout.{Layout, is_possible, zone_bytes}
use Rattle.zone_records.specs.Records.{ZoneRecords}
use Rattle.zone_records.specs.Reading.{records_in, HasWords}

-- the bytes are those of possible blocks, one after the other after the zone's header, the slots in these have their
-- words, and they are the zone's. So all bytes follow from the records but those of free blocks and those that are over
pub record HasBytes (z : ZoneRecords) (bytes : List ℕ) : Type 0 where
  pub layout : Layout
  pub form : bytes ≡ zone_bytes layout
  pub possible : IsTrue (list_all (is_possible layout.heads) layout.blocks)
  pub words : All (HasWords layout.heads) layout.blocks
  pub same : records_in layout ≡ z
