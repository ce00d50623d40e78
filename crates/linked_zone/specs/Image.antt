-- The bytes of a zone.
use Rattle.std.specs.Prelude.{ℕ, List}
use Rattle.mac_base.specs.ZoneState.{ZoneState}
use Rattle.zone_records.specs.Image.{HasBytes}
use Rattle.linked_zone.specs.Owned.{records_of}

-- the bytes hold the blocks and slots that the zone calls for
abbrev pub IsImage : ZoneState → List ℕ → Type 0
IsImage z bytes = HasBytes (records_of z) bytes
