-- The sizes of a zone.
use Rattle.std.specs.Prelude.{◌+◌}
use Rattle.mac_base.specs.HeadKind.{zone_header}
use Rattle.mac_base.specs.ZoneMap.{total_size}
use Rattle.mac_base.specs.ZoneSizes.{ZoneSizes}
use Rattle.mac_base.specs.ZoneState.{ZoneState}

-- where a zone lies, how large it is now, and how large it may become
abbrev pub sizes_of : ZoneState → ZoneSizes
sizes_of z = record { heads = z.shape.heads; base = z.shape.base; size = zone_header + total_size z.heap.map; limit = z.shape.limit }
