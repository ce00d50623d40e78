-- Blocks moved down where no free block is large enough.
use Rattle.std.specs.Prelude.{ℕ}
use Rattle.std.specs.Option.{option_map_or}
use Rattle.mac_base.specs.Arrangement.{down}
use Rattle.mac_base.specs.Compaction.{all_down}
use Rattle.mac_base.specs.Gap.{Gap, gaps, filled, lowest_gap}
use Rattle.mac_base.specs.HandleTable.{HandleTable}
use Rattle.mac_base.specs.ZoneMap.{ZoneMap}

-- the lowest gap with room for n bytes arranged down, or all gaps where none has
abbrev pub squeezed : HandleTable → ℕ → ZoneMap → ZoneMap
squeezed t n m = option_map_or (λ (g : Gap). filled g (down g.blocks)) (lowest_gap n (gaps t m)) (all_down t m)
