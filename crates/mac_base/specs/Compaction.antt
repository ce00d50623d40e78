-- Compaction of a zone, and a block moved to the high end of its gap.
use Rattle.std.specs.Prelude.{ℕ, nat_le, if◌then◌else◌, [], ◌∷◌, ◌++◌}
use Rattle.std.specs.Option.{option_map_or}
use Rattle.mac_base.specs.ZoneMap.{ZoneMap, largest_free}
use Rattle.mac_base.specs.HandleTable.{HandleTable}
use Rattle.mac_base.specs.Gap.{Gap, gaps, filled, lowest_gap, own_gap, is_fixed}
use Rattle.mac_base.specs.Arrangement.{down, high}

-- all gaps arranged down; the run is what lies before, in the lowest gap
abbrev pub all_down_after : HandleTable → ZoneMap → ZoneMap → ZoneMap
all_down_after t run [] = down run
all_down_after t run (e ∷ es) = if is_fixed t e.kind then down run ++ e ∷ all_down_after t [] es else all_down_after t (run ++ e ∷ []) es

-- all gaps arranged down
abbrev pub all_down : HandleTable → ZoneMap → ZoneMap
all_down t m = all_down_after t [] m

-- compaction for n bytes: nothing where they are free, else the lowest gap with room, else all gaps
abbrev pub compacted : HandleTable → ℕ → ZoneMap → ZoneMap
compacted t n m = if nat_le n (largest_free m) then m else option_map_or (λ (g : Gap). filled g (down g.blocks)) (lowest_gap n (gaps t m)) (all_down t m)

-- the block of h moved to the high end of its gap
abbrev pub moved_high : HandleTable → ℕ → ZoneMap → ZoneMap
moved_high t h m = option_map_or (λ (g : Gap). filled g (high h g.blocks)) (own_gap h (gaps t m)) m
