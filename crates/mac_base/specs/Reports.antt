-- What a zone would have room for, if its blocks were moved or purged.
use Rattle.std.specs.Prelude.{ℕ, ◌+◌, max, List, [], fold, map, sum_by}
use Rattle.mac_base.specs.ZoneMap.{ZoneMap, free_bytes}
use Rattle.mac_base.specs.HandleTable.{HandleTable}
use Rattle.mac_base.specs.Gap.{Gap, gaps, room}
use Rattle.mac_base.specs.Request.{candidates_in, size_of}

-- the largest of some numbers, and 0 of none
abbrev pub largest : List ℕ → ℕ
largest ns = fold max 0 ns

-- the most free bytes that one gap has
abbrev pub largest_room : HandleTable → ZoneMap → ℕ
largest_room t m = largest (map room (gaps t m))

-- the free bytes of these blocks together with those of the handles among them that may be purged
abbrev pub purge_space : HandleTable → ZoneMap → ℕ
purge_space t m = free_bytes m + sum_by (λ h. size_of h m) (candidates_in t [] m)

-- the most that one gap has of both
abbrev pub largest_purge_space : HandleTable → ZoneMap → ℕ
largest_purge_space t m = largest (map (λ (g : Gap). purge_space t g.blocks) (gaps t m))
