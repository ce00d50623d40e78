-- The allocation blocks of a fork: its first one, and those that the map leads to.
use Rattle.std.specs.Prelude.{ℕ, zero, suc, ◌+◌, ◌-◌, ◌*◌, ◌/◌, ◌%◌, ◌==◌, nat_le, ◌&&◌, not, if◌then◌else◌, Bool, List, [], ◌∷◌, ◌++◌, length, Option, None, Some}
use Rattle.std.specs.List.{list_any}
use Rattle.std.specs.Global.{Vec}
use Rattle.byteorder.specs.Endian.{big_from}
use Rattle.hfs_tree.specs.declared.extent.Extent.{Extent}

-- where in the map the 12 bits of an allocation block begin
abbrev pub map_place : ℕ → ℕ
map_place block = (block - 2) * 3 / 2

-- blocks have numbers from 2 on, and the map has their bits
abbrev pub has_block : List ℕ → ℕ → Bool
has_block map block = nat_le 2 block && nat_le (map_place block + 2) (length map)

-- the block that comes after one in its fork: the first or the last 12 bits of two bytes
abbrev pub next_of : List ℕ → ℕ → ℕ
next_of map block = let pair = big_from (map_place block) 2 map in if block % 2 == 0 then pair / 16 else pair % 4096

-- a block as an extent
abbrev pub one_block : ℕ → Extent
one_block block = record { start = block - 2; count = 1 }

abbrev pub is_extent_of : ℕ → Extent → Bool
is_extent_of start extent = extent.start == start

abbrev pub items_of : Vec Extent → List Extent
items_of extents = extents.items

-- these extents, and so many blocks from one on: each is in the map, and none is there already
unfoldable pub extents_from : List ℕ → ℕ → List Extent → ℕ → Option (List Extent)
extents_from map zero before block = Some before
extents_from map (suc more) before block =
    if has_block map block && not (list_any (is_extent_of (block - 2)) before) then extents_from map more (before ++ one_block block ∷ []) (next_of map block) else None
