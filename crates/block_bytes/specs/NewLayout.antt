-- A new zone before anything is placed.
use Rattle.std.specs.Prelude.{◌-◌, [], ◌∷◌, replicate}
use Rattle.mac_base.specs.ZoneState.{Name}
use Rattle.mac_base.specs.HeadKind.{zone_header, head_size}
use Rattle.mac_base.specs.ZoneSizes.{ZoneSizes}
use Rattle.mac_base.specs.ZoneState.{own_memory}
use Rattle.block_bytes.specs.Layout.{Layout, free_raw_block}

-- one free block of zeros, and zeros up to the limit, in the memory of this name
abbrev pub new_layout : Name → ZoneSizes → Layout
new_layout name z = record {
  memory = own_memory name;
  heads = z.heads;
  base = z.base;
  front = 0;
  blocks = free_raw_block (replicate (z.size - zone_header - head_size z.heads) 0) ∷ [];
  spare = replicate (z.limit - z.size) 0;
}
