-- How large the parts of a zone are.
use Rattle.std.specs.Prelude.{ℕ, ◌+◌, ◌*◌, ◌/◌, max}
use Rattle.mac_base.specs.declared.block.HeadKind.{HeadKind}
use Rattle.mac_base.specs.declared.block.HeadKind.TheVariants.{Bits24, Bits32}

-- the bytes of a block header
abbrev pub head_size : HeadKind → ℕ
head_size Bits24 = 8
head_size Bits32 = 12

-- the bytes of the smallest block
abbrev pub smallest_block : HeadKind → ℕ
smallest_block Bits24 = 12
smallest_block Bits32 = 16

-- the address beyond which no zone ends: 24-bit blocks say sizes and master pointers in 24 bits, 32-bit blocks in 32
abbrev pub address_end : HeadKind → ℕ
address_end Bits24 = 0x100_0000
address_end Bits32 = 0xFFFF_FFFF

-- the bytes of the zone header; blocks begin after it
abbrev pub zone_header : ℕ
zone_header = 52

-- the master pointers of a master block
abbrev pub slot_count : ℕ
slot_count = 64

-- the bytes of a master block's contents: four for each slot
abbrev pub master_length : ℕ
master_length = 256

-- where a zone lies, how far it may grow, and how its blocks are headed
pub record Shape : Type 0 where
  pub heads : HeadKind
  pub base : ℕ
  pub limit : ℕ

-- n, or the next multiple of four above it
abbrev pub round_up : ℕ → ℕ
round_up n = 4 * ((n + 3) / 4)

-- the physical size of a block with n bytes of contents
abbrev pub need : HeadKind → ℕ → ℕ
need heads n = max (smallest_block heads) (round_up (n + head_size heads))

-- the largest size, offset or count that a call takes
abbrev pub max_size : ℕ
max_size = 0x80_0000
