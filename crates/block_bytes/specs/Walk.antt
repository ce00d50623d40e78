-- Whether bytes are those of a zone, by the sizes in its block headers.
use Rattle.std.specs.Prelude.{◌≡◌, ℕ, ◌+◌, ◌%◌, Bool, ◌&&◌, ◌==◌, nat_le, IsTrue, List, [], ◌∷◌, length}
use Rattle.byteorder.specs.Endian.{big_number}
use Rattle.mac_base.specs.declared.block.HeadKind.{HeadKind}
use Rattle.mac_base.specs.declared.block.HeadKind.TheVariants.{Bits24, Bits32}
use Rattle.mac_base.specs.HeadKind.{smallest_block, zone_header}
use Rattle.raw_region.specs.Bytes.{part}

-- the size that the block header at an offset says
abbrev pub size_at : HeadKind → List ℕ → ℕ → ℕ
size_at Bits24 image at = big_number 4 (part image at 4) % 0x100_0000
size_at Bits32 image at = big_number 4 (part image (at + 4) 4)

-- whether a block can have so many bytes
abbrev pub is_block : HeadKind → ℕ → Bool
is_block heads n = (n % 4 == 0) && nat_le (smallest_block heads) n

-- blocks of these sizes follow one another from an offset on, and the last ends where the bytes do
abbrev pub Follows : HeadKind → List ℕ → ℕ → List ℕ → Type 0
Follows heads image at [] = at ≡ length image
Follows heads image at (n ∷ ns) = (size_at heads image at ≡ n) × IsTrue (is_block heads n) × Follows heads image (at + n) ns

-- blocks of some sizes do
pub record WalksFrom (heads : HeadKind) (image : List ℕ) (at : ℕ) : Type 0 where
  pub sizes : List ℕ
  pub follows : Follows heads image at sizes

-- blocks fill the bytes after the zone's header
abbrev pub Walks : HeadKind → List ℕ → Type 0
Walks heads image = WalksFrom heads image zone_header
