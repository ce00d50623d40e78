-- What a walk over the blocks finds.
use Rattle.std.specs.Prelude.{◌≡◌, ℕ, ◌+◌, ◌<◌, ◌≤◌, ◌⊎◌, Bool, not, IsTrue, List, [], ◌∷◌, ◌++◌}
use Rattle.std.specs.List.{list_all}
use Rattle.mac_base.specs.declared.block.Flags.{Flags}
use Rattle.mac_base.specs.declared.block.HeadKind.{HeadKind}
use Rattle.block_bytes.specs.declared.header.Role.TheVariants.{Free, Relocatable}
use Rattle.block_bytes.specs.Layout.{RawBlock, Layout, BlockAt, is_free, size_of, total_of, address_after}

-- the block at `start` has the byte at an address, in its header or after it
pub record HoldsByte (l : Layout) (at start : ℕ) : Type 0 where
  pub block : BlockAt l start
  pub low : start ≤ at
  pub high : at < start + size_of l.heads block.here

-- the byte at an address lies before all blocks, or after them
abbrev pub LiesOutside : Layout → ℕ → Type 0
LiesOutside l at = (at < address_after l []) ⊎ (address_after l l.blocks ≤ at)

-- a free block's header is at this address
pub record FreeAt (l : Layout) (at : ℕ) : Type 0 where
  pub block : BlockAt l at
  pub free : block.here.role ≡ Free

-- the block of a handle is at this address, whose master pointer is so many bytes from the zone's start
pub record OwnedAt (l : Layout) (at offset : ℕ) : Type 0 where
  pub block : BlockAt l at
  pub flags : Flags
  pub role : block.here.role ≡ Relocatable offset flags

-- the blocks from an address on, which is that of a block or of the end of the last
pub record SplitAt (l : Layout) (at : ℕ) : Type 0 where
  pub before : List RawBlock
  pub after : List RawBlock
  pub blocks : l.blocks ≡ before ++ after
  pub place : at ≡ address_after l before

-- whether none of these is free
abbrev pub none_free : List RawBlock → Bool
none_free bs = list_all (λ (b : RawBlock). not (is_free b.role)) bs

-- the first free one of these blocks, which begin at an address, is at another
pub record FirstFree (heads : HeadKind) (bs : List RawBlock) (from at : ℕ) : Type 0 where
  pub passed : List RawBlock
  pub here : RawBlock
  pub after : List RawBlock
  pub blocks : bs ≡ passed ++ here ∷ after
  pub used : IsTrue (none_free passed)
  pub free : here.role ≡ Free
  pub place : at ≡ from + total_of heads passed

-- the last free one of these blocks, which begin at an address, is at another
pub record LastFree (heads : HeadKind) (bs : List RawBlock) (from at : ℕ) : Type 0 where
  pub front : List RawBlock
  pub here : RawBlock
  pub passed : List RawBlock
  pub blocks : bs ≡ front ++ here ∷ passed
  pub used : IsTrue (none_free passed)
  pub free : here.role ≡ Free
  pub place : at ≡ from + total_of heads front

-- the block at an address is the first that begins at another or after it
pub record FirstFrom (l : Layout) (from at : ℕ) : Type 0 where
  pub block : BlockAt l at
  pub reached : from ≤ at
  pub first : (other : ℕ) → BlockAt l other → from ≤ other → at ≤ other

-- all blocks begin before an address
abbrev pub NoneFrom : Layout → ℕ → Type 0
NoneFrom l from = (at : ℕ) → BlockAt l at → at < from
