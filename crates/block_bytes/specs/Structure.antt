-- The structure of a zone, its header and those of its blocks, and what bytes with this structure say of the rest.
use Rattle.std.specs.Prelude.{◌≡◌, ℕ, ◌+◌, ◌<◌, ◌≤◌, nat_lt, Bool, not, true, false, IsTrue, List, [], ◌∷◌, ◌++◌, length, take, drop, ⊤, if◌then◌else◌}
use Rattle.std.specs.List.{list_all}
use Rattle.mac_base.specs.declared.block.HeadKind.{HeadKind}
use Rattle.mac_base.specs.HeadKind.{head_size, zone_header}
use Rattle.raw_region.specs.Bytes.{part}
use Rattle.block_bytes.specs.declared.header.Role.{Role}
use Rattle.block_bytes.specs.declared.header.Role.TheVariants.{Free, Fixed, Master, Relocatable}
use Rattle.block_bytes.specs.declared.structure.Compared.{Compared}
use Rattle.block_bytes.specs.declared.structure.Compared.TheVariants.{Differ, NextMaster, AllAgree}
use Rattle.block_bytes.specs.Head.{head_bytes}
use Rattle.block_bytes.specs.Layout.{RawBlock, Layout, BlockAt, size_of, total_of, header_of, header_bytes, image_of}

-- the block at an offset, with the contents that bytes have in its place
abbrev pub shown_block : HeadKind → List ℕ → ℕ → RawBlock → RawBlock
shown_block heads bytes at b = record b {
  contents = part bytes (at + head_size heads) (length b.contents);
  slack = part bytes (at + head_size heads + length b.contents) (length b.slack);
}

-- the same of many, the first at an offset
abbrev pub shown_blocks : HeadKind → List ℕ → ℕ → List RawBlock → List RawBlock
shown_blocks heads bytes at [] = []
shown_blocks heads bytes at (b ∷ bs) = shown_block heads bytes at b ∷ shown_blocks heads bytes (at + size_of heads b) bs

-- the zone with the contents that bytes have in their places
abbrev pub shown : Layout → List ℕ → Layout
shown l bytes = record l { blocks = shown_blocks l.heads bytes zone_header l.blocks; spare = drop (zone_header + total_of l.heads l.blocks) bytes }

-- bytes have the structure of a zone: they are those of the zone with their contents
pub record HasStructure (l : Layout) (bytes : List ℕ) : Type 0 where
  pub all : length bytes ≡ length (image_of l)
  pub image : image_of (shown l bytes) ≡ bytes

-- the zone's header is at the front of as many bytes as the zone has
pub record HasHead (l : Layout) (bytes : List ℕ) : Type 0 where
  pub all : length bytes ≡ length (image_of l)
  pub head : take zone_header bytes ≡ header_bytes l

-- the headers of blocks are in their places among bytes, that of the first at an offset
abbrev pub HasHeaders : Layout → List ℕ → ℕ → List RawBlock → Type 0
HasHeaders l bytes at [] = ⊤
HasHeaders l bytes at (b ∷ bs) = (part bytes at (head_size l.heads) ≡ head_bytes l.heads l.base (header_of l.heads b)) × HasHeaders l bytes (at + size_of l.heads b) bs

-- whether a block is a master block
abbrev pub is_master : Role → Bool
is_master Free = false
is_master Fixed = false
is_master Master = true
is_master (Relocatable slot flags) = false

-- whether none of these is one
abbrev pub none_master : List RawBlock → Bool
none_master bs = list_all (λ (b : RawBlock). not (is_master b.role)) bs

-- these blocks up to the first master block among them, or all
abbrev pub up_to_master : List RawBlock → List RawBlock
up_to_master [] = []
up_to_master (b ∷ bs) = b ∷ (if is_master b.role then [] else up_to_master bs)

-- those of some blocks, the first at an address, that begin before another
abbrev pub begun_before : HeadKind → ℕ → ℕ → List RawBlock → List RawBlock
begun_before heads at end [] = []
begun_before heads at end (b ∷ bs) = if nat_lt at end then b ∷ begun_before heads (at + size_of heads b) end bs else []

-- the headers of blocks, the first at an offset, agree up to that of the first master block, which is at an address
pub record AgreeUpTo (l : Layout) (bytes : List ℕ) (offset : ℕ) (bs : List RawBlock) (at : ℕ) : Type 0 where
  pub passed : List RawBlock
  pub here : RawBlock
  pub after : List RawBlock
  pub blocks : bs ≡ passed ++ here ∷ after
  pub others : IsTrue (none_master passed)
  pub master : here.role ≡ Master
  pub agree : HasHeaders l bytes offset (passed ++ here ∷ [])
  pub place : at ≡ l.base + offset + total_of l.heads passed

-- how the headers of blocks, the first at an offset, compare with those among bytes, up to the first master block's
abbrev pub Compares : Layout → List ℕ → ℕ → List RawBlock → Compared → Type 0
Compares l bytes offset bs Differ = HasHeaders l bytes offset (up_to_master bs) → ⊥
Compares l bytes offset bs (NextMaster at) = AgreeUpTo l bytes offset bs at
Compares l bytes offset bs AllAgree = IsTrue (none_master bs) × HasHeaders l bytes offset bs

-- the bytes of a block that are the zone's own: its header, and of a master block its contents too
abbrev pub own_bytes : HeadKind → ℕ → RawBlock → List ℕ
own_bytes heads base b = head_bytes heads base (header_of heads b) ++ (if is_master b.role then b.contents else [])

-- a block's contents are in their place among bytes
abbrev pub AreWritten : List ℕ → ℕ → List ℕ → Type 0
AreWritten bytes at contents = part bytes at (length contents) ≡ contents

-- something holds of each master block's contents and their offset. The first of the blocks is at an offset
abbrev pub EachMaster : (ℕ → List ℕ → Type 0) → HeadKind → ℕ → List RawBlock → Type 0
EachMaster P heads at [] = ⊤
EachMaster P heads at (b ∷ bs) = (b.role ≡ Master → P (at + head_size heads) b.contents) × EachMaster P heads (at + size_of heads b) bs

-- the own bytes of blocks are in their places among bytes, those of the first at an offset
pub record HasOwn (l : Layout) (bytes : List ℕ) (at : ℕ) (bs : List RawBlock) : Type 0 where
  pub headers : HasHeaders l bytes at bs
  pub masters : EachMaster (AreWritten bytes) l.heads at bs

-- so are those of the blocks from an offset up to another
pub record OwnBetween (l : Layout) (bytes : List ℕ) (from to : ℕ) : Type 0 where
  pub before : List RawBlock
  pub passed : List RawBlock
  pub after : List RawBlock
  pub blocks : l.blocks ≡ before ++ (passed ++ after)
  pub start : from ≡ zone_header + total_of l.heads before
  pub end : to ≡ from + total_of l.heads passed
  pub own : HasOwn l bytes from passed

-- the header of a block has the byte at an offset
pub record InHeader (l : Layout) (at : ℕ) : Type 0 where
  pub start : ℕ
  pub block : BlockAt l start
  pub low : start ≤ l.base + at
  pub high : l.base + at < start + head_size l.heads

-- the contents of a master block have the byte at an offset
pub record InMaster (l : Layout) (at : ℕ) : Type 0 where
  pub start : ℕ
  pub block : BlockAt l start
  pub master : block.here.role ≡ Master
  pub low : start + head_size l.heads ≤ l.base + at
  pub high : l.base + at < start + head_size l.heads + length block.here.contents
