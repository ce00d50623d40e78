-- What the index holds: a number for each four bytes of a zone, which says what block begins with them, or that none
-- does.
use Rattle.std.specs.Prelude.{ℕ, ◌+◌, ◌-◌, ◌*◌, ◌/◌, ◌<◌, ◌≤◌, nat_lt, if◌then◌else◌, List, [], ◌∷◌, ◌++◌, length, replicate, slice_index}
use Rattle.mac_base.specs.declared.block.HeadKind.{HeadKind}
use Rattle.mac_base.specs.HeadKind.{zone_header}
use Rattle.block_bytes.specs.declared.header.Header.{Header}
use Rattle.block_bytes.specs.Layout.{RawBlock, Layout, is_free, size_of, header_of}

-- the number of a free block
abbrev pub free_mark : ℕ
free_mark = 3

-- the number of a block with this header that isn't lent
abbrev pub mark_in : Header → ℕ
mark_in h = if is_free h.role then free_mark else 1

-- how many bytes are free by a block with this header
abbrev pub free_in : Header → ℕ
free_in h = if is_free h.role then h.size else 0

-- the number of a lent block
abbrev pub lent_mark : ℕ
lent_mark = 2

-- the number of a block
abbrev pub mark_of : HeadKind → RawBlock → ℕ
mark_of heads b = if b.lent then lent_mark else mark_in (header_of heads b)

-- the numbers of blocks, one after the other: 0 where none begins
abbrev pub marks_of : HeadKind → List RawBlock → List ℕ
marks_of heads [] = []
marks_of heads (b ∷ bs) = mark_of heads b ∷ (replicate (size_of heads b / 4 - 1) 0 ++ marks_of heads bs)

-- those of a zone, with 0 in its header and after its last block
abbrev pub starts_of : Layout → List ℕ
starts_of l = replicate (zone_header / 4) 0 ++ (marks_of l.heads l.blocks ++ replicate (length l.spare / 4) 0)

-- the address of the first place whose number is that of a free block, from the start of these numbers on; 0 where
-- there is none
abbrev pub first_marked : ℕ → List ℕ → ℕ
first_marked at [] = 0
first_marked at (m ∷ ms) = if nat_lt lent_mark m then at else first_marked (at + 4) ms

-- no number of a free block is before a place and below an address; where the address is below the first number's,
-- none is before the place
abbrev pub NoneLower : ℕ → ℕ → ℕ → List ℕ → Type 0
NoneLower at lowest place ms = (j : ℕ) → j < place → (at ≤ lowest → at + 4 * j < lowest) → slice_index ms j ≤ lent_mark
