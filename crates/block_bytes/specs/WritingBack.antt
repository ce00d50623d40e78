-- What a `&mut` slice of the memory, or of a block's contents, leaves there.
use Rattle.std.specs.Prelude.{ℕ, ◌+◌, ◌==◌, if◌then◌else◌, List, [], ◌∷◌, take}
use Rattle.std.specs.Borrow.{Lends, Array, MutBor, Fml, u8}
use Rattle.mac_base.specs.declared.block.HeadKind.{HeadKind}
use Rattle.mac_base.specs.ZoneState.{overwritten}
use Rattle.raw_region.specs.State.{State, with_bytes}
use Rattle.block_bytes.specs.Layout.{RawBlock, Layout, size_of, address_after, with_blocks}
use Rattle.block_bytes.specs.contracts.memory.Memory.{the_row as memory_row}
use Rattle.block_bytes.specs.contracts.blocks.Blocks.{the_row as blocks_row}

-- the n bytes of the memory from a place on end with what is left after the slice
abbrev pub WritesBackPart : MutBor State → ℕ → ℕ → MutBor (List ℕ) → Fml
WritesBackPart memory at n slice = Lends memory_row (Array u8 0) memory slice (λ ws. with_bytes memory.now at (take n ws))

-- the blocks, the first of which is at an address, with bytes written over the contents of the one at x
abbrev pub overwritten_at : HeadKind → ℕ → ℕ → List ℕ → List RawBlock → List RawBlock
overwritten_at heads at x bytes [] = []
overwritten_at heads at x bytes (b ∷ bs) =
    if at == x then record b { contents = overwritten b.contents bytes } ∷ bs else b ∷ overwritten_at heads (at + size_of heads b) x bytes bs

-- the zone with bytes written over the contents of the block at x
abbrev pub with_contents_at : Layout → ℕ → List ℕ → Layout
with_contents_at l x bytes = with_blocks (overwritten_at l.heads (address_after l []) x bytes l.blocks) l

-- the contents of the block at x end with what is left after the slice
abbrev pub WritesBackContents : MutBor Layout → ℕ → MutBor (List ℕ) → Fml
WritesBackContents blocks x slice = Lends blocks_row (Array u8 0) blocks slice (with_contents_at blocks.now x)
