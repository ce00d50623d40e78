-- Runs of allocation blocks, and where their bytes are.
use Rattle.std.specs.Prelude.{ℕ, ◌+◌, ◌-◌, ◌*◌, ◌/◌, ◌%◌, nat_lt, if◌then◌else◌, List, [], ◌∷◌, Option, None, Some}
use Rattle.std.specs.List.{take_while}
use Rattle.byteorder.specs.Endian.{big_from}
use Rattle.hfs_tree.specs.declared.extent.Extent.{Extent}
use Rattle.hfs_tree.specs.declared.extent.Layout.{Layout}

abbrev pub extent_at : ℕ → List ℕ → Extent
extent_at at bytes = record { start = big_from at 2 bytes; count = big_from (at + 2) 2 bytes }

-- the three extents at a place; one without blocks ends them
abbrev pub extents_at : ℕ → List ℕ → List Extent
extents_at at bytes = take_while (λ (e : Extent). nat_lt 0 e.count) (extent_at at bytes ∷ extent_at (at + 4) bytes ∷ extent_at (at + 8) bytes ∷ [])

-- where a byte of a block is, if the block is one of the volume's
abbrev pub place_at : Layout → ℕ → ℕ → Option ℕ
place_at layout block at = if nat_lt block layout.count then Some (layout.offset + (block * layout.size + at)) else None

-- where in the volume a byte of extents is
unfoldable pub place_in : Layout → List Extent → ℕ → Option ℕ
place_in layout [] at = None
place_in layout (extent ∷ extents) at =
    if nat_lt at (extent.count * layout.size) then place_at layout (extent.start + at / layout.size) (at % layout.size)
    else place_in layout extents (at - extent.count * layout.size)
