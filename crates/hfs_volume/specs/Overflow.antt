-- Records of the extents tree, and the extents of forks.
use Rattle.std.specs.Prelude.{ℕ, zero, suc, ◌==◌, nat_le, ◌&&◌, not, if◌then◌else◌, Bool, List, [], ◌∷◌, ◌++◌, length, slice_index, sum_by, find, Option, None, Some, Result, Ok, Err}
use Rattle.std.specs.List.{slice_range}
use Rattle.byteorder.specs.Endian.{big_from}
use Rattle.hfs_tree.specs.declared.extent.Extent.{Extent}
use Rattle.hfs_tree.specs.declared.fault.Condition.TheVariants.{Key}
use Rattle.hfs_tree.specs.declared.fault.TreeFault.{TreeFault}
use Rattle.hfs_tree.specs.declared.leaf.Leaf.{Leaf}
use Rattle.hfs_tree.specs.Extents.{extents_at}
use Rattle.hfs_tree.specs.Leaves.{row_at, row_fault}
use Rattle.hfs_volume.specs.declared.overflow.Overflow.{Overflow}

-- its key has 7 bytes, and three extents follow
abbrev pub has_extents : List ℕ → Bool
has_extents bytes = (slice_index bytes 0 == 7) && nat_le 20 (length bytes)

abbrev pub overflow_at : Leaf → ℕ → Result Overflow TreeFault
overflow_at leaf row = let bytes = row_at leaf.bytes row in
    if not (has_extents bytes) then Err (row_fault leaf Key row)
    else Ok (record { id = big_from 2 4 bytes; fork = slice_index bytes 1; after = big_from 6 2 bytes; extents = slice_range bytes 8 20 })

-- how many blocks extents have
abbrev pub block_count : List Extent → ℕ
block_count extents = sum_by (λ (e : Extent). e.count) extents

-- the record of a fork whose extents come after so many blocks
abbrev pub comes_after : ℕ → ℕ → ℕ → Overflow → Bool
comes_after id fork blocks row = (row.id == id) && (row.fork == fork) && (row.after == blocks)

abbrev pub next_extents : Option Overflow → List Extent
next_extents None = []
next_extents (Some row) = extents_at 0 row.extents

-- extents with others after them, if there are any
abbrev pub with_more : List Extent → List Extent → (List Extent → List Extent) → List Extent
with_more so_far [] others = so_far
with_more so_far (extent ∷ extents) others = others (so_far ++ extent ∷ extents)

-- The extents of a fork that needs so many blocks: these, and those of the records that come after them, one after
-- another, until there are enough or no more. Each record has a block at least.
unfoldable pub fork_extents : ℕ → List Overflow → ℕ → ℕ → ℕ → List Extent → List Extent
fork_extents zero rows id fork needed so_far = so_far
fork_extents (suc more) rows id fork needed so_far =
    if nat_le needed (block_count so_far) then so_far
    else with_more so_far (next_extents (find (comes_after id fork (block_count so_far)) rows)) (λ extents. fork_extents more rows id fork needed extents)
