-- What the leaves of a tree are: the nodes of 512 bytes that each name the next one, from the first on.
use Rattle.std.specs.Prelude.{◌≡◌, ◌<◌, ℕ, zero, suc, ◌+◌, ◌-◌, ◌*◌, ◌/◌, ◌^◌, ◌==◌, min, nat_lt, nat_le, ◌&&◌, not, if◌then◌else◌, Bool, List, [], ◌∷◌, ◌++◌, length, slice_index, Option, None, Some, option_map, Result, Ok, Err}
use Rattle.std.specs.List.{list_any, slice_range}
use Rattle.byteorder.specs.Endian.{big_from}
use Rattle.fork_disk.specs.Disk.{bytes_at}
use Rattle.hfs_tree.specs.declared.extent.Extent.{Extent}
use Rattle.hfs_tree.specs.declared.extent.Layout.{Layout}
use Rattle.hfs_tree.specs.declared.fault.Condition.{Condition}
use Rattle.hfs_tree.specs.declared.fault.Condition.TheVariants.{Outside, Header, Again, NoLeaf, Crowded, Offset}
use Rattle.hfs_tree.specs.declared.fault.TreeFault.{TreeFault}
use Rattle.hfs_tree.specs.declared.leaf.Leaf.{Leaf}
use Rattle.hfs_tree.specs.declared.walk.Chain.{Chain}
use Rattle.hfs_tree.specs.declared.walk.Link.{Link}
use Rattle.hfs_tree.specs.Extents.{place_in}

-- a node's count of records, and where one of them begins: the offsets are at its end, the first of all last
abbrev pub count_of : List ℕ → ℕ
count_of node = big_from 10 2 node

abbrev pub offset_of : List ℕ → ℕ → ℕ
offset_of node row = big_from (510 - 2 * row) 2 node

-- a record begins after the one before it, the first at 14, and all of them before the offsets
abbrev pub is_good : List ℕ → ℕ → Bool
is_good node row = (if row == 0 then offset_of node row == 14 else nat_lt (offset_of node (row - 1)) (offset_of node row))
    && nat_le (offset_of node row + 2 * count_of node) 510

-- the first that doesn't, of so many from one on
unfoldable pub first_bad : List ℕ → ℕ → ℕ → Option ℕ
first_bad node row zero = None
first_bad node row (suc more) = if is_good node row then first_bad node (row + 1) more else Some row

-- the bytes of a record
abbrev pub row_at : List ℕ → ℕ → List ℕ
row_at node row = slice_range node (offset_of node row) (offset_of node (row + 1))

-- a fault of a leaf, at a place of its bytes
abbrev pub fault_in : Leaf → Condition → ℕ → ℕ → TreeFault
fault_in leaf condition row at = record { condition = condition; node = leaf.number; row = row; place = leaf.place + at }

-- what is wrong with a leaf as such
abbrev pub leaf_fault : Leaf → Option TreeFault
leaf_fault leaf =
    if not (slice_index leaf.bytes 8 == 255) then Some (fault_in leaf NoLeaf 0 8)
    else if nat_lt 248 (count_of leaf.bytes) then Some (fault_in leaf Crowded 0 10)
    else option_map (λ row. fault_in leaf Offset row (510 - 2 * row)) (first_bad leaf.bytes 0 (count_of leaf.bytes + 1))

-- a leaf that is one, and lies where a volume can have blocks
pub record IsLeaf (leaf : Leaf) : Type 0 where
  pub sound : leaf_fault leaf ≡ None
  pub low : leaf.place < 2 ^ 48

-- where in the volume a record is, and a fault of it
abbrev pub row_place : Leaf → ℕ → ℕ
row_place leaf row = leaf.place + offset_of leaf.bytes row

abbrev pub row_fault : Leaf → Condition → ℕ → TreeFault
row_fault leaf condition row = fault_in leaf condition row (offset_of leaf.bytes row)

-- The chain of leaves.

-- a fault of the node that a link leads to
abbrev pub fault_of : Link → Condition → TreeFault
fault_of link condition = record { condition = condition; node = link.node; row = 0; place = link.place }

-- a node that lies within the volume
abbrev pub within : ℕ → Option ℕ → Option ℕ
within size None = None
within size (Some place) = if nat_le (place + 512) size then Some place else None

-- where a node is
abbrev pub node_place : ℕ → Layout → List Extent → ℕ → Option ℕ
node_place size layout extents node = within size (place_in layout extents (node * 512))

-- a value, or why there is none
abbrev pub unless_fault : {T : Type 0} → T → Option TreeFault → Result T TreeFault
unless_fault value None = Ok value
unless_fault value (Some fault) = Err fault

abbrev pub leaf_in : List ℕ → Link → Option ℕ → Result Leaf TreeFault
leaf_in volume link None = Err (fault_of link Outside)
leaf_in volume link (Some place) =
    let leaf : Leaf = record { number = link.node; place = place; bytes = bytes_at 512 place volume } in unless_fault leaf (leaf_fault leaf)

-- the leaf that a link leads to
abbrev pub leaf_at : List ℕ → Layout → List Extent → Link → Result Leaf TreeFault
leaf_at volume layout extents link = leaf_in volume link (node_place (length volume) layout extents link.node)

-- the link in a leaf to the next one
abbrev pub link_in : Leaf → Link
link_in leaf = record { node = big_from 0 4 leaf.bytes; place = leaf.place }

-- leaves, and why there aren't more: the last leads to none, or there is a fault
pub record Leaves : Type 0 where
  pub leaves : List Leaf
  pub fault : Option TreeFault

abbrev pub ends : Option TreeFault → Leaves
ends fault = record { leaves = []; fault = fault }

abbrev pub leaf_before : Leaf → Leaves → Leaves
leaf_before leaf rest = record { leaves = leaf ∷ rest.leaves; fault = rest.fault }

-- which block of 512 bytes of the volume it is
abbrev pub block_of : Leaf → ℕ
block_of leaf = leaf.place / 512

-- whether one of these leaves is in this block
abbrev pub has_block : List Leaf → ℕ → Bool
has_block leaves block = list_any (λ (leaf : Leaf). block_of leaf == block) leaves

-- a leaf and those after it, unless it is one of those before
abbrev pub with_leaf : Link → List Leaf → Result Leaf TreeFault → (Leaf → Leaves) → Leaves
with_leaf link before (Err fault) others = ends (Some fault)
with_leaf link before (Ok leaf) others = if has_block before (block_of leaf) then ends (Some (fault_of link Again)) else leaf_before leaf (others leaf)

-- the leaves from a link on, of which there are at most so many, where these come before
unfoldable pub leaves_from : List ℕ → Layout → List Extent → ℕ → List Leaf → Link → Leaves
leaves_from volume layout extents zero before link = if link.node == 0 then ends None else ends (Some (fault_of link Again))
leaves_from volume layout extents (suc more) before link =
    if link.node == 0 then ends None
    else with_leaf link before (leaf_at volume layout extents link) (λ leaf. leaves_from volume layout extents more (before ++ leaf ∷ []) (link_in leaf))

-- how many blocks of 512 bytes a volume has, or the most that one can have
abbrev pub blocks_in : ℕ → ℕ
blocks_in size = min (size / 512) (2 ^ 39)

-- what a reading of leaves gives
abbrev pub leaves_in : Chain → Leaves
leaves_in chain = record { leaves = chain.leaves.items; fault = chain.fault }

-- the link to the first leaf, in the header at a place
abbrev pub first_link : List ℕ → Link → Option ℕ → Result Link TreeFault
first_link volume link None = Err (fault_of link Outside)
first_link volume link (Some place) = let header = bytes_at 512 place volume in
    if (slice_index header 8 == 1) && (big_from 32 2 header == 512) then Ok (record { node = big_from 24 4 header; place = place + 24 })
    else Err (record { condition = Header; node = 0; row = 0; place = place + 8 })

abbrev pub first_link_of : List ℕ → Layout → List Extent → ℕ → Result Link TreeFault
first_link_of volume layout extents place = first_link volume (record { node = 0; place = place }) (node_place (length volume) layout extents 0)

abbrev pub leaves_after : List ℕ → Layout → List Extent → Result Link TreeFault → Leaves
leaves_after volume layout extents (Err fault) = ends (Some fault)
leaves_after volume layout extents (Ok link) = leaves_from volume layout extents (blocks_in (length volume)) [] link

-- the leaves of the tree in these extents, which are given at a place
abbrev pub leaves_of : List ℕ → Layout → List Extent → ℕ → Leaves
leaves_of volume layout extents place = leaves_after volume layout extents (first_link_of volume layout extents place)
