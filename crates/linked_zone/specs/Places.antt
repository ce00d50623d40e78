-- Places of blocks in a zone map, by the address of the header.
use Rattle.std.specs.Prelude.{◌≡◌, ℕ, ◌+◌, ◌-◌, ◌<◌, ◌≤◌, ◌⊎◌, Bool, true, false, not, ◌&&◌, IsTrue, [], ◌∷◌, ◌++◌, ⊤}
use Rattle.std.specs.List.{list_all}
use Rattle.mac_base.specs.declared.block.Entry.{Entry}
use Rattle.mac_base.specs.declared.block.Kind.TheVariants.{Free, Master, Ptr, Rel}
use Rattle.mac_base.specs.declared.block.Kind.{Kind}
use Rattle.mac_base.specs.HandleTable.{HandleTable, is_handle}
use Rattle.mac_base.specs.Loans.{is_here}
use Rattle.mac_base.specs.ZoneMap.{ZoneMap, block, has_free, is_free, is_named, address_after, total_size}
use Rattle.mac_base.specs.Suits.{is_block_size, has_length}
use Rattle.mac_base.specs.HeadKind.{Shape}
use Rattle.mac_base.specs.ZoneState.{ZoneState}

-- a block's header is at an address
pub record EntryAt (z : ZoneState) (at : ℕ) : Type 0 where
  pub before : ZoneMap
  pub here : Entry
  pub after : ZoneMap
  pub map : z.heap.map ≡ before ++ here ∷ after
  pub place : at ≡ address_after z.shape before

-- the handle whose block a block of this kind is is live
abbrev pub HasOwner : ZoneState → Kind → Type 0
HasOwner z (Rel h) = IsTrue (is_handle z.heap.table h)
HasOwner z Free = ⊤
HasOwner z Master = ⊤
HasOwner z (Ptr p) = ⊤

-- a free block's
pub record FreeAt (z : ZoneState) (at : ℕ) : Type 0 where
  pub before : ZoneMap
  pub size : ℕ
  pub after : ZoneMap
  pub map : z.heap.map ≡ before ++ block Free size ∷ after
  pub place : at ≡ address_after z.shape before

-- that of the block of the handle h
pub record BlockOf (z : ZoneState) (h at : ℕ) : Type 0 where
  pub before : ZoneMap
  pub size : ℕ
  pub after : ZoneMap
  pub map : z.heap.map ≡ before ++ block (Rel h) size ∷ after
  pub place : at ≡ address_after z.shape before

-- the header of the lowest free block of at least k bytes
pub record LowestAt (z : ZoneState) (k at : ℕ) : Type 0 where
  pub free : FreeAt z at
  pub large : k ≤ free.size
  pub lowest : IsTrue (list_all (λ e. not (has_free k e)) free.before)

-- a free block that can be given to an owner who wants n bytes
pub record RoomFor (z : ZoneState) (at n : ℕ) : Type 0 where
  pub free : FreeAt z at
  pub room : IsTrue (has_length z.shape free.size n)

-- a free block that can be cut in two, the first of so many bytes
pub record CanCut (z : ZoneState) (at size : ℕ) : Type 0 where
  pub free : FreeAt z at
  pub smaller : size < free.size
  pub front : IsTrue (is_block_size z.shape size)
  pub rest : IsTrue (is_block_size z.shape (free.size - size))

-- two free neighbours, the first at an address
pub record FreePair (z : ZoneState) (at : ℕ) : Type 0 where
  pub before : ZoneMap
  pub first : ℕ
  pub second : ℕ
  pub after : ZoneMap
  pub map : z.heap.map ≡ before ++ block Free first ∷ block Free second ∷ after
  pub place : at ≡ address_after z.shape before

-- that of the block of x, a handle or a pointer
pub record NamedAt (z : ZoneState) (x at : ℕ) : Type 0 where
  pub before : ZoneMap
  pub here : Entry
  pub after : ZoneMap
  pub map : z.heap.map ≡ before ++ here ∷ after
  pub place : at ≡ address_after z.shape before
  pub named : IsTrue (is_named x here.kind)

-- a block of so many bytes, n of them contents, can be the front of this many; what is over is nothing or a block
pub record CanFront (s : Shape) (whole size n : ℕ) : Type 0 where
  pub within : size ≤ whole
  pub front : IsTrue (is_block_size s size)
  pub room : IsTrue (has_length s size n)
  pub rest : (size ≡ whole) ⊎ IsTrue (is_block_size s (whole - size))

-- the block of x can be cut to its first bytes, so many with n of contents
pub record CanHold (z : ZoneState) (x size n : ℕ) : Type 0 where
  pub before : ZoneMap
  pub here : Entry
  pub after : ZoneMap
  pub map : z.heap.map ≡ before ++ here ∷ after
  pub named : IsTrue (is_named x here.kind)
  pub fits : CanFront z.shape here.size size n

-- it can take bytes of the free block right after it, to be so many with n of contents
pub record CanGrow (z : ZoneState) (x size n : ℕ) : Type 0 where
  pub before : ZoneMap
  pub here : Entry
  pub free : ℕ
  pub after : ZoneMap
  pub map : z.heap.map ≡ before ++ here ∷ block Free free ∷ after
  pub named : IsTrue (is_named x here.kind)
  pub larger : here.size ≤ size
  pub fits : CanFront z.shape (here.size + free) size n

-- whether a block may move: one of a handle, or free bytes
abbrev pub is_movable : Kind → Bool
is_movable Free = true
is_movable Master = false
is_movable (Ptr p) = false
is_movable (Rel h) = true

-- two neighbours that may move and aren't lent, the first at an address
pub record MovablePair (z : ZoneState) (at : ℕ) : Type 0 where
  pub before : ZoneMap
  pub first : Entry
  pub second : Entry
  pub after : ZoneMap
  pub map : z.heap.map ≡ before ++ first ∷ second ∷ after
  pub place : at ≡ address_after z.shape before
  pub first_moves : IsTrue (is_movable first.kind)
  pub second_moves : IsTrue (is_movable second.kind)
  pub first_here : IsTrue (is_here z.heap.table first.kind)
  pub second_here : IsTrue (is_here z.heap.table second.kind)

-- whether a block may be moved now: it may move, and isn't lent
abbrev pub can_move : HandleTable → Kind → Bool
can_move t kind = is_movable kind && is_here t kind

-- whether all blocks can
abbrev pub all_can_move : HandleTable → ZoneMap → Bool
all_can_move t blocks = list_all (λ (e : Entry). can_move t e.kind) blocks

-- a block and a run after it can be moved, and are between two addresses
pub record ParcelAt (z : ZoneState) (start end : ℕ) : Type 0 where
  pub before : ZoneMap
  pub here : Entry
  pub blocks : ZoneMap
  pub after : ZoneMap
  pub map : z.heap.map ≡ before ++ (here ∷ blocks ++ after)
  pub place : start ≡ address_after z.shape before
  pub long : end ≡ start + (here.size + total_size blocks)
  pub moves : IsTrue (all_can_move z.heap.table (here ∷ blocks))

-- a run that can be moved lies from an address on, and a block after it, which can be moved too, at another
pub record ParcelUpTo (z : ZoneState) (start at : ℕ) : Type 0 where
  pub before : ZoneMap
  pub blocks : ZoneMap
  pub here : Entry
  pub after : ZoneMap
  pub map : z.heap.map ≡ before ++ (blocks ++ here ∷ after)
  pub place : start ≡ address_after z.shape before
  pub long : at ≡ start + total_size blocks
  pub moves : IsTrue (all_can_move z.heap.table (blocks ++ here ∷ []))

-- the blocks from an address on, which is that of a block or of the end of the last
pub record SplitAt (z : ZoneState) (at : ℕ) : Type 0 where
  pub before : ZoneMap
  pub after : ZoneMap
  pub map : z.heap.map ≡ before ++ after
  pub place : at ≡ address_after z.shape before

-- whether none of these blocks is free
abbrev pub none_free : ZoneMap → Bool
none_free blocks = list_all (λ (e : Entry). not (is_free e.kind)) blocks

-- the last free one of these blocks, which begin at an address, is at another
pub record LastFree (blocks : ZoneMap) (from at : ℕ) : Type 0 where
  pub front : ZoneMap
  pub size : ℕ
  pub passed : ZoneMap
  pub splits : blocks ≡ front ++ block Free size ∷ passed
  pub used : IsTrue (none_free passed)
  pub place : at ≡ from + total_size front

-- the first free one of these blocks, which begin at an address, is at another
pub record FirstFree (blocks : ZoneMap) (from at : ℕ) : Type 0 where
  pub passed : ZoneMap
  pub size : ℕ
  pub after : ZoneMap
  pub splits : blocks ≡ passed ++ block Free size ∷ after
  pub used : IsTrue (none_free passed)
  pub place : at ≡ from + total_size passed

-- the block at an address is the first that begins at another or after it
pub record FirstFrom (z : ZoneState) (from at : ℕ) : Type 0 where
  pub block : EntryAt z at
  pub reached : from ≤ at
  pub first : (other : ℕ) → EntryAt z other → from ≤ other → at ≤ other

-- all blocks begin before an address
abbrev pub NoneFrom : ZoneState → ℕ → Type 0
NoneFrom z from = (at : ℕ) → EntryAt z at → at < from
