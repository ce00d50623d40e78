-- A zone as a list of blocks, each with all bytes after its header.
use Rattle.std.specs.Prelude.{◌≡◌, ℕ, suc, ◌+◌, ◌-◌, ◌≤◌, ◌<◌, ◌^◌, ◌%◌, Bool, true, false, not, ◌&&◌, ◌||◌, ◌==◌, nat_le, nat_lt, if◌then◌else◌, IsTrue, IsFalse, List, [], ◌∷◌, ◌++◌, length, take, drop, replicate}
use Rattle.std.specs.List.{list_all}
use Rattle.byteorder.specs.Endian.{big_bytes}
use Rattle.raw_region.specs.Bytes.{written}
use Rattle.mac_base.specs.ZoneState.{Memory}
use Rattle.raw_region.specs.State.{Loan}
use Rattle.mac_base.specs.declared.block.Flags.{Flags}
use Rattle.mac_base.specs.declared.block.HeadKind.{HeadKind}
use Rattle.mac_base.specs.declared.block.HeadKind.TheVariants.{Bits24, Bits32}
use Rattle.mac_base.specs.HeadKind.{head_size, smallest_block, zone_header}
use Rattle.block_bytes.specs.declared.header.Header.{Header}
use Rattle.block_bytes.specs.declared.header.Role.{Role}
use Rattle.block_bytes.specs.declared.header.Role.TheVariants.{Free, Fixed, Master, Relocatable}
use Rattle.block_bytes.specs.Head.{most_over, head_bytes}
use Rattle.block_bytes.specs.ZoneHead.{zone_head}

-- a block: what it is for, its contents, the bytes after them that are over, and whether its contents are lent. Those
-- of a lent block are the bytes that were there when it was lent
pub record RawBlock : Type 0 where
  pub role : Role
  pub contents : List ℕ
  pub slack : List ℕ
  pub lent : Bool

-- all bytes after a block's header
abbrev pub body : RawBlock → List ℕ
body b = b.contents ++ b.slack

-- a block with this body, of which the first bytes are its contents
abbrev pub raw_block : Role → ℕ → List ℕ → RawBlock
raw_block role length bytes = record { role = role; contents = take length bytes; slack = drop length bytes; lent = false }

-- a free block with this body
abbrev pub free_raw_block : List ℕ → RawBlock
free_raw_block bytes = record { role = Free; contents = bytes; slack = []; lent = false }

-- the physical size of a block
abbrev pub size_of : HeadKind → RawBlock → ℕ
size_of heads b = head_size heads + (length b.contents + length b.slack)

-- the sum of the sizes
abbrev pub total_of : HeadKind → List RawBlock → ℕ
total_of heads [] = 0
total_of heads (b ∷ bs) = size_of heads b + total_of heads bs

-- whether a block is free
abbrev pub is_free : Role → Bool
is_free Free = true
is_free Fixed = false
is_free Master = false
is_free (Relocatable slot flags) = false

-- whether a block is a handle's or a pointer's
abbrev pub has_owner : Role → Bool
has_owner Free = false
has_owner Fixed = true
has_owner Master = false
has_owner (Relocatable slot flags) = true

-- the sum of the sizes of the free blocks
abbrev pub free_total : HeadKind → List RawBlock → ℕ
free_total heads [] = 0
free_total heads (b ∷ bs) = (if is_free b.role then size_of heads b else 0) + free_total heads bs

-- where the first free block begins, if the first block begins here; 0 where none is free
abbrev pub first_free : HeadKind → ℕ → List RawBlock → ℕ
first_free heads at [] = 0
first_free heads at (b ∷ bs) = if is_free b.role then at else first_free heads (at + size_of heads b) bs

-- how many blocks are lent
abbrev pub lent_count : List RawBlock → ℕ
lent_count [] = 0
lent_count (b ∷ bs) = if b.lent then suc (lent_count bs) else lent_count bs

-- how many may be
abbrev pub most_lent : ℕ
most_lent = 8

-- the header of a block
abbrev pub header_of : HeadKind → RawBlock → Header
header_of heads b = record { size = size_of heads b; role = b.role; correction = length b.slack }

-- whether a header can say these flags: in a zone of 24-bit blocks a header says none
abbrev pub can_say : HeadKind → Flags → Bool
can_say Bits24 flags = not flags.lock && (not flags.purge && not flags.resource)
can_say Bits32 flags = true

-- whether what the block is for can be said in a header: a free block has no bytes over, an offset has 32 bits
abbrev pub can_be_told : HeadKind → Role → ℕ → Bool
can_be_told heads Free correction = correction == 0
can_be_told heads Fixed correction = true
can_be_told heads Master correction = true
can_be_told heads (Relocatable slot flags) correction = nat_lt slot (2 ^ 32) && can_say heads flags

-- whether a block of a zone may be like this: its size is a multiple of four and not below the smallest, few bytes are
-- over, and only a handle's or a pointer's block is lent
abbrev pub is_possible : HeadKind → RawBlock → Bool
is_possible heads b = (size_of heads b % 4 == 0) && (nat_le (smallest_block heads) (size_of heads b)
    && (nat_le (length b.slack) (most_over heads) && (can_be_told heads b.role (length b.slack) && (not b.lent || has_owner b.role))))

-- blocks as bytes, one after the other
abbrev pub rendered : HeadKind → ℕ → List RawBlock → List ℕ
rendered heads base [] = []
rendered heads base (b ∷ bs) = head_bytes heads base (header_of heads b) ++ (b.contents ++ (b.slack ++ rendered heads base bs))

-- a zone: the memory that it is in, where it begins and how its blocks are headed, the number that its header says of
-- the free slots, its blocks, and the bytes up to its limit
pub record Layout : Type 0 where
  pub memory : Memory
  pub heads : HeadKind
  pub base : ℕ
  pub front : ℕ
  pub blocks : List RawBlock
  pub spare : List ℕ

-- where the blocks after these begin
abbrev pub address_after : Layout → List RawBlock → ℕ
address_after l before = l.base + zone_header + total_of l.heads before

-- the bytes of its header
abbrev pub header_bytes : Layout → List ℕ
header_bytes l = zone_head (address_after l l.blocks) l.front (free_total l.heads l.blocks) (first_free l.heads (address_after l []) l.blocks)

-- all its bytes
abbrev pub image_of : Layout → List ℕ
image_of l = header_bytes l ++ (rendered l.heads l.base l.blocks ++ l.spare)

-- those up to the end of its last block
abbrev pub zone_bytes : Layout → List ℕ
zone_bytes l = header_bytes l ++ rendered l.heads l.base l.blocks

-- the zone with other blocks
abbrev pub with_blocks : List RawBlock → Layout → Layout
with_blocks bs l = record l { blocks = bs }

-- the zone with another number of the free slots
abbrev pub with_front : ℕ → Layout → Layout
with_front n l = record l { front = n }

-- no block is lent
abbrev pub NothingLent : Layout → Type 0
NothingLent l = lent_count l.blocks ≡ 0

-- a block's header is at this address
pub record BlockAt (l : Layout) (at : ℕ) : Type 0 where
  pub before : List RawBlock
  pub here : RawBlock
  pub after : List RawBlock
  pub blocks : l.blocks ≡ before ++ here ∷ after
  pub place : at ≡ address_after l before

-- that of a block that isn't lent
pub record UnlentAt (l : Layout) (at : ℕ) : Type 0 where
  pub block : BlockAt l at
  pub unlent : block.here.lent ≡ false

-- the four bytes at this address are among the contents of a block that isn't lent
pub record WordAt (l : Layout) (at : ℕ) : Type 0 where
  pub before : List RawBlock
  pub here : RawBlock
  pub after : List RawBlock
  pub offset : ℕ
  pub blocks : l.blocks ≡ before ++ here ∷ after
  pub place : at ≡ address_after l before + head_size l.heads + offset
  pub inside : offset + 4 ≤ length here.contents
  pub unlent : here.lent ≡ false

-- a block with a number written as four bytes of its contents
abbrev pub with_word : RawBlock → ℕ → ℕ → RawBlock
with_word b offset number = record b { contents = written b.contents offset (big_bytes 4 number) }

-- a block whose contents are zero
abbrev pub cleared : RawBlock → RawBlock
cleared b = record b { contents = replicate (length b.contents) 0 }

-- a block whose contents are zero from a place among them on
abbrev pub cleared_from : RawBlock → ℕ → RawBlock
cleared_from b from = record b { contents = take from b.contents ++ replicate (length b.contents - from) 0 }

-- the block at an address has so many bytes of contents, and isn't lent
pub record CanClear (l : Layout) (at from : ℕ) : Type 0 where
  pub block : BlockAt l at
  pub within : from ≤ length block.here.contents
  pub unlent : block.here.lent ≡ false

-- the block at an address isn't lent, and can be made one for this, with so many bytes of contents
pub record CanBe (l : Layout) (at : ℕ) (role : Role) (n : ℕ) : Type 0 where
  pub block : BlockAt l at
  pub within : n ≤ length (body block.here)
  pub possible : IsTrue (is_possible l.heads (raw_block role n (body block.here)))
  pub unlent : block.here.lent ≡ false

-- a block that is for something else
abbrev pub in_role : RawBlock → Role → RawBlock
in_role b role = record b { role = role }

-- the block at an address, lent or not, can be one for this with its contents, and is as free then as now
pub record CanTurn (l : Layout) (at : ℕ) (role : Role) : Type 0 where
  pub block : BlockAt l at
  pub possible : IsTrue (is_possible l.heads (in_role block.here role))
  pub same : is_free role ≡ is_free block.here.role

-- the block at an address isn't lent, and can have so many bytes of contents
pub record CanResize (l : Layout) (at n : ℕ) : Type 0 where
  pub block : BlockAt l at
  pub within : n ≤ length (body block.here)
  pub possible : IsTrue (is_possible l.heads (raw_block block.here.role n (body block.here)))
  pub unlent : block.here.lent ≡ false

-- the block at an address isn't lent, and can be cut in two, the first part of so many bytes with so many of contents
pub record CanSplit (l : Layout) (at size n : ℕ) : Type 0 where
  pub block : BlockAt l at
  pub large : head_size l.heads ≤ size
  pub within : n ≤ size - head_size l.heads
  pub smaller : size + head_size l.heads ≤ size_of l.heads block.here
  pub front : IsTrue (is_possible l.heads (raw_block block.here.role n (take (size - head_size l.heads) (body block.here))))
  pub rest : IsTrue (is_possible l.heads (free_raw_block (drop size (body block.here))))
  pub unlent : block.here.lent ≡ false

-- the two parts then
abbrev pub front_of : {at size n : ℕ} → (l : Layout) → CanSplit l at size n → RawBlock
front_of {size = size} {n = n} l can = raw_block can.block.here.role n (take (size - head_size l.heads) (body can.block.here))

abbrev pub rest_of : {at size n : ℕ} → (l : Layout) → CanSplit l at size n → RawBlock
rest_of {size = size} l can = free_raw_block (drop size (body can.block.here))

-- all bytes of two neighbours after the header of the first
abbrev pub joint_body : Layout → RawBlock → RawBlock → List ℕ
joint_body l b c = body b ++ (head_bytes l.heads l.base (header_of l.heads c) ++ body c)

-- two neighbours, the first at an address, neither of them lent
pub record PairAt (l : Layout) (at : ℕ) : Type 0 where
  pub before : List RawBlock
  pub here : RawBlock
  pub next : RawBlock
  pub after : List RawBlock
  pub blocks : l.blocks ≡ before ++ here ∷ next ∷ after
  pub place : at ≡ address_after l before
  pub unlent_here : here.lent ≡ false
  pub unlent_next : next.lent ≡ false

-- the block at an address and the one after it can be made one block with so many bytes of contents
pub record CanMerge (l : Layout) (at n : ℕ) : Type 0 where
  pub pair : PairAt l at
  pub within : n ≤ length (joint_body l pair.here pair.next)
  pub possible : IsTrue (is_possible l.heads (raw_block pair.here.role n (joint_body l pair.here pair.next)))

-- a block that has moved is the same, but a free one may have other bytes
pub record IsMoved (old new : RawBlock) : Type 0 where
  pub same : IsFalse (is_free old.role) → new ≡ old
  pub role : new.role ≡ old.role
  pub contents : length new.contents ≡ length old.contents
  pub slack : new.slack ≡ old.slack
  pub lent : new.lent ≡ old.lent

-- whether none of these is lent
abbrev pub none_lent : List RawBlock → Bool
none_lent bs = list_all (λ (b : RawBlock). not b.lent) bs

-- a block and the others after it are between two addresses, none of them lent
pub record ParcelAt (l : Layout) (at end : ℕ) : Type 0 where
  pub before : List RawBlock
  pub here : RawBlock
  pub others : List RawBlock
  pub after : List RawBlock
  pub blocks : l.blocks ≡ before ++ (here ∷ others ++ after)
  pub place : at ≡ address_after l before
  pub long : end ≡ at + total_of l.heads (here ∷ others)
  pub unlent : IsTrue (none_lent (here ∷ others))

-- the block is after the others. The bytes of a free one may be other ones
pub record Carried (old : Layout) {at end : ℕ} (parcel : ParcelAt old at end) (new : Layout) : Type 0 where
  pub moved : RawBlock
  pub blocks : new ≡ with_blocks (parcel.before ++ (parcel.others ++ moved ∷ parcel.after)) old
  pub same : IsMoved parcel.here moved

-- some blocks lie from an address on, and a block after them at another, none of them lent
pub record ParcelUpTo (l : Layout) (start at : ℕ) : Type 0 where
  pub before : List RawBlock
  pub others : List RawBlock
  pub here : RawBlock
  pub after : List RawBlock
  pub blocks : l.blocks ≡ before ++ (others ++ here ∷ after)
  pub place : start ≡ address_after l before
  pub long : at ≡ start + total_of l.heads others
  pub unlent : IsTrue (none_lent (others ++ here ∷ []))

-- the block is before the others. The bytes of a free one may be other ones
pub record Sunk (old : Layout) {start at : ℕ} (parcel : ParcelUpTo old start at) (new : Layout) : Type 0 where
  pub moved : RawBlock
  pub blocks : new ≡ with_blocks (parcel.before ++ (moved ∷ parcel.others ++ parcel.after)) old
  pub same : IsMoved parcel.here moved

-- the block at an address can be lent: it is a handle's or a pointer's, it isn't lent yet, and few are
pub record CanLend (l : Layout) (at : ℕ) : Type 0 where
  pub block : BlockAt l at
  pub owned : IsTrue (has_owner block.here.role)
  pub unlent : block.here.lent ≡ false
  pub few : lent_count l.blocks < most_lent

-- the loan of the block at an address: its contents, in their place
abbrev pub loan_of : {at : ℕ} → (l : Layout) → BlockAt l at → Loan
loan_of l b = record { name = l.memory.region; at = zone_header + total_of l.heads b.before + head_size l.heads; bytes = b.here.contents }

-- a block that is lent
abbrev pub lent_block : RawBlock → RawBlock
lent_block b = record b { lent = true }

-- this is the loan of the block at an address, maybe with other bytes
pub record IsLoanOf (l : Layout) (at : ℕ) (loan : Loan) : Type 0 where
  pub block : BlockAt l at
  pub lent : block.here.lent ≡ true
  pub name : loan.name ≡ l.memory.region
  pub place : loan.at ≡ zone_header + total_of l.heads block.before + head_size l.heads
  pub long : length loan.bytes ≡ length block.here.contents

-- a block that was lent, with the bytes that came back
abbrev pub given_back : RawBlock → List ℕ → RawBlock
given_back b bytes = record b { contents = bytes; lent = false }

-- a free block of these bytes, the first of which its header takes the place of; none where there are no bytes
abbrev pub free_block_of : HeadKind → List ℕ → List RawBlock
free_block_of heads [] = []
free_block_of heads (x ∷ xs) = free_raw_block (drop (head_size heads) (x ∷ xs)) ∷ []

-- the zone grown to its limit: the bytes up to there are a free block after the others
abbrev pub extended : Layout → Layout
extended l = record l { blocks = l.blocks ++ free_block_of l.heads l.spare; spare = [] }
