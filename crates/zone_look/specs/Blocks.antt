-- The blocks of a zone: one chain from the end of the zone's header on, in which each begins where the one before ends.
use Rattle.std.specs.Prelude.{◌≡◌, ℕ, ◌+◌, ◌-◌, ◌/◌, ◌%◌, ◌==◌, nat_lt, if◌then◌else◌, List, [], ◌∷◌, drop, Option, Some, None, Result, Ok, Err}
use Rattle.mac_base.specs.declared.block.Block.{Block}
use Rattle.mac_base.specs.declared.block.Flags.{Flags}
use Rattle.mac_base.specs.declared.block.HeadKind.{HeadKind}
use Rattle.mac_base.specs.declared.block.HeadKind.TheVariants.{Bits24, Bits32}
use Rattle.mac_base.specs.declared.block.Kind.{Kind}
use Rattle.mac_base.specs.declared.block.Kind.TheVariants.{Free, Master, Ptr, Rel}
use Rattle.mac_base.specs.FlagState.{flags_from}
use Rattle.mac_base.specs.HandleTable.{no_flags}
use Rattle.mac_base.specs.HeadKind.{head_size, zone_header}
use Rattle.zone_look.specs.declared.fault.Fault.{Fault}
use Rattle.zone_look.specs.declared.fault.Problem.TheVariants.{CutHeader, Overlaps, LeavesZone, OddSize, BadTag, BadZone, BadHandle, BadMaster}
use Rattle.zone_look.specs.declared.head.Head.{Head}
use Rattle.zone_look.specs.declared.head.Tag.{Tag}
use Rattle.zone_look.specs.declared.head.Tag.TheVariants as tags
use Rattle.zone_look.specs.Head.{head_in}
use Rattle.zone_look.specs.Memory.{Memory, address_in, fault_at, word_at}

-- the header at a place
abbrev pub head_at : Memory → ℕ → Head
head_at m at = head_in m.heads (drop at m.bytes)

-- the place after a header at a place, where the contents begin
abbrev pub after_head : Memory → ℕ → ℕ
after_head m at = at + head_size m.heads

-- the bytes that are over in a block; what a free block says of them isn't heeded
abbrev pub slack_of : Tag → ℕ → ℕ
slack_of tags.Free correction = 0
slack_of tags.Fixed correction = correction
slack_of tags.Master correction = correction
slack_of tags.Relocatable correction = correction
slack_of tags.None correction = correction

-- the least size of a block: its header and what is over
abbrev pub least_size : Memory → Head → ℕ
least_size m h = head_size m.heads + slack_of h.tag h.correction

-- What is wrong with a block's size: the block overlaps the next, since it is smaller than its header and what is over;
-- it leaves the zone; or its end is at an odd address.
abbrev pub size_fault : Memory → ℕ → ℕ → Head → Option Fault
size_fault m end at h =
    if nat_lt h.size (least_size m h) then Some (fault_at m Overlaps at h.size (least_size m h))
    else (if nat_lt (end - at) h.size then Some (fault_at m LeavesZone at h.size (end - at))
    else (if h.size % 2 == 1 then Some (fault_at m OddSize at h.size (h.size - 1))
    else None))

-- the place of a header's last word
abbrev pub owner_place : Memory → ℕ → ℕ
owner_place m at = after_head m at - 4

-- whose block it is, with the owner's flags
abbrev pub Owner : Type 0
Owner = Kind × Flags

-- a nonrelocatable block's owner, if the block says that it is in this zone
abbrev pub fixed_owner : Memory → ℕ → Head → Kind → Result Owner Fault
fixed_owner m at h kind = let zone = address_in m.heads h.word in
    if zone == m.base then Ok (kind, no_flags) else Err (fault_at m BadZone (owner_place m at) zone m.base)

-- a handle's flags: in a 24-bit zone they are in the high byte of its master pointer, in a 32-bit one in the header
abbrev pub flags_of : HeadKind → ℕ → ℕ → Flags
flags_of Bits24 master flags = flags_from (master / 0x100_0000)
flags_of Bits32 master flags = flags_from flags

-- a relocatable block's handle, the address of the master pointer at the place that the block says, if that is in the
-- zone and has the address of the block's contents
abbrev pub handle_owner : Memory → ℕ → ℕ → Head → Result Owner Fault
handle_owner m end at h =
    if nat_lt h.word zone_header then Err (fault_at m BadHandle (owner_place m at) h.word zone_header)
    else (if nat_lt (end - 4) h.word then Err (fault_at m BadHandle (owner_place m at) h.word (end - 4))
    else (let master = word_at m h.word in let contents = m.base + after_head m at in
    if address_in m.heads master == contents then Ok (Rel (m.base + h.word), flags_of m.heads master h.flags)
    else Err (fault_at m BadMaster h.word (address_in m.heads master) contents)))

-- the owner that a block says it has: a pointer is the address of its contents
abbrev pub owner_at : Memory → ℕ → ℕ → Head → Tag → Result Owner Fault
owner_at m end at h tags.Free = Ok (Free, no_flags)
owner_at m end at h tags.Fixed = fixed_owner m at h (Ptr (m.base + after_head m at))
owner_at m end at h tags.Master = fixed_owner m at h Master
owner_at m end at h tags.Relocatable = handle_owner m end at h
owner_at m end at h tags.None = Err (fault_at m BadTag at 3 2)

-- the bytes of contents, the logical size; a free block has none
abbrev pub length_of : Memory → Head → Tag → ℕ
length_of m h tags.Free = 0
length_of m h other = h.size - head_size m.heads - h.correction

-- the block at a place, if it has an owner
abbrev pub owned : Memory → ℕ → Head → Result Owner Fault → Result Block Fault
owned m at h (Ok owner) = Ok (record {
  address = m.base + at;
  entry = record { size = h.size; kind = owner.0 };
  length = length_of m h h.tag;
  flags = owner.1;
})
owned m at h (Err fault) = Err fault

-- the block whose size may have a fault
abbrev pub sized : Option Fault → Result Block Fault → Result Block Fault
sized (Some fault) block = Err fault
sized None block = block

-- the block at a place in a zone that ends at another, or the first thing that is wrong with it
abbrev pub block_at : Memory → ℕ → ℕ → Result Block Fault
block_at m end at =
    if nat_lt (end - at) (head_size m.heads) then Err (fault_at m CutHeader at (end - at) (head_size m.heads))
    else (let h = head_at m at in sized (size_fault m end at h) (owned m at h (owner_at m end at h h.tag)))

-- In a zone that ends at `end`, the blocks from one place to another: nothing is wrong with them, and each begins where
-- the one before ends.
abbrev pub AreBlocks : Memory → ℕ → ℕ → List Block → ℕ → Type 0
AreBlocks m end from [] to = to ≡ from
AreBlocks m end from (b ∷ bs) to = (block_at m end from ≡ Ok b) × AreBlocks m end (from + b.entry.size) bs to
