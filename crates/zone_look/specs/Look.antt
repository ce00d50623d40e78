-- What is found of a zone that anyone made.
use Rattle.std.specs.Prelude.{◌≡◌, ℕ, ◌+◌, ◌<◌, ◌&&◌, nat_le, nat_lt, if◌then◌else◌, List, [], ◌++◌, length, take, drop, Option, Some, None, Err, is_none}
use Rattle.mac_base.specs.declared.block.Block.{Block}
use Rattle.mac_base.specs.HeadKind.{head_size, zone_header}
use Rattle.zone_look.specs.declared.fault.Fault.{Fault}
use Rattle.zone_look.specs.declared.looking.Found.{Found}
use Rattle.zone_look.specs.Blocks.{AreBlocks, block_at, head_at}
use Rattle.zone_look.specs.Free.{free_list}
use Rattle.zone_look.specs.Head.{is_free}
use Rattle.zone_look.specs.Memory.{Memory, end_of, header_fault}

-- The blocks that a walk finds in a zone that ends at a place, up to that or to one with a fault.
pub data IsWalk (m : Memory) (end : ℕ) : Option Fault → List Block → Type 0 where
  stops : (blocks : List Block) (at : ℕ) (fault : Fault) → AreBlocks m end zone_header blocks at → at < end → block_at m end at ≡ Err fault
      → IsWalk m end (Some fault) blocks
  ends : (blocks : List Block) → AreBlocks m end zone_header blocks end → IsWalk m end None blocks

-- The blocks of a zone up to the first thing that is wrong, its free master pointers up to that, and what it is: of the
-- zone's header; else of a block, which is the one after those that are found; else of the list of free master pointers.
pub data IsFound (m : Memory) : List Block → List ℕ → Option Fault → Type 0 where
  no_zone : (fault : Fault) → header_fault m ≡ Some fault → IsFound m [] [] (Some fault)
  bad_block : (blocks : List Block) (fault : Fault) → header_fault m ≡ None → IsWalk m (end_of m) (Some fault) blocks → IsFound m blocks [] (Some fault)
  all_blocks : (blocks : List Block) → header_fault m ≡ None → IsWalk m (end_of m) None blocks
      → IsFound m blocks (free_list m (end_of m)).slots (free_list m (end_of m)).fault

-- the size of the trailer after a zone that ends at a place: a free block of 16 bytes at most; 0 where there is none,
-- since a zone may do without
abbrev pub trailer_size : Memory → ℕ → ℕ
trailer_size m end =
    if nat_lt (length m.bytes) (end + head_size m.heads) then 0
    else (let h = head_at m end in
    if is_free h.tag && (nat_le (head_size m.heads) h.size && nat_le h.size 16) && nat_le (end + h.size) (length m.bytes) then h.size else 0)

-- rows in which what is found is put from the first on, as many as there are rows
abbrev pub put_in : {A : Type 0} → List A → List A → List A
put_in rows found = take (length rows) found ++ drop (length found) rows

-- What is said of the memory: how many blocks and free master pointers are found, the trailer's size, and the first thing
-- that is wrong.
pub record IsLook (m : Memory) (look : Found) (blocks : List Block) : Type 0 where
  pub slots : List ℕ
  pub found : IsFound m blocks slots look.fault
  pub block_count : look.blocks ≡ length blocks
  pub slot_count : look.free_masters ≡ length slots
  pub trailer : look.trailer ≡ (if is_none (header_fault m) then trailer_size m (end_of m) else 0)
