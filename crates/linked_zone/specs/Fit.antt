-- When a handle table, a zone map and free slots fit each other, so that bytes can stand for them.
use Rattle.std.specs.Prelude.{◌+◌, ◌*◌, Bool, not, ◌&&◌, ◌||◌, nat_lt, nat_le, IsTrue}
use Rattle.std.specs.List.{list_all}
use Rattle.mac_base.specs.declared.block.Entry.{Entry}
use Rattle.mac_base.specs.HeadKind.{Shape, head_size, slot_count}
use Rattle.mac_base.specs.ZoneMap.{is_master}
use Rattle.mac_base.specs.Suits.{Coherent, is_block_size}
use Rattle.mac_base.specs.Loans.{LoansFit}
use Rattle.mac_base.specs.Sound.{FreeSlots}
use Rattle.mac_base.specs.ZoneState.{ZoneState}

-- handles, pointers, blocks and slots find each other, and the free slots are the slots that aren't live
pub record Fits (z : ZoneState) : Type 0 where
  pub coherent : Coherent z.shape z.heap.table z.heap.map
  pub slots : FreeSlots z.shape z.heap
  -- what is lent has blocks, and is few
  pub loans : LoansFit z.heap

-- all sizes are multiples of four, and no smaller than the smallest block
abbrev pub HasSizes : ZoneState → Type 0
HasSizes z = IsTrue (list_all (λ (e : Entry). is_block_size z.shape e.size) z.heap.map)

-- whether a block is larger than its header, and a master block has room for its slots
abbrev pub has_room : Shape → Entry → Bool
has_room s e = nat_lt (head_size s.heads) e.size && (not (is_master e.kind) || nat_le (head_size s.heads + 4 * slot_count) e.size)

-- every block has room
abbrev pub HasRooms : ZoneState → Type 0
HasRooms z = IsTrue (list_all (has_room z.shape) z.heap.map)
