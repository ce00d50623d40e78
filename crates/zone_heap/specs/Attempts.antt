-- How an attempt to serve a request in a zone ends.
use Rattle.std.specs.Prelude.{◌≡◌, ℕ, ◌≤◌, Bool, true, not, ◌&&◌, Result, Ok, Err, Some, None, IsTrue, IsFalse}
use Rattle.mac_base.specs.declared.request.Request.{Request}
use Rattle.mac_base.specs.declared.request.Request.TheVariants.{Resize, Replace}
use Rattle.mac_base.specs.Attempt.{attempted}
use Rattle.mac_base.specs.HandleTable.{HandleTable, has_block, is_handle, is_lent, is_locked}
use Rattle.mac_base.specs.Heap.{Heap, has_none}
use Rattle.mac_base.specs.Loans.{LoansAreFixed}
use Rattle.mac_base.specs.Request.{length_asked, fits, makes_handle}
use Rattle.mac_base.specs.Sound.{Sound}
use Rattle.mac_base.specs.ZoneState.{ZoneState}
use Rattle.zone_heap.specs.declared.shortage.Shortage.{Shortage}
use Rattle.zone_heap.specs.declared.shortage.Shortage.TheVariants.{NoSlot, NoRoom}

-- the zone's heap is sound, and what is lent of it are pointers and locked handles
pub record SoundZone (z : ZoneState) : Type 0 where
  pub sound : Sound z.shape z.heap
  pub fixed : LoansAreFixed z.heap

-- whether what a request is for is there: a block that gets another size is not lent, a handle whose block is replaced
-- not locked either
abbrev pub is_ready : HandleTable → Request → Bool
is_ready t (Resize x n) = has_block t x && not (is_lent t x)
is_ready t (Replace h n) = is_handle t h && (not (is_locked t h) && not (is_lent t h))
is_ready t _ = true

-- the most bytes that are asked for: where one block is appended to another those of both, each of a zone of 1 GB at
-- most
abbrev pub most_asked : ℕ
most_asked = 0x8000_0000

-- the request can be made: so many bytes are possible, and what it is for is there
pub record CanAsk (z : ZoneState) (r : Request) : Type 0 where
  pub size : length_asked r ≤ most_asked
  pub operand : IsTrue (is_ready z.heap.table r)

-- whether a request that makes a handle lacks a slot
abbrev pub lacks_slot : Request → Heap → Bool
lacks_slot r heap = makes_handle r && has_none heap.free_slots

-- the request is served: it gives x, and leaves the new zone
abbrev pub IsServed : Request → ZoneState → ℕ → ZoneState → Type 0
IsServed r old x new = IsFalse (lacks_slot r old.heap) × (attempted old.shape r old.heap ≡ Some (x, new.heap)) × (new.shape ≡ old.shape)

-- the request is refused for this, and nothing has changed
abbrev pub IsRefused : Request → ZoneState → Shortage → ZoneState → Type 0
IsRefused r old NoSlot new = IsTrue (lacks_slot r old.heap) × (new ≡ old)
IsRefused r old NoRoom new = IsFalse (lacks_slot r old.heap) × IsFalse (fits old.shape old.heap.table r old.heap.map) × (attempted old.shape r old.heap ≡ None) × (new ≡ old)

-- an attempt that gives a number ends so
abbrev pub Attempts : Request → ZoneState → Result ℕ Shortage → ZoneState → Type 0
Attempts r old (Ok x) new = IsServed r old x new
Attempts r old (Err why) new = IsRefused r old why new
