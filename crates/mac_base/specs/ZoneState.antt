-- A zone, as the layers above it see it.
use Rattle.std.specs.Prelude.{ℕ, ◌+◌, List, ◌++◌, length, take, drop, Option, Some, None}
use Rattle.mac_base.specs.HeadKind.{Shape}
use Rattle.mac_base.specs.HandleTable.{with_bytes, bytes_of}
use Rattle.mac_base.specs.Heap.{Heap, with_table}
use denote.RawPtr.{Ptr}

-- memory of the host, as a loan of a part of it names it: where its first byte is, and the bytes that it had when it was
-- taken
abbrev pub Name : Type 0
Name = Ptr × List ℕ

-- which memory of the host a zone is in; and, while it is awake there, in bytes of others, the memory that it slept in,
-- which is kept as the record of its structure
pub record Memory : Type 0 where
  pub region : Name
  pub kept : Option Name

-- memory of the zone's own
abbrev pub own_memory : Name → Memory
own_memory region = record { region = region; kept = None }

-- bytes of others, in which a zone wakes that slept in this memory
abbrev pub woken_in : Memory → Name → Memory
woken_in slept region = record { region = region; kept = Some slept.region }

-- the memory that a zone is in, where it lies and how far it may grow, and its heap
pub record ZoneState : Type 0 where
  pub memory : Memory
  pub shape : Shape
  pub heap : Heap

-- the zone with another heap
abbrev pub with_heap : Heap → ZoneState → ZoneState
with_heap heap z = record z { heap = heap }

-- bytes with others written over the first of them. There are as many as before
abbrev pub overwritten : List ℕ → List ℕ → List ℕ
overwritten old others = take (length old) others ++ drop (length others) old

-- bytes written over others from an offset on
abbrev pub written : ℕ → List ℕ → List ℕ → List ℕ
written at bytes old = take at old ++ bytes ++ drop (at + length bytes) old

-- the zone in which bytes are written over those of x, from the first on
abbrev pub with_contents : ZoneState → ℕ → List ℕ → ZoneState
with_contents z x bytes = record z { heap = with_table (with_bytes x (overwritten (bytes_of z.heap.table x) bytes) z.heap.table) z.heap }
