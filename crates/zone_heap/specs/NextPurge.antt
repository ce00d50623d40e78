-- Which handle a request would purge first.
use Rattle.std.specs.Prelude.{ℕ, nat_le, Bool, if◌then◌else◌, List, [], Option, None}
use Rattle.std.specs.List.{slice_get}
use Rattle.mac_base.specs.declared.request.Request.{Request}
use Rattle.mac_base.specs.HeadKind.{Shape}
use Rattle.mac_base.specs.Heap.{Heap, grown}
use Rattle.mac_base.specs.Request.{candidates, candidates_in, fits}
use Rattle.mac_base.specs.ZoneMap.{largest_free}

-- the heap just before a call purges, and the handle that it purges first, if it purges any
pub record BeforePurge : Type 0 where
  pub heap : Heap
  pub next : Option ℕ

-- the first of these handles, unless there is room enough
abbrev pub first_unless : Bool → List ℕ → Option ℕ
first_unless enough hs = if enough then None else slice_get hs 0

-- before a request purges in this heap
abbrev pub before_in : Shape → List ℕ → Request → Heap → BeforePurge
before_in s protected r heap = record { heap = heap; next = first_unless (fits s heap.table r heap.map) (candidates heap.table protected r heap.map) }

-- the heap in which a request purges: as it is where the request fits, or else grown to its limit
abbrev pub grown_for : Shape → Request → Heap → Heap
grown_for s r heap = if fits s heap.table r heap.map then heap else grown s heap

-- before a request purges
abbrev pub before_purge : Shape → List ℕ → Request → Heap → BeforePurge
before_purge s protected r heap = before_in s protected r (grown_for s r heap)

-- the handle that is purged first for n free bytes in one block, unless so many are
abbrev pub next_to : ℕ → Heap → Option ℕ
next_to n heap = first_unless (nat_le n (largest_free heap.map)) (candidates_in heap.table [] heap.map)

-- the handle that is purged first where all are
abbrev pub next_of_all : Heap → Option ℕ
next_of_all heap = slice_get (candidates_in heap.table [] heap.map) 0
