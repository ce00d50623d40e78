-- A trial of a request: how it may prepare the heap, how the request may be served, and when there is no room for it.
use Rattle.std.specs.Prelude.{◌≡◌, ◌⊎◌, ℕ, ◌+◌, Bool, not, nat_le, if◌then◌else◌, List, [], None, IsTrue, IsFalse, Contains, ⊤}
use Rattle.std.specs.List.{list_any}
use Rattle.mac_base.specs.HeadKind.{Shape, zone_header}
use Rattle.mac_base.specs.declared.block.Kind.{Kind}
use Rattle.mac_base.specs.ZoneMap.{ZoneMap, Rearranged, is_free, is_master, released, released_at, total_size, largest_free, contents_of, contents_addresses, at_limit}
use Rattle.mac_base.specs.HandleTable.{HandleTable, live_at}
use Rattle.mac_base.specs.Suits.{Suits}
use Rattle.mac_base.specs.Gap.{Gap, gaps, is_fixed}
use Rattle.mac_base.specs.declared.request.Request.{Request}
use Rattle.mac_base.specs.declared.request.Request.TheVariants.{NewBlock, NewEmpty, NewPointer, NewMaster, Reserve, Resize, Replace}
use Rattle.mac_base.specs.Request.{size_needed, fits, candidates, stays}
use Rattle.mac_base.specs.Serve.{begins_free}
use Rattle.mac_base.specs.Heap.{Heap, grown, with_all_emptied, table_granted}

-- two heaps have one table and one map; the order of the free slots is left open
pub record SameHeap (a b : Heap) : Type 0 where
  pub table : a.table ≡ b.table
  pub map : a.map ≡ b.map

-- what a trial does before it looks for room: the zone grows to its limit, and these handles become empty
pub record Preparation : Type 0 where
  pub grows : Bool
  pub purges : List ℕ

-- the heap once a trial has prepared so
abbrev pub prepared_by : Shape → Preparation → Heap → Heap
prepared_by s p heap = with_all_emptied p.purges (if p.grows then grown s heap else heap)

-- A trial may prepare so: the zone grows only where the request doesn't fit, and handles are purged only where it
-- doesn't fit in the zone grown to its limit, once it has grown so.
pub record MayPrepare (s : Shape) (protected : List ℕ) (r : Request) (heap : Heap) (p : Preparation) : Type 0 where
  pub grows_at_need : IsTrue p.grows → IsFalse (fits s heap.table r heap.map)
  pub purges_at_need : (p.purges ≡ []) ⊎ IsFalse (fits s heap.table r (at_limit s heap.map))
  pub purges_at_limit : (p.purges ≡ []) ⊎ (zone_header + total_size (prepared_by s p heap).map ≡ s.limit)
  pub purges_candidates : (h : ℕ) → Contains p.purges h → Contains (candidates heap.table protected r heap.map) h

-- whether a block stays while a new relocatable one is placed: each where a free block serves, else those that are
-- fixed
abbrev pub stays_for : HandleTable → ℕ → ZoneMap → Kind → Bool
stays_for t k m kind = if nat_le k (largest_free m) then not (is_free kind) else is_fixed t kind

-- How the map may change where a request is served and gives the number x: without the block that was asked for, the
-- new map is a rearrangement of the old. A handle whose block is replaced keeps no place, so its old block counts as
-- free.
abbrev pub MapServed : Shape → HandleTable → ℕ → Request → ℕ → ZoneMap → ZoneMap → Type 0
MapServed s t k (NewBlock n) x old new = Rearranged s (stays_for t k old) old (released x new)
MapServed s t k NewEmpty x old new = new ≡ old
MapServed s t k (NewPointer n) x old new = Rearranged s (is_fixed t) old (released x new)
MapServed s t k NewMaster x old new = Rearranged s (is_fixed t) old (released_at s x new) × Contains (contents_addresses s is_master new) x
MapServed s t k (Reserve n) x old new = Rearranged s (is_fixed t) old new × IsTrue (list_any (λ (g : Gap). begins_free k g.blocks) (gaps t new))
MapServed s t k (Resize y n) x old new = Rearranged s (is_fixed t) (released y old) (released y new) × (IsTrue (stays t y) → contents_of s y new ≡ contents_of s y old)
MapServed s t k (Replace h n) x old new = Rearranged s (stays_for t k (released h old)) (released h old) (released h new)

-- the number that a request gives: any that isn't live for a new handle or pointer
abbrev pub NumberGiven : Request → ℕ → HandleTable → Type 0
NumberGiven (NewBlock n) x t = live_at t x ≡ None
NumberGiven NewEmpty x t = live_at t x ≡ None
NumberGiven (NewPointer n) x t = live_at t x ≡ None
NumberGiven _ x t = ⊤

-- the request fits in this heap, is served, gives the number x, and leaves the new heap
pub record Served (s : Shape) (r : Request) (x : ℕ) (old new : Heap) : Type 0 where
  pub fitted : IsTrue (fits s old.table r old.map)
  pub number : NumberGiven r x old.table
  pub table : new.table ≡ table_granted r x old.table
  pub map : MapServed s old.table (size_needed s r) r x old.map new.map
  pub suits : Suits s new.table new.map

-- no trial can serve the request in this heap
pub record HasNoRoom (s : Shape) (protected : List ℕ) (r : Request) (heap : Heap) : Type 0 where
  pub at_the_limit : zone_header + total_size heap.map ≡ s.limit
  pub none_left : candidates heap.table protected r heap.map ≡ []
  pub no_room : IsFalse (fits s heap.table r heap.map)

-- a trial that serves the request
abbrev pub Serves : Shape → List ℕ → Request → ℕ → Heap → Heap → Type 0
Serves s protected r x old new = (p : Preparation) × MayPrepare s protected r old p × Served s r x (prepared_by s p old) new

-- a trial that fails, and leaves this heap
abbrev pub Fails : Shape → List ℕ → Request → Heap → Heap → Type 0
Fails s protected r old new = (p : Preparation) × MayPrepare s protected r old p × SameHeap new (prepared_by s p old) × HasNoRoom s protected r new
