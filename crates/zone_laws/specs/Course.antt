-- The trials of a call's requests, and why a block is lost or a request refused.
use Rattle.std.specs.Prelude.{◌≡◌, ◌⊎◌, ◌==◌, ℕ, Bool, false, not, ◌&&◌, if◌then◌else◌, IsTrue, IsFalse, List, [], ◌∷◌, ◌++◌, length, nat_le, Option, Some, None, Contains, ⊤}
use Rattle.std.specs.Option.{option_map_or}
use Rattle.mac_base.specs.HeadKind.{Shape}
use Rattle.mac_base.specs.ZoneMap.{at_limit, largest_free}
use Rattle.mac_base.specs.HandleTable.{is_purgeable}
use Rattle.mac_base.specs.declared.request.Request.{Request}
use Rattle.mac_base.specs.declared.request.Request.TheVariants.{NewMaster}
use Rattle.mac_base.specs.declared.releasing.ReleasingCall.{ReleasingCall}
use Rattle.mac_base.specs.Request.{candidates, candidates_in, fits, is_among, makes_handle, size_needed}
use Rattle.mac_base.specs.Heap.{Heap, every_slot_live}
use Rattle.mac_base.specs.Trial.{Fails, SameHeap, Serves}
use Rattle.mac_base.specs.declared.memory_call.MemoryCall.{MemoryCall}
use Rattle.mac_base.specs.declared.memory_call.MemoryCall.TheVariants.{OnZone}
use Rattle.mac_base.specs.declared.memory_call.ZoneCall.TheVariants.{MaxMem, PurgeMem}
use Rattle.mac_base.specs.Effect.{request_of}
use Rattle.mac_base.specs.GrowZone.{Answer, Ask, carried_out, most_answers}
use Rattle.mac_base.specs.Outcomes.{Outcome}
use Rattle.mac_base.specs.Released.{released_in, released_itself}
use Rattle.mac_base.specs.Tests.{protected_by}

-- the calls of an answer; without a grow-zone procedure there are none
abbrev pub calls_in : Option Answer → List ReleasingCall
calls_in (Some answer) = answer.calls
calls_in None = []

-- whether another trial follows: the procedure gave an answer, and its value is not 0
abbrev pub is_worth_a_trial : Option Answer → Bool
is_worth_a_trial (Some answer) = not (answer.value == 0)
is_worth_a_trial None = false

module _ (s : Shape) (protected : List ℕ) (r : Request) where
  -- After a failed trial the procedure was asked for the bytes that the request needs, and the calls of its answer
  -- were carried out.
  abbrev pub Asked : Heap → Ask → Heap → Type 0
  Asked full ask after = let c = carried_out s protected (calls_in ask.answer) full in
      (ask.needed ≡ size_needed s r) × (ask.carried ≡ c.calls) × SameHeap after c.heap

  -- Before each of these asks a trial of the request failed, and each answer was worth another. The next trial begins
  -- at this heap.
  abbrev pub Tried : Heap → List Ask → Heap → Type 0
  Tried old [] at = at ≡ old
  Tried old (ask ∷ asks) at = (full : Heap) × (after : Heap)
      × Fails s protected r old full × Asked full ask after × IsTrue (is_worth_a_trial ask.answer) × Tried after asks at

  -- After the last failed trial nothing was asked, or there was a last ask, whose answer was worth no other trial.
  abbrev pub GaveUp : Heap → List Ask → Heap → Type 0
  GaveUp full [] new = SameHeap new full
  GaveUp full (ask ∷ []) new = Asked full ask new × IsFalse (is_worth_a_trial ask.answer)
  GaveUp full (ask ∷ other ∷ asks) new = ⊥

-- whether the call makes a handle where every slot is live, so that it first requests a master block
abbrev pub needs_master : Shape → Heap → MemoryCall → Bool
needs_master s old call = option_map_or makes_handle (request_of old.table call) false && every_slot_live s old

-- The call's request r begins at this heap, after these asks: at the call's entry that for a master block if it needs
-- one, and else its own; or its own after the master block that it needed and got.
abbrev pub Begins : Shape → Heap → MemoryCall → Request → List Ask → Heap → Type 0
Begins s old call r asks from = (((if needs_master s old call then Some NewMaster else request_of old.table call) ≡ Some r)
    × (asks ≡ []) × (from ≡ old)) ⊎ (IsTrue (needs_master s old call) × (request_of old.table call ≡ Some r)
    × ((at : Heap) × (x : ℕ) × Tried s (protected_by call) NewMaster old asks at × Serves s (protected_by call) NewMaster x at from))

-- A trial of the call's request r begins at this heap, after these asks.
abbrev pub TrialBegins : Shape → Heap → MemoryCall → Request → List Ask → Heap → Type 0
TrialBegins s old call r before at = (first : List Ask) × (rest : List Ask) × (from : Heap) × (before ≡ first ++ rest)
    × Begins s old call r first from × Tried s (protected_by call) r from rest at

-- A trial of the request, after a front of the call's asks, began where it didn't fit in the zone grown to its limit,
-- and could purge x.
abbrev pub CameShort : Shape → Heap → MemoryCall → List Ask → ℕ → Request → Type 0
CameShort s old call asks x r = (before : List Ask) × (later : List Ask) × (at : Heap) × (asks ≡ before ++ later)
    × TrialBegins s old call r before at × IsFalse (fits s at.table r (at_limit s at.map))
    × Contains (candidates at.table (protected_by call) r at.map) x

-- what a call purges x for: all at MaxMem, n bytes in one block at PurgeMem, and at any other a request that didn't fit
abbrev pub PurgesFor : Shape → Heap → MemoryCall → List Ask → ℕ → Type 0
PurgesFor s old (OnZone MaxMem) asks x = ⊤
PurgesFor s old (OnZone (PurgeMem n)) asks x = IsFalse (nat_le n (largest_free old.map))
PurgesFor s old call asks x = (r : Request) × CameShort s old call asks x r

-- Why x lost its block: it was released by the call or an answer, or it was purged: unlocked, purgeable, no operand,
-- and at need.
abbrev pub MayLose : Shape → Heap → MemoryCall → List Ask → Outcome → ℕ → Type 0
MayLose s old call asks outcome x = (released_itself call outcome ≡ Some x) ⊎ (Contains (released_in asks) x
    ⊎ (IsTrue (is_purgeable old.table x) × IsFalse (is_among (protected_by call) x) × PurgesFor s old call asks x))

-- The call's last trial failed: the zone was at its limit, nothing was left to purge, and no gap that the request can
-- use had room (`HasNoRoom`). Each ask of the call is that of a failed trial, and the last trial has none only where 16
-- answers had been given.
abbrev pub HadNoRoom : Shape → Heap → MemoryCall → List Ask → Request → Heap → Type 0
HadNoRoom s old call asks r new = (before : List Ask) × (last : List Ask) × (at : Heap) × (full : Heap) × (asks ≡ before ++ last)
    × TrialBegins s old call r before at × Fails s (protected_by call) r at full × GaveUp s (protected_by call) r full last new
    × (last ≡ [] → length asks ≡ most_answers)

-- Why a call gives memFullErr: at PurgeMem nothing is left to purge and no free block has n bytes; at any other a
-- request had no room.
abbrev pub MayBeFull : Shape → Heap → MemoryCall → List Ask → Heap → Type 0
MayBeFull s old (OnZone (PurgeMem n)) asks new = (candidates_in new.table [] new.map ≡ []) × IsFalse (nat_le n (largest_free new.map))
MayBeFull s old call asks new = (r : Request) × HadNoRoom s old call asks r new
