-- What belongs to a zone that C holds.
use Rattle.std.specs.Prelude.{◌≡◌, if◌then◌else◌, nat_lt, ℕ, List, [], length, Option, Some, None, is_some, IsTrue}
use Rattle.mac_base.specs.Heap.{new_heap}
use Rattle.mac_base.specs.ZoneSizes.{ZoneSizes, shape_of}
use Rattle.mac_base.specs.ZoneState.{ZoneState}
use Rattle.mac_base.specs.GrowZone.{Answer, Ask}
use Rattle.mac_base.specs.LoanStep.{Loans}
use Rattle.held_zone.specs.declared.fields.GuestFields.{GuestFields}
use Rattle.held_zone.specs.declared.host_err.HostErr.{HostErr}
use Rattle.held_zone.specs.declared.host_err.HostErr.TheVariants.{InUse}
use Rattle.held_zone.specs.Fields.{new_fields}
use Rattle.held_zone.specs.Purges.{Purges, no_purges}

-- the zone, the blocks that are lent with the bytes that C has of them, the answers that the grow-zone procedure has
-- left, what the last call asked, the blocks that wait while the zone sleeps to be lent again, in the order in which
-- they were lent, the guest's fields of the zone's header, as they were when the zone woke, and what C learns of purges
pub record State : Type 0 where
  pub zone : ZoneState
  pub loans : Loans
  pub left : List Answer
  pub asks : List Ask
  pub waiting : List ℕ
  pub guest : GuestFields
  pub purges : Purges

-- blocks wait only while the zone sleeps: awake, it is in bytes of others
abbrev pub WaitAsleep : ZoneState → List ℕ → Type 0
WaitAsleep z waiting = IsTrue (is_some z.memory.kept) → waiting ≡ []

-- the state in which nothing was asked
abbrev pub with_no_asks : State → State
with_no_asks s = record s { asks = [] }

-- sixteen answers may wait, and the next is refused
abbrev pub queue_refusal : State → Option HostErr
queue_refusal s = if nat_lt (length s.left) 16 then None else Some InUse

-- a new zone of these sizes: nothing is lent, no answer and no block waits, nothing was asked, no guest wrote in its
-- header, it is in memory of its own, and no call is held or has purged
abbrev pub IsNew : ZoneSizes → State → Type 0
IsNew sizes new = (new.zone.shape ≡ shape_of sizes) × (new.zone.heap ≡ new_heap (shape_of sizes) sizes.size) × (new.loans ≡ []) × (new.left ≡ []) × (new.asks ≡ []) × (new.waiting ≡ []) × (new.guest ≡ new_fields) × (new.zone.memory.kept ≡ None) × (new.purges ≡ no_purges)
