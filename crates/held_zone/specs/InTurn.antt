-- The handles that a call purges are emptied in turn before it, or it is held.
use Rattle.std.specs.Prelude.{◌≡◌, ℕ, Bool, true, false, List, [], Some, IsTrue}
use Rattle.linked_zone.specs.Loans.{KeepsLoans}
use Rattle.mac_base.specs.ExactStep.{exact_step}
use Rattle.mac_base.specs.GrowZone.{Answer}
use Rattle.mac_base.specs.ZoneState.{ZoneState, with_heap}
use Rattle.mac_base.specs.declared.memory_call.MemoryCall.{MemoryCall}
use Rattle.mem_calls.specs.Purges.{PurgesInTurn, before_call}
use Rattle.held_zone.specs.Purges.{Purges, purged_these, waits_for}

-- the zone in which these were emptied in turn: the call, made there, does what it does before
pub record IsEmptied (old : ZoneState) (purges : Purges) (call : MemoryCall) (new : ZoneState) (new_purges : Purges) : Type 0 where
  pub purged : List ℕ
  pub turns : PurgesInTurn old.shape call old.heap purged new.heap
  pub exact : (answers : List Answer) → exact_step old.shape answers new.heap call ≡ exact_step old.shape answers old.heap call
  pub none_held : IsTrue purges.held → purged ≡ []
  pub noted : new_purges ≡ purged_these purged purges
  pub shape : new.shape ≡ old.shape
  pub lent : new.heap.table.lent ≡ old.heap.table.lent
  pub loans : KeepsLoans old new

-- purges are held, and this handle is the first: nothing is emptied
pub record IsHeldAt (old : ZoneState) (purges : Purges) (call : MemoryCall) (new : ZoneState) (new_purges : Purges) : Type 0 where
  pub held : IsTrue purges.held
  pub handle : ℕ
  pub next : (before_call old.shape old.heap call).next ≡ Some handle
  pub zone : new ≡ with_heap (before_call old.shape old.heap call).heap old
  pub noted : new_purges ≡ waits_for handle purges
  pub lent : new.heap.table.lent ≡ old.heap.table.lent
  pub loans : KeepsLoans old new

-- they are emptied, and the call may be made; or it is held
abbrev pub GoesThrough : ZoneState → Purges → MemoryCall → Bool → ZoneState → Purges → Type 0
GoesThrough old purges call true new new_purges = IsEmptied old purges call new new_purges
GoesThrough old purges call false new new_purges = IsHeldAt old purges call new new_purges
