-- Calls of the Memory Manager leave the loans that are held.
use Rattle.std.proofs.Common.{◌≡◌, List, ap}
use Rattle.std.specs.Prelude.{IfOk, OnErr, Result, Ok, Err}
use Rattle.mac_base.specs.declared.error.HostFull.{HostFull}
use Rattle.mac_base.specs.ZoneState.{ZoneState}
use Rattle.linked_zone.specs.Loans.{KeepsLoans}
use Rattle.mac_base.specs.declared.memory_call.MemoryCall.{MemoryCall}
use Rattle.mac_base.specs.GrowZone.{Ask}
use Rattle.mac_base.specs.Outcomes.{Outcome}
use Rattle.zone_laws.proofs.LentSteps.{step_keeps_lent}
use Rattle.held_calls.specs.Holding.{Holds}
use Rattle.held_calls.specs.declared.loans.Held.{Held}
use Rattle.held_calls.proofs.Holding.{Holds-kept}
use Rattle.held_calls.specs.Making.{MemorySteps}

-- what is lent stays what is held over a call of the Memory Manager
pub Holds-stepped : (old new : ZoneState) (held : List Held) (call : MemoryCall) (asks : List Ask) (result : Result Outcome HostFull) → IfOk result (λ outcome. MemorySteps old call asks outcome new) → OnErr result (new ≡ old) → KeepsLoans old new → Holds old held → Holds new held
Holds-stepped old new held call asks (Ok outcome) step same keeps holds = Holds-kept old new held keeps (step_keeps_lent old.shape old.heap call asks outcome new.heap step.0) holds
Holds-stepped old new held call asks (Err full) step same keeps holds = Holds-kept old new held keeps (ap (λ (z : ZoneState). z.heap.table.lent) same) holds
