-- What a call of the Memory Manager does that is made as it is given.
use Rattle.std.specs.Prelude.{◌≡◌, Bool, true, false, List}
use Rattle.mac_base.specs.ZoneState.{ZoneState}
use Rattle.mac_base.specs.declared.memory_call.MemoryCall.{MemoryCall}
use Rattle.mac_base.specs.declared.memory_call.MemoryCall.TheVariants.{Showing}
use Rattle.mac_base.specs.ExactStep.{IsExactStep}
use Rattle.mac_base.specs.GrowZone.{Ask}
use Rattle.mac_base.specs.MemoryStep.{MemoryStep}
use Rattle.mac_base.specs.Outcomes.{Outcome}

-- From the old zone, the call with these asks may have this outcome and leave the new zone: it is a memory step, and
-- just that which is made where the procedure gives the answers that it gave.
abbrev pub MemorySteps : ZoneState → MemoryCall → List Ask → Outcome → ZoneState → Type 0
MemorySteps old call asks outcome new = MemoryStep old.shape old.heap call asks outcome new.heap × IsExactStep old.shape old.heap call asks outcome new.heap × (new.shape ≡ old.shape)

-- whether a call gives a copy of what the zone has
abbrev pub copies : MemoryCall → Bool
copies (Showing call) = true
copies _ = false
