-- How a call that releases a block ends.
use Rattle.std.specs.Prelude.{◌≡◌, Result, Ok, Err, Some, None}
use Rattle.mac_base.specs.declared.error.OsErr.{OsErr}
use Rattle.mac_base.specs.ZoneState.{ZoneState}
use Rattle.mac_base.specs.declared.releasing.ReleasingCall.{ReleasingCall}
use Rattle.mac_base.specs.Releasing.{heap_released}
use Rattle.mac_base.specs.GrowZone.{memory_call}
use Rattle.mac_base.specs.Tests.{refusal}

-- the call is done, or refused, and then nothing has changed
abbrev pub EndsRelease : ReleasingCall → ZoneState → Result (Unit {0}) OsErr → ZoneState → Type 0
EndsRelease call old (Ok u) new = (refusal old.shape old.heap (memory_call call) ≡ None) × (new.heap ≡ heap_released call old.heap) × (new.shape ≡ old.shape)
EndsRelease call old (Err code) new = (refusal old.shape old.heap (memory_call call) ≡ Some code) × (new ≡ old)
