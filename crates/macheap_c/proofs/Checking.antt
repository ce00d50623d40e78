-- What C learns of bytes that are checked.
use Rattle.std.proofs.Common.{◌≡◌, ℕ, ℤ, Bool, length, Option, Some, Result, sym, subst}
use Rattle.mac_base.specs.declared.error.HostFull.{HostFull}
use Rattle.zone_records.specs.declared.structure.Part.{Part}
use Rattle.raw_region.specs.State.{State as Region}
use Rattle.held_zone.specs.Checking.{Finds}
use Rattle.held_zone.specs.Fields.{managed}
use Rattle.held_zone.specs.State.{State}
use Rattle.macheap_c.specs.declared.diagnose.MhFault.{MhFault}
use Rattle.macheap_c.specs.Diagnose.{ChecksIn, ChecksWhere, ShowsFault}
use Rattle.macheap_c.proofs.Guests.{same_numbers}

pub checked : (s : State) (memory after : Option Region) (region : Region) (found : Result (Option (ℕ × Part)) HostFull) (code : ℤ) (before fault : MhFault) → memory ≡ Some region → length region.bytes ≡ s.zone.shape.limit
    → Finds s.zone (managed region.bytes) found → ShowsFault found code before fault → after ≡ Some region → ChecksIn s memory code before fault after
checked s memory after region found code before fault there long finds shows back =
    subst (λ (m : Option Region). ChecksIn s m code before fault after) (sym there)
    (subst (λ (b : Bool). ChecksWhere b s region code before fault × (after ≡ Some region)) (sym (same_numbers (length region.bytes) s.zone.shape.limit long))
    ((found, finds, shows), back))
