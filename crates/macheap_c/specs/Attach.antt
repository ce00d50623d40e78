-- What C learns of a zone that is made of bytes which others wrote.
use Rattle.std.specs.Prelude.{◌≡◌, ◌⊎◌, ℤ, pos, Bool, true, false, ◌==◌, List, ℕ, length, Option, Some, None}
use Rattle.block_bytes.specs.declared.adopting.WhyNot.{WhyNot}
use Rattle.block_bytes.specs.declared.adopting.WhyNot.TheVariants.{HostFull, NotZone}
use Rattle.linked_zone.specs.Adopting.{IsZoneIn}
use Rattle.mac_base.specs.Codes.{minus}
use Rattle.mac_base.specs.ZoneSizes.{ZoneSizes}
use Rattle.mac_base.specs.ZoneState.{ZoneState}
use Rattle.raw_region.specs.State.{State as Region}
use Rattle.held_zone.specs.Attaching.{IsIdle, IsZoneOf}
use Rattle.held_zone.specs.declared.host_err.HostErr.{HostErr}
use Rattle.held_zone.specs.declared.host_err.HostErr.TheVariants.{BadNumber, InUse, NotThere}
use Rattle.held_zone.specs.HostCodes.{host_code}
use Rattle.held_zone.specs.declared.fields.GuestFields.{GuestFields}
use Rattle.held_zone.specs.Fields.{fields_in, managed}
use Rattle.held_zone.specs.State.{State}
use Rattle.macheap_c.specs.Guest.{damaged}

-- the code that says why no zone is made: memFullErr where the host has no memory, memSCErr where the bytes are those
-- of none
abbrev pub code_of_why : WhyNot → ℤ
code_of_why HostFull = minus 108
code_of_why NotZone = damaged

-- there is a zone that is such a one, with these fields of a guest's, and nothing else; or none, since the host has no
-- memory (memFullErr), or since no zone is such a one (memSCErr)
abbrev pub Finds : (ZoneState → Type 0) → GuestFields → ℤ → Option State → Type 0
Finds Is guest code (Some new) = (code ≡ pos 0) × Is new.zone × (new.guest ≡ guest) × IsIdle new
Finds Is guest code None = (code ≡ minus 108) ⊎ ((code ≡ damaged) × ((z : ZoneState) → Is z → ⊥))

-- the same where there are as many bytes as there have to be
abbrev pub FindsWhere : Bool → (ZoneState → Type 0) → GuestFields → ℤ → Option State → Type 0
FindsWhere true Is guest code new = Finds Is guest code new
FindsWhere false Is guest code new = (code ≡ host_code BadNumber) × (new ≡ None)

-- the host's call is refused: nothing sleeps that didn't, and the bytes are as they were
abbrev pub NotAttached : HostErr → Option State → Option Region → ℤ → Option State → Option Region → Type 0
NotAttached refusal old region code asleep memory = (code ≡ host_code refusal) × (asleep ≡ old) × (memory ≡ region)

-- The zone that is in bytes, as many as its limit, is made asleep where none sleeps, whatever the guest's fields say. The
-- bytes are as they were.
abbrev pub IsAttached : Option State → Option ZoneSizes → Option Region → ℤ → Option State → Option Region → Type 0
IsAttached None (Some sizes) (Some region) code asleep memory =
    FindsWhere (length region.bytes == sizes.limit) (IsZoneIn sizes (managed region.bytes)) (fields_in region.bytes) code asleep × (memory ≡ Some region)
IsAttached (Some old) sizes region code asleep memory = NotAttached InUse (Some old) region code asleep memory
IsAttached None None region code asleep memory = NotAttached BadNumber None region code asleep memory
IsAttached None (Some sizes) None code asleep memory = NotAttached NotThere None None code asleep memory

-- The zone of which these are the bytes, as many as its size, is made where there is none, with the guest's fields that
-- they have.
abbrev pub IsMadeOf : Option State → Option ZoneSizes → List ℕ → ℤ → Option State → Type 0
IsMadeOf None (Some sizes) image code zone = FindsWhere (length image == sizes.size) (IsZoneOf sizes (managed image)) (fields_in image) code zone
IsMadeOf (Some old) sizes image code zone = (code ≡ host_code InUse) × (zone ≡ Some old)
IsMadeOf None None image code zone = (code ≡ host_code BadNumber) × (zone ≡ None)
