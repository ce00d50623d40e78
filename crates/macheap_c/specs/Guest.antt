-- What C learns of a zone that sleeps, and wakes in its bytes.
use Rattle.std.specs.Prelude.{◌≡◌, ◌⊎◌, ℤ, pos, Bool, true, false, ◌==◌, length, List, Option, Some, None, ⊤}
use Rattle.zone_records.specs.declared.structure.Written.{Written}
use Rattle.linked_zone.specs.Written.{DifferIn}
use Rattle.mac_base.specs.Codes.{minus}
use Rattle.mac_base.specs.ZoneSizes.{ZoneSizes}
use Rattle.raw_region.specs.State.{State as Region}
use Rattle.held_zone.specs.Asleep.{anew, IsAwakeIn, IsGivenBack, IsSettled, SleepsOn, sleep_refusal}
use Rattle.held_zone.specs.Fields.{managed}
use Rattle.held_zone.specs.declared.host_err.HostErr.{HostErr}
use Rattle.held_zone.specs.declared.host_err.HostErr.TheVariants.{BadNumber, InUse, NotThere}
use Rattle.held_zone.specs.HostCodes.{host_code}
use Rattle.held_zone.specs.declared.waking.WhyAsleep.{WhyAsleep}
use Rattle.held_zone.specs.declared.waking.WhyAsleep.TheVariants.{Damaged, HostFull, Unlocked}
use Rattle.held_zone.specs.State.{State, IsNew}

-- the code that C gets where bytes haven't the structure of a zone: memSCErr
abbrev pub damaged : ℤ
damaged = minus 116

-- the code that says why a zone sleeps on: memLockedErr where a block that is lent isn't locked in the bytes any more, and
-- memFullErr where the host has no memory to keep bytes in while flag bits in empty handles' master pointers are cleared
abbrev pub code_asleep : WhyAsleep → ℤ
code_asleep Damaged = damaged
code_asleep Unlocked = minus 117
code_asleep HostFull = minus 108

-- the host's call is refused: C has the zone that was awake, the one that slept, and the bytes that were there
abbrev pub Refused : HostErr → Option State → Option State → Option Region → ℤ → Option State → Option State → Option Region → Type 0
Refused refusal zone asleep memory code new_zone new_asleep new_memory = (code ≡ host_code refusal) × (new_zone ≡ zone) × (new_asleep ≡ asleep) × (new_memory ≡ memory)

-- a zone wakes in bytes that have its structure, whatever the guest's fields and flag bits in empty handles' master
-- pointers say, with what is lent, and the bytes are gone then; or it sleeps on, and they are as they were
abbrev pub WakesIn : State → Region → ℤ → Option State → Option State → Option Region → Type 0
WakesIn old region code zone asleep memory =
    ((new : State) × IsAwakeIn old region new × (code ≡ pos 0) × (zone ≡ Some new) × (asleep ≡ None) × (memory ≡ None))
    ⊎ ((why : WhyAsleep) × SleepsOn why old (managed region.bytes) × (code ≡ code_asleep why) × (zone ≡ None) × (asleep ≡ Some old) × (memory ≡ Some region))

-- bytes that aren't as many as the zone's limit are refused
abbrev pub WakesWhere : Bool → State → Region → ℤ → Option State → Option State → Option Region → Type 0
WakesWhere true old region code zone asleep memory = WakesIn old region code zone asleep memory
WakesWhere false old region code zone asleep memory = Refused BadNumber None (Some old) (Some region) code zone asleep memory

-- A zone wakes where none is awake, one sleeps, and there are bytes for it.
abbrev pub IsWoken : Option State → Option State → Option Region → ℤ → Option State → Option State → Option Region → Type 0
IsWoken None (Some old) (Some region) code zone asleep memory = WakesWhere (length region.bytes == old.zone.shape.limit) old region code zone asleep memory
IsWoken (Some awake) old_asleep old_memory code zone asleep memory = Refused InUse (Some awake) old_asleep old_memory code zone asleep memory
IsWoken None None old_memory code zone asleep memory = Refused NotThere None None old_memory code zone asleep memory
IsWoken None (Some old) None code zone asleep memory = Refused NotThere None (Some old) None code zone asleep memory

-- What the host promises of a zone that sleeps, where bytes are there for it, as many as its limit: but for the guest's
-- fields, they differ only in these ranges from bytes with its structure and its flags.
abbrev pub IsTold : Option State → Option Region → List Written → Type 0
IsTold (Some old) (Some region) ranges = length region.bytes ≡ old.zone.shape.limit → DifferIn old.zone (managed region.bytes) ranges
IsTold old region ranges = ⊤

-- the zone sleeps, and the bytes in which it was are there again, with what C left in the blocks that were lent and what
-- the guest left in its fields of the header. It wakes in them as it was
abbrev pub SleepsOutOf : State → Option State → Option Region → Type 0
SleepsOutOf old (Some new) (Some region) = (r : Region) × (region ≡ anew r) × IsGivenBack old r new
SleepsOutOf old _ _ = ⊥

-- a zone falls asleep unless it is refused: then it is awake as before
abbrev pub SleepsUnless : Option HostErr → State → ℤ → Option State → Option State → Option Region → Type 0
SleepsUnless None old code zone asleep memory = (code ≡ pos 0) × (zone ≡ None) × SleepsOutOf old asleep memory
SleepsUnless (Some refusal) old code zone asleep memory = (code ≡ host_code refusal) × (zone ≡ Some old) × (asleep ≡ None) × (memory ≡ None)

-- A zone that is awake falls asleep where none sleeps, and where the bytes that C has are gone.
abbrev pub IsPutToSleep : Option State → Option State → Option Region → ℤ → Option State → Option State → Option Region → Type 0
IsPutToSleep (Some old) None None code zone asleep memory = SleepsUnless (sleep_refusal old) old code zone asleep memory
IsPutToSleep old_zone (Some other) old_memory code zone asleep memory = Refused InUse old_zone (Some other) old_memory code zone asleep memory
IsPutToSleep old_zone None (Some region) code zone asleep memory = Refused InUse old_zone None (Some region) code zone asleep memory
IsPutToSleep None None None code zone asleep memory = Refused NotThere None None None code zone asleep memory

-- there is a new zone of these sizes, asleep, and the bytes have its structure; or none, since the host has no memory
-- (memFullErr)
abbrev pub BeginsIn : ZoneSizes → Region → ℤ → Option State → Option Region → Type 0
BeginsIn sizes region code (Some new) (Some kept) = (code ≡ pos 0) × IsNew sizes new × ((r : Region) × (kept ≡ anew r) × IsSettled new region r)
BeginsIn sizes region code None memory = (code ≡ minus 108) × (memory ≡ Some region)
BeginsIn sizes region code (Some new) None = ⊥

-- bytes that aren't as many as the limit are refused
abbrev pub BeginsWhere : Bool → ZoneSizes → Region → ℤ → Option State → Option Region → Type 0
BeginsWhere true sizes region code asleep memory = BeginsIn sizes region code asleep memory
BeginsWhere false sizes region code asleep memory = (code ≡ host_code BadNumber) × (asleep ≡ None) × (memory ≡ Some region)

-- A zone is made asleep where none sleeps, of sizes that there may be, in bytes that are there. Else all stays.
abbrev pub IsMadeAt : Option State → Option ZoneSizes → Option Region → ℤ → Option State → Option Region → Type 0
IsMadeAt None (Some sizes) (Some region) code asleep memory = BeginsWhere (length region.bytes == sizes.limit) sizes region code asleep memory
IsMadeAt (Some old) sizes region code asleep memory = (code ≡ host_code InUse) × (asleep ≡ Some old) × (memory ≡ region)
IsMadeAt None None region code asleep memory = (code ≡ host_code BadNumber) × (asleep ≡ None) × (memory ≡ region)
IsMadeAt None (Some sizes) None code asleep memory = (code ≡ host_code NotThere) × (asleep ≡ None) × (memory ≡ None)
