-- What C learns where a guest has damaged its zone.
use Rattle.std.specs.Prelude.{◌≡◌, ◌⊎◌, ℕ, ℤ, pos, Bool, true, false, ◌==◌, length, Option, Some, None, Result, Ok, Err}
use Rattle.linked_zone.specs.Parts.{IsHolder, LiesOutside}
use Rattle.mac_base.specs.Codes.{minus}
use Rattle.mac_base.specs.declared.block.Block.{Block}
use Rattle.mac_base.specs.declared.error.HostFull.{HostFull}
use Rattle.mac_base.specs.ZoneState.{ZoneState}
use Rattle.raw_region.specs.State.{State as Region}
use Rattle.held_zone.specs.Asleep.{anew}
use Rattle.held_zone.specs.Checking.{Finds}
use Rattle.held_zone.specs.Fields.{managed}
use Rattle.held_zone.specs.declared.host_err.HostErr.TheVariants.{BadNumber, NotThere}
use Rattle.held_zone.specs.HostCodes.{host_code}
use Rattle.held_zone.specs.Repairing.{IsMended}
use Rattle.held_zone.specs.State.{State}
use Rattle.zone_records.specs.declared.structure.Part.{Part}
use Rattle.zone_records.specs.declared.structure.Part.TheVariants.{ZoneHeader, BlockHeader, MasterPointer}
use Rattle.macheap_c.specs.declared.diagnose.MhFault.{MhFault}
use Rattle.macheap_c.specs.declared.walk.MhBlock.{MhBlock}
use Rattle.macheap_c.specs.Guest.{damaged}
use Rattle.macheap_c.specs.Walk.{shown_block}

-- the bytes have the structure of a zone then, with the flags that the guest set; the guest's fields of the header and all
-- other bytes are as they were
abbrev pub Repaired : State → Region → ℤ → State → Option Region → Type 0
Repaired old region code new (Some kept) = (code ≡ pos 0) × ((r : Region) × (kept ≡ anew r) × IsMended old region r new)
Repaired old region code new None = ⊥

-- bytes that aren't as many as the zone's limit are refused
abbrev pub RepairsWhere : Bool → State → Region → ℤ → State → Option Region → Type 0
RepairsWhere true old region code new memory = Repaired old region code new memory
RepairsWhere false old region code new memory = (code ≡ host_code BadNumber) × (new ≡ old) × (memory ≡ Some region)

-- so is it where there are none
abbrev pub RepairsIn : State → Option Region → ℤ → State → Option Region → Type 0
RepairsIn old (Some region) code new memory = RepairsWhere (length region.bytes == old.zone.shape.limit) old region code new memory
RepairsIn old None code new memory = (code ≡ host_code NotThere) × (new ≡ old) × (memory ≡ None)

-- The bytes of a zone that sleeps are repaired, and it sleeps on, with the flags that are in them. Where none sleeps, the
-- bytes stay.
abbrev pub IsRepaired : Option State → Option Region → ℤ → Option State → Option Region → Type 0
IsRepaired (Some old) old_memory code (Some new) memory = RepairsIn old old_memory code new memory
IsRepaired (Some old) old_memory code None memory = ⊥
IsRepaired None old_memory code asleep memory = (code ≡ host_code NotThere) × (asleep ≡ None) × (memory ≡ old_memory)

-- the number of a part of a zone's structure
abbrev pub part_number : Part → ℕ
part_number ZoneHeader = 1
part_number BlockHeader = 2
part_number MasterPointer = 3

-- nothing is found, and what was there stays; or the first byte that is wrong is shown, and the part that it is in; or the
-- host has no memory (memFullErr)
abbrev pub ShowsFault : Result (Option (ℕ × Part)) HostFull → ℤ → MhFault → MhFault → Type 0
ShowsFault (Ok None) code before fault = (code ≡ pos 0) × (fault ≡ before)
ShowsFault (Ok (Some found)) code before fault = (code ≡ damaged) × (fault ≡ record { offset = found.0; part = part_number found.1 })
ShowsFault (Err full) code before fault = (code ≡ minus 108) × (fault ≡ before)

-- bytes are checked, whatever the guest's fields say
abbrev pub Checks : State → Region → ℤ → MhFault → MhFault → Type 0
Checks s region code before fault = (found : Result (Option (ℕ × Part)) HostFull) × Finds s.zone (managed region.bytes) found × ShowsFault found code before fault

-- bytes that aren't as many as the zone's limit are refused
abbrev pub ChecksWhere : Bool → State → Region → ℤ → MhFault → MhFault → Type 0
ChecksWhere true s region code before fault = Checks s region code before fault
ChecksWhere false s region code before fault = (code ≡ host_code BadNumber) × (fault ≡ before)

-- so is it where there are none. The bytes stay
abbrev pub ChecksIn : State → Option Region → ℤ → MhFault → MhFault → Option Region → Type 0
ChecksIn s (Some region) code before fault memory = ChecksWhere (length region.bytes == s.zone.shape.limit) s region code before fault × (memory ≡ Some region)
ChecksIn s None code before fault memory = (code ≡ host_code NotThere) × (fault ≡ before) × (memory ≡ None)

-- The bytes of a zone that sleeps are checked, and it sleeps on as it was. Where none sleeps, all stays.
abbrev pub IsChecked : Option State → Option Region → ℤ → MhFault → MhFault → Option State → Option Region → Type 0
IsChecked (Some old) old_memory code before fault asleep memory = ChecksIn old old_memory code before fault memory × (asleep ≡ Some old)
IsChecked None old_memory code before fault asleep memory = (code ≡ host_code NotThere) × (fault ≡ before) × (asleep ≡ None) × (memory ≡ old_memory)

-- the block that has the byte at an address is shown; where no block has it, the answer is memWZErr
abbrev pub ShowsHolder : ZoneState → ℕ → ℤ → MhBlock → MhBlock → Type 0
ShowsHolder zone at code before block =
    ((found : Block) × IsHolder zone at found × (code ≡ pos 0) × (block ≡ shown_block found))
    ⊎ (LiesOutside zone at × (code ≡ minus 111) × (block ≡ before))

-- C is shown the block that has the byte at an address, and the state stays.
abbrev pub HolderTold : Option State → ℕ → ℤ → MhBlock → MhBlock → Option State → Type 0
HolderTold None at code before block new = (code ≡ host_code NotThere) × (block ≡ before) × (new ≡ None)
HolderTold (Some old) at code before block new = ShowsHolder old.zone at code before block × (new ≡ Some old)
