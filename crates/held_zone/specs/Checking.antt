-- The first byte of a guest's that isn't as a zone's structure calls for.
use Rattle.std.specs.Prelude.{ℕ, List, Option, Some, None, Result, Ok, Err}
use Rattle.linked_zone.specs.Faults.{IsFirstFault}
use Rattle.linked_zone.specs.Structure.{HasStructure}
use Rattle.mac_base.specs.declared.error.HostFull.{HostFull}
use Rattle.mac_base.specs.ZoneState.{ZoneState}
use Rattle.zone_records.specs.declared.structure.Part.{Part}
use Rattle.held_zone.specs.NilFlags.{NoNilFlags, Takes}

-- bytes as a zone takes them have its structure; or the first that isn't as it calls for is found, and the part that it is
-- in; or the host has no memory in which they could be kept, where they haven't the structure, and an empty handle's
-- master pointer has flag bits
abbrev pub Finds : ZoneState → List ℕ → Result (Option (ℕ × Part)) HostFull → Type 0
Finds z bytes (Ok None) = (taken : List ℕ) × Takes z bytes taken × HasStructure z taken
Finds z bytes (Ok (Some found)) = (taken : List ℕ) × Takes z bytes taken × IsFirstFault z taken found.0 found.1
Finds z bytes (Err full) = (HasStructure z bytes → ⊥) × (NoNilFlags z bytes → ⊥)
