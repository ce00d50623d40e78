-- The first byte that isn't as a zone's structure calls for.
use Rattle.std.specs.Prelude.{◌≡◌, ℕ, ◌+◌, List, take}
use Rattle.mac_base.specs.ZoneState.{ZoneState}
use Rattle.zone_records.specs.declared.structure.Part.{Part}
use Rattle.linked_zone.specs.Parts.{IsInPart}
use Rattle.linked_zone.specs.Structure.{HasStructure}

-- up to an offset bytes begin as some that have a zone's structure, and none that have it begin as they do up to the
-- byte there and with it. This byte is in a part of the structure
pub record IsFirstFault (z : ZoneState) (bytes : List ℕ) (at : ℕ) (part : Part) : Type 0 where
  pub inside : IsInPart z at part
  pub right : List ℕ
  pub structure : HasStructure z right
  pub same : take at right ≡ take at bytes
  pub wrong : (others : List ℕ) → HasStructure z others → take (at + 1) others ≡ take (at + 1) bytes → ⊥
