-- Bytes of a zone that a host says were written.
use Rattle.std.specs.Prelude.{◌≡◌, ℕ, List, length, slice_index}
use Rattle.mac_base.specs.ZoneState.{ZoneState}
use Rattle.zone_records.specs.declared.structure.Written.{Written}
use Rattle.zone_records.specs.Written.{IsIn}
use Rattle.linked_zone.specs.Structure.{HasStructure, SameFlags}

-- bytes differ only in these ranges from bytes with the zone's structure and flags
pub record DifferIn (z : ZoneState) (bytes : List ℕ) (ranges : List Written) : Type 0 where
  pub before : List ℕ
  pub structure : HasStructure z before
  pub flags : SameFlags z before
  pub long : length bytes ≡ length before
  pub same : (at : ℕ) → (IsIn ranges at → ⊥) → slice_index bytes at ≡ slice_index before at
