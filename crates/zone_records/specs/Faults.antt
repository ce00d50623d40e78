-- The first byte that isn't as a zone's structure calls for.
use Rattle.std.specs.Prelude.{◌≡◌, ℕ, ◌+◌, ◌*◌, ◌%◌, ◌≤◌, ◌⊎◌, List, [], ◌∷◌, slice_index, take}
use Rattle.mac_base.specs.declared.block.HeadKind.{HeadKind}
use Rattle.mac_base.specs.HeadKind.{master_length}
use Rattle.raw_region.specs.Bytes.{written}
use Rattle.zone_records.specs.declared.structure.Part.{Part}
use Rattle.zone_records.specs.Masters.{WordAgrees, word_at}
use Rattle.zone_records.specs.Parts.{IsInPart}
use Rattle.zone_records.specs.Records.{ZoneRecords}
use Rattle.zone_records.specs.Structure.{HasStructure}

-- up to an offset bytes begin as some that have a zone's structure, and none that have it begin as they do up to the
-- byte there and with it. This byte is in a part of the structure
pub record IsFirstFault (z : ZoneRecords) (bytes : List ℕ) (at : ℕ) (part : Part) : Type 0 where
  pub inside : IsInPart z at part
  pub right : List ℕ
  pub structure : HasStructure z right
  pub same : take at right ≡ take at bytes
  pub wrong : (others : List ℕ) → HasStructure z others → take (at + 1) others ≡ take (at + 1) bytes → ⊥

-- no bytes with the structure have this byte at an offset
abbrev pub IsWrong : ZoneRecords → ℕ → ℕ → Type 0
IsWrong z at byte = (others : List ℕ) → HasStructure z others → slice_index others at ≡ byte → ⊥

-- all that have it have it with this byte there, too
abbrev pub Keeps : ZoneRecords → ℕ → ℕ → Type 0
Keeps z at byte = (right : List ℕ) → HasStructure z right → HasStructure z (written right at (byte ∷ []))

-- so have all that have the zone's own byte there
abbrev pub KeepsOwn : ZoneRecords → ℕ → ℕ → ℕ → Type 0
KeepsOwn z at own byte = (right : List ℕ) → HasStructure z right → slice_index right at ≡ own → HasStructure z (written right at (byte ∷ []))

-- a word with another high byte
abbrev pub topped : ℕ → ℕ → ℕ
topped byte word = 0x100_0000 * byte + word % 0x100_0000

-- a byte may be at an offset among master pointers: the first of one, which agrees with it then
abbrev pub MayBe : HeadKind → List ℕ → ℕ → ℕ → Type 0
MayBe heads contents at byte = (at % 4 ≡ 0) × WordAgrees heads (word_at contents at) (topped byte (word_at contents at))

-- or after them
abbrev pub MayHave : HeadKind → List ℕ → ℕ → ℕ → Type 0
MayHave heads contents at byte = (master_length ≤ at) ⊎ MayBe heads contents at byte
