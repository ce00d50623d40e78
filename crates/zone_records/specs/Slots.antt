-- The slots of a zone with their addresses, and the free ones in the order in which they are given.
use Rattle.std.specs.Prelude.{ℕ, zero, suc, ◌+◌, ◌==◌, if◌then◌else◌, List, [], ◌∷◌, ◌++◌}
use Rattle.mac_base.specs.HeadKind.{Shape, head_size}
use Rattle.zone_records.specs.declared.slot.Slot.{Slot}
use Rattle.zone_records.specs.declared.slot.Slot.TheVariants as slot
use Rattle.zone_records.specs.Records.{Content, BlockRecord, ZoneRecords, Free, Fixed, Master, Relocatable, address_after}

-- slots with their addresses, the first at an address
abbrev pub addressed : ℕ → List Slot → List (ℕ × Slot)
addressed at [] = []
addressed at (x ∷ xs) = (at, x) ∷ addressed (at + 4) xs

-- the slots of a block whose contents begin at an address
abbrev pub slots_of : ℕ → Content → List (ℕ × Slot)
slots_of at Free = []
slots_of at (Fixed bytes) = []
slots_of at (Master slots) = addressed at slots
slots_of at (Relocatable h flags bytes) = []

-- all slots, where the first block is at an address
abbrev pub all_slots : Shape → ℕ → List BlockRecord → List (ℕ × Slot)
all_slots s at [] = []
all_slots s at (b ∷ bs) = slots_of (at + head_size s.heads) b.content ++ all_slots s (at + b.size) bs

-- the free slot that a slot names next, and 0 where it names none
abbrev pub next_said : Slot → ℕ
next_said (slot.Free next) = next
next_said slot.Empty = 0
next_said (slot.Full flags contents) = 0

-- what the slot at an address names, and 0 where there is none such
abbrev pub next_named : ℕ → List (ℕ × Slot) → ℕ
next_named x [] = 0
next_named x ((y, s) ∷ others) = if y == x then next_said s else next_named x others

-- the free slots from x on, each named by the one before, to 0 or to n of them
abbrev pub chain : ℕ → List (ℕ × Slot) → ℕ → List ℕ
chain zero all x = []
chain (suc n) all x = if x == 0 then [] else x ∷ chain n all (next_named x all)

-- the slots of a zone
abbrev pub slots_of_zone : ZoneRecords → List (ℕ × Slot)
slots_of_zone z = all_slots z.shape (address_after z.shape []) z.blocks
