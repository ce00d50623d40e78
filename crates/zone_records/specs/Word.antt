-- Master pointers as numbers, in either form.
use Rattle.std.specs.Prelude.{ℕ, zero, suc, ◌+◌, ◌-◌, ◌*◌, ◌/◌, ◌%◌, ◌==◌, if◌then◌else◌, List, [], ◌∷◌, ◌++◌, take, drop}
use Rattle.byteorder.specs.Endian.{big_bytes, big_number}
use Rattle.mac_base.specs.declared.block.HeadKind.{HeadKind}
use Rattle.mac_base.specs.declared.block.HeadKind.TheVariants.{Bits24, Bits32}
use Rattle.mac_base.specs.FlagState.{state_of, flags_from}
use Rattle.mac_base.specs.HandleTable.{no_flags}
use Rattle.zone_records.specs.declared.slot.Slot.{Slot}
use Rattle.zone_records.specs.declared.slot.Slot.TheVariants.{Free, Empty, Full}

-- The word that says what a slot does; an empty handle's is 0. In a zone of 24-bit blocks bit 0 of the high byte marks
-- a free slot, and flags are in the high byte. In one of 32-bit blocks bit 0 of the word marks it, and no flags are
-- said
abbrev pub slot_word : HeadKind → Slot → ℕ
slot_word Bits24 (Free next) = 0x100_0000 + next
slot_word Bits24 Empty = 0
slot_word Bits24 (Full flags contents) = 0x100_0000 * state_of flags + contents
slot_word Bits32 (Free next) = next + 1
slot_word Bits32 Empty = 0
slot_word Bits32 (Full flags contents) = contents

-- what a master pointer says
abbrev pub slot_in : HeadKind → ℕ → Slot
slot_in Bits24 word = if word == 0 then Empty
    else (if (word / 0x100_0000) % 2 == 1 then Free (word % 0x100_0000) else Full (flags_from (word / 0x100_0000)) (word % 0x100_0000))
slot_in Bits32 word = if word == 0 then Empty else (if word % 2 == 1 then Free (word - 1) else Full no_flags word)

-- what n slots say, whose master pointers are one after the other at the front of these bytes
unfoldable pub slots_in : HeadKind → ℕ → List ℕ → List Slot
slots_in heads zero bytes = []
slots_in heads (suc n) bytes = slot_in heads (big_number 4 (take 4 bytes)) ∷ slots_in heads n (drop 4 bytes)

-- the words of slots as bytes, one after the other
abbrev pub words_of : HeadKind → List Slot → List ℕ
words_of heads [] = []
words_of heads (s ∷ ss) = big_bytes 4 (slot_word heads s) ++ words_of heads ss
