-- The header of a block as bytes, in both forms.
use Rattle.std.specs.Prelude.{ℕ, Option, Some, None, ◌+◌, ◌*◌, ◌/◌, ◌%◌, ◌==◌, nat_lt, nat_le, if◌then◌else◌, List, ◌++◌, drop}
use Rattle.byteorder.specs.Endian.{big_bytes, big_number}
use Rattle.mac_base.specs.declared.block.Flags.{Flags}
use Rattle.mac_base.specs.declared.block.HeadKind.{HeadKind}
use Rattle.mac_base.specs.declared.block.HeadKind.TheVariants.{Bits24, Bits32}
use Rattle.mac_base.specs.HandleTable.{no_flags}
use Rattle.block_bytes.specs.declared.header.Header.{Header}
use Rattle.block_bytes.specs.declared.header.Role.{Role}
use Rattle.block_bytes.specs.declared.header.Role.TheVariants.{Free, Fixed, Master, Relocatable}

-- the most bytes that a header can say are over
abbrev pub most_over : HeadKind → ℕ
most_over Bits24 = 15
most_over Bits32 = 255

-- a tag: what the block is for in bits 7 and 6, a master block in bit 4 too; in the low bits a number, the size
-- correction or 0
abbrev pub tag_of : Role → ℕ → ℕ
tag_of Free low = low
tag_of Fixed low = 64 + low
tag_of Master low = 80 + low
tag_of (Relocatable slot flags) low = 128 + low

-- flags as a byte
abbrev pub flags_byte : Flags → ℕ
flags_byte flags = (if flags.lock then 128 else 0) + ((if flags.purge then 64 else 0) + (if flags.resource then 32 else 0))

-- those of a header: only a relocatable block's has any
abbrev pub flags_of : Role → Flags
flags_of Free = no_flags
flags_of Fixed = no_flags
flags_of Master = no_flags
flags_of (Relocatable slot flags) = flags

-- the last word: a relocatable block's master pointer, from the zone's start on; a nonrelocatable block's zone; or 0
abbrev pub word_of : ℕ → Role → ℕ
word_of base Free = 0
word_of base Fixed = base
word_of base Master = base
word_of base (Relocatable slot flags) = slot

-- the master pointer that a role says, from the zone's start on: only a relocatable block's says one
abbrev pub owner_of : Role → Option ℕ
owner_of Free = None
owner_of Fixed = None
owner_of Master = None
owner_of (Relocatable slot flags) = Some slot

-- the first word. 24 bits: the tag with the correction in its low four bits, and the size. 32 bits: the tag, the flags,
-- a zero byte and the correction
abbrev pub first_word : HeadKind → Header → ℕ
first_word Bits24 h = 0x100_0000 * tag_of h.role h.correction + h.size
first_word Bits32 h = 0x100_0000 * tag_of h.role 0 + (0x1_0000 * flags_byte (flags_of h.role) + h.correction)

-- the bytes of a header, in a zone that begins at this address
abbrev pub head_bytes : HeadKind → ℕ → Header → List ℕ
head_bytes Bits24 base h = big_bytes 4 (first_word Bits24 h) ++ big_bytes 4 (word_of base h.role)
head_bytes Bits32 base h = big_bytes 4 (first_word Bits32 h) ++ (big_bytes 4 h.size ++ big_bytes 4 (word_of base h.role))

-- the flags that a byte says
abbrev pub flags_in : ℕ → Flags
flags_in byte = record { lock = nat_le 128 byte; purge = (byte / 64) % 2 == 1; resource = (byte / 32) % 2 == 1 }

-- what a tag, a byte of flags and a last word say
abbrev pub role_in : ℕ → ℕ → ℕ → Role
role_in tag flags word = if nat_lt tag 64 then Free
    else (if nat_lt tag 128 then (if (tag / 16) % 2 == 1 then Master else Fixed) else Relocatable word (flags_in flags))

-- the header that is at the front of these bytes
abbrev pub header_in : HeadKind → List ℕ → Header
header_in Bits24 xs = let first = big_number 4 xs in
    record { size = first % 0x100_0000; role = role_in (first / 0x100_0000) 0 (big_number 4 (drop 4 xs)); correction = (first / 0x100_0000) % 16 }
header_in Bits32 xs = let first = big_number 4 xs in
    record {
      size = big_number 4 (drop 4 xs);
      role = role_in (first / 0x100_0000) ((first / 0x1_0000) % 256) (big_number 4 (drop 8 xs));
      correction = first % 256;
    }
