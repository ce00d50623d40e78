-- The header of a block: Inside Macintosh: Memory, chapter 2, "Block Headers".
use Rattle.std.specs.Prelude.{ℕ, Bool, true, false, ◌/◌, ◌%◌, ◌==◌, nat_lt, if◌then◌else◌, List, drop}
use Rattle.byteorder.specs.Endian.{big_number}
use Rattle.mac_base.specs.declared.block.HeadKind.{HeadKind}
use Rattle.mac_base.specs.declared.block.HeadKind.TheVariants.{Bits24, Bits32}
use Rattle.zone_look.specs.declared.head.Head.{Head}
use Rattle.zone_look.specs.declared.head.Tag.{Tag}
use Rattle.zone_look.specs.declared.head.Tag.TheVariants as tags

-- What a tag byte says in bits 7 and 6: free, nonrelocatable, relocatable, or nothing. Bit 4 marks a master block in this
-- heap's own zones; a Macintosh has no mark of them.
abbrev pub tag_in : ℕ → Tag
tag_in byte = if nat_lt byte 64 then tags.Free
    else (if nat_lt byte 128 then (if (byte / 16) % 2 == 1 then tags.Master else tags.Fixed)
    else (if nat_lt byte 192 then tags.Relocatable else tags.None))

-- The header at the front of bytes. 24 bits: the tag with the size correction in its low four bits, three bytes of
-- physical size, and a word. 32 bits: the tag, the master pointer's flags, a byte that isn't heeded, the size correction,
-- the physical size, and the word. (Of the second and the third byte it isn't certain which has the flags on a
-- Macintosh: this is the order in which this heap writes them.)
abbrev pub head_in : HeadKind → List ℕ → Head
head_in Bits24 bytes = let first = big_number 4 bytes in record {
  tag = tag_in (first / 0x100_0000);
  flags = 0;
  correction = (first / 0x100_0000) % 16;
  size = first % 0x100_0000;
  word = big_number 4 (drop 4 bytes);
}
head_in Bits32 bytes = let first = big_number 4 bytes in record {
  tag = tag_in (first / 0x100_0000);
  flags = (first / 0x1_0000) % 256;
  correction = first % 256;
  size = big_number 4 (drop 4 bytes);
  word = big_number 4 (drop 8 bytes);
}

-- whether a tag is a free block's
abbrev pub is_free : Tag → Bool
is_free tags.Free = true
is_free tags.Fixed = false
is_free tags.Master = false
is_free tags.Relocatable = false
is_free tags.None = false
