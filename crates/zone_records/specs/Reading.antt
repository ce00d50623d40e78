-- How a zone's blocks and slots are read off its blocks of bytes.
use Rattle.std.specs.Prelude.{◌≡◌, ℕ, ◌+◌, ◌%◌, ◌≤◌, ◌^◌, ◌==◌, nat_lt, Bool, true, ◌&&◌, IsTrue, List, length, map}
use Rattle.std.specs.List.{All, list_all}
use Rattle.mac_base.specs.declared.block.HeadKind.{HeadKind}
use Rattle.mac_base.specs.HeadKind.{zone_header, slot_count, master_length, address_end}
use Rattle.block_bytes.specs.declared.header.Role.{Role}
use Rattle.block_bytes.specs.declared.header.Role.TheVariants as role
use Rattle.block_bytes.specs.Layout.{RawBlock, Layout, size_of, total_of, is_possible}
use Rattle.zone_records.specs.declared.records.Records.TheInside.{Inside}
use Rattle.zone_records.specs.Records.{Content, Free, Fixed, Master, Relocatable, BlockRecord, ZoneRecords}
use Rattle.zone_records.specs.Word.{slots_in, words_of}

-- what a block's header and contents say is in it, in a zone that begins at an address
abbrev pub content_in : HeadKind → ℕ → Role → List ℕ → Content
content_in heads base role.Free bytes = Free
content_in heads base role.Fixed bytes = Fixed bytes
content_in heads base role.Master bytes = Master (slots_in heads slot_count bytes)
content_in heads base (role.Relocatable offset flags) bytes = Relocatable (base + offset) flags bytes

-- the block that a block of bytes is
abbrev pub record_in : HeadKind → ℕ → RawBlock → BlockRecord
record_in heads base b = record { size = size_of heads b; content = content_in heads base b.role b.contents; lent = b.lent }

-- the zone that blocks of bytes are
abbrev pub records_in : Layout → ZoneRecords
records_in l = record {
  memory = l.memory;
  shape = record { heads = l.heads; base = l.base; limit = zone_header + total_of l.heads l.blocks + length l.spare };
  front = l.front;
  blocks = map (record_in l.heads l.base) l.blocks;
}

-- what the fields show
abbrev pub records_of : Inside → ZoneRecords
records_of z = records_in z.blocks

-- whether a block has what it is for: a master block its slots, and a handle's block a handle of 32 bits
abbrev pub has_use : ℕ → Role → ℕ → Bool
has_use base role.Free n = true
has_use base role.Fixed n = true
has_use base role.Master n = n == master_length
has_use base (role.Relocatable offset flags) n = nat_lt (base + offset) (2 ^ 32)

-- whether a block is a possible one, and has that
abbrev pub is_sound : HeadKind → ℕ → RawBlock → Bool
is_sound heads base b = is_possible heads b && has_use base b.role (length b.contents)

-- a master block's contents are the words of its slots
abbrev pub HasWords : HeadKind → RawBlock → Type 0
HasWords heads b = b.role ≡ role.Master → b.contents ≡ words_of heads (slots_in heads slot_count b.contents)

-- all blocks are, and addresses are multiples of four that slots can say
pub record AreSound (l : Layout) : Type 0 where
  pub blocks : IsTrue (list_all (is_sound l.heads l.base) l.blocks)
  pub words : All (HasWords l.heads) l.blocks
  pub even : l.base % 4 ≡ 0
  pub high : l.base + (zone_header + total_of l.heads l.blocks + length l.spare) ≤ address_end l.heads

-- those of the fields
pub record IsSound (z : Inside) : Type 0 where
  pub sound : AreSound z.blocks
