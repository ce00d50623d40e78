-- How the blocks are read off the bytes of a zone, and off the index which of them are lent.
use Rattle.std.specs.Prelude.{◌≡◌, ℕ, zero, suc, ◌+◌, ◌-◌, ◌/◌, ◌≤◌, ◌&&◌, ◌==◌, Bool, if◌then◌else◌, IsTrue, List, [], ◌∷◌, length, drop, slice_index, Option}
use Rattle.std.specs.List.{list_all}
use Rattle.byteorder.specs.Endian.{big_number}
use Rattle.mac_base.specs.declared.block.HeadKind.{HeadKind}
use Rattle.mac_base.specs.HeadKind.{head_size, zone_header}
use Rattle.mac_base.specs.ZoneSizes.{ZoneSizes}
use Rattle.raw_region.specs.Bytes.{part}
use Rattle.raw_region.specs.Span.{Span}
use Rattle.mac_base.specs.ZoneState.{Name}
use Rattle.raw_region.specs.State.{State}
use Rattle.block_bytes.specs.declared.header.Header.{Header}
use Rattle.block_bytes.specs.declared.blocks.Blocks.TheInside.{Inside}
use Rattle.block_bytes.specs.Head.{header_in}
use Rattle.block_bytes.specs.ZoneHead.{front_field}
use Rattle.block_bytes.specs.Layout.{RawBlock, Layout, raw_block, size_of, is_possible, image_of, address_after, lent_count, most_lent}
use Rattle.block_bytes.specs.Starts.{lent_mark, starts_of}
use Rattle.block_bytes.specs.Record.{RecordKept, kept_name}

-- the block whose header, of so many bytes, is at the front of these bytes
abbrev pub raw_block_in : HeadKind → Header → Bool → List ℕ → RawBlock
raw_block_in heads h lent xs = record (raw_block h.role (h.size - head_size heads - h.correction) (part xs (head_size heads) (h.size - head_size heads))) { lent = lent }

-- the blocks that these bytes are, up to n of them, with these numbers of the index
abbrev pub blocks_in : ℕ → HeadKind → List ℕ → List ℕ → List RawBlock
blocks_in zero heads marks xs = []
blocks_in (suc n) heads marks [] = []
blocks_in (suc n) heads marks (x ∷ xs) = let h = header_in heads (x ∷ xs) in
    raw_block_in heads h (slice_index marks 0 == lent_mark) (x ∷ xs) ∷ blocks_in n heads (drop (h.size / 4) marks) (drop h.size (x ∷ xs))

-- the zone that the memory is, with the name of its record if it is awake
abbrev pub layout_in : ZoneSizes → State → List ℕ → Option Name → Layout
layout_in spec memory index kept = record {
  memory = record { region = memory.name; kept = kept };
  heads = spec.heads;
  base = spec.base;
  front = big_number 4 (part memory.bytes front_field 4);
  blocks = blocks_in (length memory.bytes) spec.heads (drop (zone_header / 4) index) (part memory.bytes zone_header (spec.size - zone_header));
  spare = drop spec.size memory.bytes;
}

-- what the fields stand for
abbrev pub layout_of : Inside → Layout
layout_of z = layout_in z.spec z.memory z.index (kept_name z.kept)

-- the ranges of the contents of lent blocks, the first block at an offset
abbrev pub lent_spans : HeadKind → ℕ → List RawBlock → List Span
lent_spans heads at [] = []
lent_spans heads at (b ∷ bs) = let others = lent_spans heads (at + size_of heads b) bs in
    if b.lent then (at + head_size heads, length b.contents) ∷ others else others

-- how often a range is in a list
abbrev pub times : Span → List Span → ℕ
times s [] = 0
times s (t ∷ ts) = if (t.0 == s.0) && (t.1 == s.1) then suc (times s ts) else times s ts

-- two lists have the same ranges
abbrev pub SameSpans : List Span → List Span → Type 0
SameSpans ss ts = (s : Span) → times s ss ≡ times s ts

-- the bytes are those of possible blocks, and nothing else, the index is that of these, and their lent contents are
-- what is lent
pub record IsLayout (z : Inside) : Type 0 where
  pub all_bytes : length z.memory.bytes ≡ z.spec.limit
  pub low : zone_header ≤ z.spec.size
  pub high : z.spec.size ≤ z.spec.limit
  pub form : z.memory.bytes ≡ image_of (layout_of z)
  pub ends : address_after (layout_of z) (layout_of z).blocks ≡ z.spec.base + z.spec.size
  pub possible : IsTrue (list_all (is_possible z.spec.heads) (layout_of z).blocks)
  pub marked : z.index ≡ starts_of (layout_of z)
  pub lent : SameSpans z.memory.lent (lent_spans z.spec.heads zone_header (layout_of z).blocks)
  pub loans : z.loans ≡ lent_count (layout_of z).blocks
  pub few : z.loans ≤ most_lent

-- the same, and the record has what it has to have of them
pub record IsWhole (z : Inside) : Type 0 where
  pub layout : IsLayout z
  pub kept : RecordKept z.spec.heads (layout_of z).blocks z.memory.bytes z.kept
