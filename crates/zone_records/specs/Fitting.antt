-- What it is to cut a block to its first bytes and to keep the first few of its contents.
use Rattle.std.specs.Prelude.{ℕ, ◌-◌, ◌≤◌, ◌∷◌, ◌++◌, length, take}
use Rattle.mac_base.specs.HandleTable.{resized}
use Rattle.zone_records.specs.Records.{block_record, ZoneRecords, with_blocks, with_bytes, bytes_of}
use Rattle.zone_records.specs.Places.{CanHold}
use Rattle.zone_records.specs.Changes.{free_record}

-- the block has so many of its bytes, n of them contents: the first few of those that it had, and zeros; the others are
-- free
abbrev pub fitted : ℕ → {at size n : ℕ} → (z : ZoneRecords) → CanHold z at size n → ZoneRecords
fitted kept {size = size} {n = n} z can = let held = can.held in
    with_blocks (held.before ++ block_record (with_bytes (resized n (take kept (bytes_of held.content))) held.content) size ∷ free_record (held.size - size) ++ held.after) z

-- the block at an address can have n bytes of contents in its first bytes, so many, and has as many bytes as are kept
pub record CanKeep (z : ZoneRecords) (at size n kept : ℕ) : Type 0 where
  pub can : CanHold z at size n
  pub few : kept ≤ length (bytes_of can.held.content)
