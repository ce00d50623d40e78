-- Bytes of one block that are copied over those of another.
use Rattle.std.specs.Prelude.{ℕ, ◌+◌, ◌≤◌, ◌∷◌, ◌++◌, length, take, drop}
use Rattle.mac_base.specs.ZoneState.{written}
use Rattle.zone_records.specs.Records.{block_record, ZoneRecords, with_blocks, with_bytes, bytes_of}
use Rattle.zone_records.specs.Places.{HeldAt}

-- n bytes of the block at one address, from a place among them on, can be copied over as many of the block at another:
-- both have so many. It may be one block
pub record CanCopy (z : ZoneRecords) (from start to offset n : ℕ) : Type 0 where
  pub source : HeldAt z from
  pub target : HeldAt z to
  pub within_source : start + n ≤ length (bytes_of source.content)
  pub within_target : offset + n ≤ length (bytes_of target.content)

-- they are copied over those of the other
abbrev pub copied : {from start to offset n : ℕ} → (z : ZoneRecords) → CanCopy z from start to offset n → ZoneRecords
copied {start = start} {offset = offset} {n = n} z can = let target = can.target in let bytes = written offset (take n (drop start (bytes_of can.source.content))) (bytes_of target.content) in
    with_blocks (target.before ++ block_record (with_bytes bytes target.content) target.size ∷ target.after) z
