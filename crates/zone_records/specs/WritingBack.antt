-- What a `&mut` slice of a block leaves there.
use Rattle.std.specs.Prelude.{ℕ, ◌+◌, ◌==◌, if◌then◌else◌, List, [], ◌∷◌}
use Rattle.std.specs.Borrow.{Lends, Array, MutBor, Fml, u8}
use Rattle.mac_base.specs.ZoneState.{overwritten}
use Rattle.zone_records.specs.Records.{BlockRecord, ZoneRecords, with_blocks, with_bytes, bytes_of, address_after}
use Rattle.zone_records.specs.contracts.records.Records.{the_row}

-- the blocks, the first of which is at an address, with bytes written over the contents of the one at x
abbrev pub overwritten_at : ℕ → ℕ → List ℕ → List BlockRecord → List BlockRecord
overwritten_at at x bytes [] = []
overwritten_at at x bytes (b ∷ bs) =
    if at == x then record b { content = with_bytes (overwritten (bytes_of b.content) bytes) b.content } ∷ bs else b ∷ overwritten_at (at + b.size) x bytes bs

-- the zone with bytes written over the contents of the block at x
abbrev pub with_contents_at : ZoneRecords → ℕ → List ℕ → ZoneRecords
with_contents_at z x bytes = with_blocks (overwritten_at (address_after z.shape []) x bytes z.blocks) z

-- the contents of the block at x end with what is left after the slice
abbrev pub WritesBackContents : MutBor ZoneRecords → ℕ → MutBor (List ℕ) → Fml
WritesBackContents zone x slice = Lends the_row (Array u8 0) zone slice (with_contents_at zone.now x)
