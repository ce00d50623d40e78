-- What a `&mut` slice of a block leaves there.
use Rattle.std.specs.Prelude.{ℕ, List}
use Rattle.std.specs.Borrow.{Lends, Array, MutBor, Fml, u8}
use Rattle.mac_base.specs.ZoneState.{ZoneState, with_contents}
use Rattle.zone_index.specs.contracts.zone.IndexedZone.{the_row}

-- the zone ends with what is written through the slice in the block of x
abbrev pub WritesBackBytes : MutBor ZoneState → ℕ → MutBor (List ℕ) → Fml
WritesBackBytes zone x slice = Lends the_row (Array u8 0) zone slice (with_contents zone.now x)
