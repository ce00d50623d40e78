-- A block as a walk over the zone reports it.
use Rattle.std.specs.Prelude.{ℕ, ◌+◌, ◌==◌, Option, find, List, [], ◌∷◌}
use Rattle.mac_base.specs.declared.block.Block.{Block}
use Rattle.mac_base.specs.declared.block.Kind.{Kind}
use Rattle.mac_base.specs.declared.block.Kind.TheVariants.{Rel}
use Rattle.mac_base.specs.declared.block.Flags.{Flags}
use Rattle.mac_base.specs.HeadKind.{Shape}
use Rattle.mac_base.specs.ZoneMap.{ZoneMap, address_after}
use Rattle.mac_base.specs.HandleTable.{HandleTable, flags_of, no_flags}
use Rattle.mac_base.specs.Suits.{wanted_length}
use Rattle.mac_base.specs.Heap.{Heap}

-- the flags of a block's owner; only the block of a handle has any
abbrev pub block_flags : HandleTable → Kind → Flags
block_flags t (Rel h) = flags_of t h
block_flags t _ = no_flags

-- the blocks of the zone, each with its header's address, its logical length and its flags
abbrev pub reports_from : HandleTable → ℕ → ZoneMap → List Block
reports_from t at [] = []
reports_from t at (e ∷ es) = record { address = at; entry = e; length = wanted_length t e.kind; flags = block_flags t e.kind } ∷ reports_from t (at + e.size) es

-- the block whose header is at an address, if there is one
abbrev pub report_at : Shape → Heap → ℕ → Option Block
report_at s heap at = find (λ (b : Block). b.address == at) (reports_from heap.table (address_after s []) heap.map)
