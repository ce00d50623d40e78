-- What is lent in a new zone.
use Rattle.std.proofs.Common.{◌≡◌, ℕ, ◌==◌, List, [], ap}
use Rattle.mac_base.specs.ZoneState.{ZoneState}
use Rattle.held_calls.specs.Holding.{Holds}
use Rattle.std.specs.List.{list_any}

-- where nothing is lent, nothing is held
pub Holds-none : (zone : ZoneState) → zone.heap.table.lent ≡ [] → Holds zone []
Holds-none zone none = record { each = tt; once = tt; all = λ x. ap (λ (xs : List ℕ). list_any (λ y. y == x) xs) none }
