-- Which condition fails first, from what the parts of a fork say.
use Rattle.std.proofs.Common.{◌≡◌, ℕ, ◌<◌, ◌≤◌, List, length, subst, sym, refl, arith}
use Rattle.fork_bytes.specs.declared.fault.Condition.{Condition}
use Rattle.fork_bytes.specs.declared.layout.Limits.{Limits}
use Rattle.fork_bytes.specs.declared.fault.Condition.TheVariants.{Parts, Types, References, RowCount, Names, Places, ByteCount}
use Rattle.fork_bytes.specs.declared.fault.ForkFault.{ForkFault}
use Rattle.fork_bytes.specs.declared.fault.ForkFault.TheVariants.{EndOfFile, BadMap, HostFull}
use Rattle.fork_bytes.specs.Fork.{header_of, data_of, map_of, map_rows, rank, HasPartsWithin, HasTypes, HasReferences, HasFewRowsWithin, HasNames, HasData, HasFewBytesWithin, HoldsWithin, IsForkWithin, FailsFirstWithin, RefusesWithin}
use Rattle.fork_bytes.specs.Reading.{MapHoldsWithin, IsMapWithin, MapFailsFirstWithin, RefusesMapWithin, FaultsAt}

-- the conditions of a map below a rank
map_below : (limits : Limits) (m : List ℕ) (n : ℕ) → (1 < n → HasTypes m) → (2 < n → HasReferences m) → (3 < n → HasFewRowsWithin limits m) → (4 < n → HasNames m) →
    (other : Condition) → rank other < n → MapHoldsWithin limits other m
map_below limits m n types references rows names Parts low = tt
map_below limits m n types references rows names Types low = types low
map_below limits m n types references rows names References low = references low
map_below limits m n types references rows names RowCount low = rows low
map_below limits m n types references rows names Names low = names low
map_below limits m n types references rows names Places low = tt
map_below limits m n types references rows names ByteCount low = tt

-- which one fails, where those before it hold
pub types_fail : (limits : Limits) (m : List ℕ) → (HasTypes m → ⊥) → MapFailsFirstWithin limits m Types
types_fail limits m fails = record {
  fails = fails;
  before = map_below limits m 1 (λ (low : 1 < 1). absurd (omega arith)) (λ (low : 2 < 1). absurd (omega arith)) (λ (low : 3 < 1). absurd (omega arith)) (λ (low : 4 < 1). absurd (omega arith));
}

pub names_fail : (limits : Limits) (m : List ℕ) → HasTypes m → HasReferences m → HasFewRowsWithin limits m → (HasNames m → ⊥) → MapFailsFirstWithin limits m Names
names_fail limits m types references rows fails = record {
  fails = fails;
  before = map_below limits m 4 (λ _. types) (λ _. references) (λ _. rows) (λ (low : 4 < 4). absurd (omega arith));
}

pub is_map : (limits : Limits) (m : List ℕ) → HasTypes m → HasReferences m → HasFewRowsWithin limits m → HasNames m → IsMapWithin limits m
is_map limits m types references rows names Parts = tt
is_map limits m types references rows names Types = types
is_map limits m types references rows names References = references
is_map limits m types references rows names RowCount = rows
is_map limits m types references rows names Names = names
is_map limits m types references rows names Places = tt
is_map limits m types references rows names ByteCount = tt

-- a fault that is of one condition
pub refuses_at : (limits : Limits) (m : List ℕ) (condition : Condition) (P : Type 0) → (P → MapFailsFirstWithin limits m condition) → (fault : ForkFault) → FaultsAt condition P fault → RefusesMapWithin limits m fault
refuses_at limits m condition P told EndOfFile at = at
refuses_at limits m condition P told (BadMap other) at = let Q : Condition → Type 0 = MapFailsFirstWithin limits m in subst Q (sym at.0) (told at.1)
refuses_at limits m condition P told HostFull at = tt

-- the conditions of a fork below the rank of its data
fork_below : (limits : Limits) (fork : List ℕ) (n : ℕ) → n ≤ 5 → HasPartsWithin limits (length fork) (header_of fork) → ((other : Condition) → rank other < n → MapHoldsWithin limits other (map_of fork)) →
    (other : Condition) → rank other < n → HoldsWithin limits other fork
fork_below limits fork n few parts told Parts low = parts
fork_below limits fork n few parts told Types low = told Types low
fork_below limits fork n few parts told References low = told References low
fork_below limits fork n few parts told RowCount low = told RowCount low
fork_below limits fork n few parts told Names low = told Names low
fork_below limits fork n few parts told Places low = absurd (omega arith)
fork_below limits fork n few parts told ByteCount low = absurd (omega arith)

-- what fails first in the map does so in the fork, where the parts lie within it
pub map_fails : (limits : Limits) (fork : List ℕ) → HasPartsWithin limits (length fork) (header_of fork) → (condition : Condition) → MapFailsFirstWithin limits (map_of fork) condition → FailsFirstWithin limits fork condition
map_fails limits fork parts Parts first = absurd (first.fails tt)
map_fails limits fork parts Types first = record { fails = first.fails; before = fork_below limits fork 1 (omega arith) parts first.before }
map_fails limits fork parts References first = record { fails = first.fails; before = fork_below limits fork 2 (omega arith) parts first.before }
map_fails limits fork parts RowCount first = record { fails = first.fails; before = fork_below limits fork 3 (omega arith) parts first.before }
map_fails limits fork parts Names first = record { fails = first.fails; before = fork_below limits fork 4 (omega arith) parts first.before }
map_fails limits fork parts Places first = absurd (first.fails tt)
map_fails limits fork parts ByteCount first = absurd (first.fails tt)

pub map_refuses : (limits : Limits) (fork : List ℕ) → 16 ≤ length fork → HasPartsWithin limits (length fork) (header_of fork) → (fault : ForkFault) → RefusesMapWithin limits (map_of fork) fault → RefusesWithin limits fork fault
map_refuses limits fork whole parts EndOfFile told = absurd told
map_refuses limits fork whole parts (BadMap condition) told = (whole, map_fails limits fork parts condition told)
map_refuses limits fork whole parts HostFull told = tt

-- the places fail
pub places_fail : (limits : Limits) (fork : List ℕ) → HasPartsWithin limits (length fork) (header_of fork) → IsMapWithin limits (map_of fork) → (HasData (data_of fork) (map_rows (map_of fork)) → ⊥) → FailsFirstWithin limits fork Places
places_fail limits fork parts told fails = record { fails = fails; before = fork_below limits fork 5 (omega arith) parts (λ other _. told other) }

pub places_refuse : (limits : Limits) (fork : List ℕ) → 16 ≤ length fork → HasPartsWithin limits (length fork) (header_of fork) → IsMapWithin limits (map_of fork) →
    (fault : ForkFault) → FaultsAt Places (HasData (data_of fork) (map_rows (map_of fork)) → ⊥) fault → RefusesWithin limits fork fault
places_refuse limits fork whole parts told EndOfFile at = absurd at
places_refuse limits fork whole parts told (BadMap other) at =
    let Q : Condition → Type 0 = FailsFirstWithin limits fork in (whole, subst Q (sym at.0) (places_fail limits fork parts told at.1))
places_refuse limits fork whole parts told HostFull at = tt

-- the count of bytes fails
bytes_below : (limits : Limits) (fork : List ℕ) → HasPartsWithin limits (length fork) (header_of fork) → IsMapWithin limits (map_of fork) → HasData (data_of fork) (map_rows (map_of fork)) →
    (other : Condition) → rank other < 6 → HoldsWithin limits other fork
bytes_below limits fork parts told places Parts low = parts
bytes_below limits fork parts told places Types low = told Types
bytes_below limits fork parts told places References low = told References
bytes_below limits fork parts told places RowCount low = told RowCount
bytes_below limits fork parts told places Names low = told Names
bytes_below limits fork parts told places Places low = places
bytes_below limits fork parts told places ByteCount low = absurd (omega arith)

pub bytes_refuse : (limits : Limits) (fork : List ℕ) → 16 ≤ length fork → HasPartsWithin limits (length fork) (header_of fork) → IsMapWithin limits (map_of fork) → HasData (data_of fork) (map_rows (map_of fork)) →
    (HasFewBytesWithin limits (data_of fork) (map_rows (map_of fork)) → ⊥) → RefusesWithin limits fork (BadMap ByteCount)
bytes_refuse limits fork whole parts told places fails = (whole, record { fails = fails; before = bytes_below limits fork parts told places })

-- all of them hold
pub is_fork : (limits : Limits) (fork : List ℕ) → 16 ≤ length fork → HasPartsWithin limits (length fork) (header_of fork) → IsMapWithin limits (map_of fork) → HasData (data_of fork) (map_rows (map_of fork)) →
    HasFewBytesWithin limits (data_of fork) (map_rows (map_of fork)) → IsForkWithin limits fork
is_fork limits fork whole parts told places few = record { header = whole; holds = all }
  where
    all : (condition : Condition) → HoldsWithin limits condition fork
    all Parts = parts
    all Types = told Types
    all References = told References
    all RowCount = told RowCount
    all Names = told Names
    all Places = places
    all ByteCount = few

-- what is said of a fault at a condition, where less is said of it
pub faults_less : (condition : Condition) (P Q : Type 0) → (P → Q) → (fault : ForkFault) → FaultsAt condition P fault → FaultsAt condition Q fault
faults_less condition P Q less EndOfFile at = at
faults_less condition P Q less (BadMap other) at = (at.0, less at.1)
faults_less condition P Q less HostFull at = tt

-- a fault that is known
pub fault_known : (condition : Condition) (P : Type 0) → P → (fault : ForkFault) → fault ≡ BadMap condition → FaultsAt condition P fault
fault_known condition P holds fault is = let Q : ForkFault → Type 0 = FaultsAt condition P in subst Q (sym is) (refl, holds)
