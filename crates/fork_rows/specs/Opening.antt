-- What a fork is read as that stays on its disk.
use Rattle.std.specs.Prelude.{◌≡◌, ℕ, ◌+◌, ◌<◌, ◌≤◌, ◌⊎◌, List, length, map, ⊤, Result, MatchResult, IfOk, IfErr}
use Rattle.std.specs.List.{AllByRecursion}
use Rattle.fork_bytes.specs.declared.fault.Condition.{Condition}
use Rattle.fork_bytes.specs.declared.layout.Header.{Header}
use Rattle.fork_bytes.specs.declared.layout.Limits.{Limits}
use Rattle.fork_bytes.specs.declared.table.Table.{Table}
use Rattle.fork_bytes.specs.Fork.{header_of, map_of, extra_of, attributes_of, macheap_limits, max_fork, IsForkWithin, RefusesWithin, StandsForWithin}
use Rattle.fork_bytes.specs.Laws.{IsGrouped}
use Rattle.fork_bytes.specs.declared.fault.ForkFault.TheVariants.{EndOfFile, HostFull}
use Rattle.fork_disk.specs.declared.faults.RecoverFault.{RecoverFault}
use Rattle.fork_disk.specs.declared.faults.RecoverFault.TheVariants as recover
use Rattle.fork_disk.specs.declared.store.ForkStore.{Ghosts}
use Rattle.fork_disk.specs.Disk.{Rose}
use Rattle.fork_disk.specs.Stores.{OnlyReads}
use Rattle.fork_bytes.specs.Reading.{PlacedRow, placed_rows, row_at, IsWithin, FaultsAt}
use Rattle.mac_base.specs.declared.resource.Resource.{Resource}
use Rattle.fork_rows.specs.declared.fault.OpenFault.{OpenFault}
use Rattle.fork_rows.specs.declared.fault.OpenFault.TheVariants.{Fork, Device}
use Rattle.fork_rows.specs.declared.table.PlacedTable.{PlacedTable}

-- the table of a fork, with the places of the resources' bytes in place of these
abbrev pub placed_table : List ℕ → PlacedTable
placed_table fork = record {
  rows = placed_rows fork;
  extra = extra_of fork;
  map_attributes = attributes_of (map_of fork);
}

-- the table with the bytes that are at the places
abbrev pub filled : List ℕ → PlacedTable → Table
filled fork table = record {
  rows = map (row_at fork) table.rows;
  extra = table.extra;
  map_attributes = table.map_attributes;
}

-- the bytes of a row end at this place of the fork at the latest
abbrev pub EndsBy : ℕ → PlacedRow → Type 0
EndsBy end row = row.datum.offset + row.datum.length ≤ end

-- they end where macheap's longest fork does at the latest
abbrev pub FitsInFork : PlacedRow → Type 0
FitsInFork = EndsBy max_fork

-- the types of rows
abbrev pub kinds_in : {X : Type 0} → List (Resource X) → List (List ℕ)
kinds_in rows = map (λ row. row.kind) rows

-- the rows of one type are together, whatever the bytes at their places
abbrev pub AreGrouped : List PlacedRow → Type 0
AreGrouped rows = (fork : List ℕ) → IsGrouped (map (row_at fork) rows)

-- the bytes are a fork, and this is its table with places
abbrev pub HasPlacesWithin : Limits → List ℕ → PlacedTable → Type 0
HasPlacesWithin limits fork table = IsForkWithin limits fork × (table ≡ placed_table fork)

-- what a fault says of the bytes
abbrev pub RefusesToOpenWithin : Limits → List ℕ → OpenFault → Type 0
RefusesToOpenWithin limits fork (Fork fault) = RefusesWithin limits fork fault
RefusesToOpenWithin limits fork Device = ⊤

abbrev pub RefusesToOpen : List ℕ → OpenFault → Type 0
RefusesToOpen = RefusesToOpenWithin macheap_limits

-- a fault of the bytes is of this condition, and then this holds
abbrev pub FaultsIn : Condition → Type 0 → OpenFault → Type 0
FaultsIn condition P (Fork fault) = FaultsAt condition P fault
FaultsIn condition P Device = ⊤

-- where a store is honest it is ready, with such a fork
abbrev pub IsReadyWith : {S : Type 0} → Ghosts S → S → (List ℕ → Type 0) → Type 0
IsReadyWith store s P = store.is_honest s → store.is_ready s × P (store.fork s)

-- a store is only read, and so the fork is that it has
pub record Reads {S : Type 0} (store : Ghosts S) (old new : S) (P : List ℕ → Type 0) : Type 0 where
  pub keeps : OnlyReads store old new
  pub told : P (store.fork old)

-- a fork has this header, and its data lie within it
abbrev pub HasHeader : Header → List ℕ → Type 0
HasHeader header fork = (header ≡ header_of fork) × (header.data_offset + header.data_length ≤ length fork)

-- What a fork is opened as: its table, with the places of the resources' bytes, or why there is none.
pub record OpensAsWithin (limits : Limits) (result : Result PlacedTable OpenFault) (fork : List ℕ) : Type 0 where
  pub rows : IfOk result (HasPlacesWithin limits fork)
  pub table : IfOk result (λ table. StandsForWithin limits fork (filled fork table))
  pub within : IfOk result (λ table. AllByRecursion (IsWithin fork) table.rows)
  pub refuses : IfErr result (RefusesToOpenWithin limits fork)
  pub end : length fork < 16 → IfErr result (λ fault. (fault ≡ Fork EndOfFile) ⊎ (fault ≡ Device))

-- the same, as macheap opens forks
abbrev pub OpensAs : Result PlacedTable OpenFault → List ℕ → Type 0
OpensAs = OpensAsWithin macheap_limits

-- the fault of opening a file whose fork couldn't be made ready
abbrev pub unrecovered : RecoverFault → OpenFault
unrecovered recover.Device = Device
unrecovered recover.Host = Fork HostFull

-- the count of failures rose where the fault is the device's, and stayed otherwise
abbrev pub CountsFault : ℕ → ℕ → OpenFault → Type 0
CountsFault before now (Fork fault) = now ≡ before
CountsFault before now Device = Rose before now

abbrev pub CountsDevice : {T : Type 0} → ℕ → ℕ → Result T OpenFault → Type 0
CountsDevice before now result = MatchResult result (λ _. now ≡ before) (CountsFault before now)
