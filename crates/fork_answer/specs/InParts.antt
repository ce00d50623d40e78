-- A file that is a resource fork, of which only some parts are read.
use Rattle.std.specs.Prelude.{◌≡◌, ◌≢◌, ◌⊎◌, ℕ, true, false, List, [], map, Option, MatchOption, Result, MatchResult}
use Rattle.std.specs.List.{AllByRecursion}
use Rattle.fork_bytes.specs.declared.fault.ForkFault.{ForkFault}
use Rattle.fork_bytes.specs.declared.table.Table.{Table}
use Rattle.fork_bytes.specs.Fork.{RefusesWithin, StandsForWithin, format_limits}
use Rattle.fork_disk.specs.declared.store.ForkStore.{Ghosts}
use Rattle.fork_disk.specs.Disk.{Rose}
use Rattle.fork_bytes.specs.Reading.{PlacedRow, IsWithin, row_at}
use Rattle.fork_rows.specs.Opening.{Reads}
use Rattle.mac_files.specs.Containers.{is_raw}
use Rattle.fork_answer.specs.declared.answer.Failure.{Failure}
use Rattle.fork_answer.specs.declared.request.Request.{Request}
use Rattle.fork_answer.specs.declared.request.Request.TheVariants as request
use Rattle.fork_list.specs.Compressed.{has_marked}
use Rattle.fork_answer.specs.Answer.{Shows}
use Rattle.fork_answer.specs.Source.{IsForkIn}

-- the rows of a table, with the places of their bytes in a file
abbrev pub HasRows : List ℕ → List PlacedRow → Table → Type 0
HasRows file rows table = table.rows ≡ map (row_at file) rows

-- The file is a resource fork, and these are the rows of its table, with the places of their bytes.
pub record IsForkWith (file : List ℕ) (rows : List PlacedRow) : Type 0 where
  pub fork : IsForkIn file file
  pub table : (table : Table) × StandsForWithin format_limits file table × HasRows file rows table
  pub within : AllByRecursion (IsWithin file) rows

-- what is shown is what is asked for of the table with these rows
abbrev pub ShowsRows : {T : Type 0} → Request → List PlacedRow → Option (List ℕ) → Option (List ℕ) → List ℕ → Result T Failure → Type 0
ShowsRows request rows old new file result = (table : Table) → HasRows file rows table → Shows request table old new result

-- The file is a resource fork, but its bytes stand for no table, and this is why.
pub record IsNoForkWith (file : List ℕ) (fault : ForkFault) : Type 0 where
  pub fork : IsForkIn file file
  pub some : file ≢ []
  pub refuses : RefusesWithin format_limits file fault

-- what a file is read as that is a resource fork
abbrev pub IsReadAs : List ℕ → Result (List PlacedRow) ForkFault → Type 0
IsReadAs file result = MatchResult result (IsForkWith file) (IsNoForkWith file)

-- the file isn't known as a resource fork and nothing else
abbrev pub IsNotRaw : List ℕ → Type 0
IsNotRaw file = is_raw file ≡ false

-- the list of a fork is asked for in which a resource may be compressed: its bytes say how many it has unpacked
abbrev pub ListsMarked : Request → List ℕ → Type 0
ListsMarked (request.List choice) file = (rows : List PlacedRow) × IsForkWith file rows × (has_marked rows ≡ true)
ListsMarked (request.Types choice) file = ⊥
ListsMarked (request.Get wanted) file = ⊥

-- all of a file has to be read
abbrev pub IsReadWhole : Request → List ℕ → Type 0
IsReadWhole asked file = IsNotRaw file ⊎ ListsMarked asked file

-- no file
abbrev pub Never : List ℕ → Type 0
Never file = ⊥

-- a store can be read, if it is honest
abbrev pub IsReady : {S : Type 0} → Ghosts S → S → Type 0
IsReady store s = store.is_honest s → store.is_ready s

-- If a store is honest after a call, the call only read it, and this holds of its file and what is said of it; or
-- nothing is said, since the file is such a one, or a read failed, which the store has counted.
abbrev pub TellsInParts : {S T : Type 0} → Ghosts S → S → S → (List ℕ → T → Type 0) → (List ℕ → Type 0) → Option T → Type 0
TellsInParts store old new Tells IsSilent told =
    store.is_honest new → Reads store old new (λ file. MatchOption told (IsSilent file ⊎ Rose (store.failures old) (store.failures new)) (Tells file))
