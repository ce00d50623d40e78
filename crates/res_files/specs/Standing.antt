-- How the open files are on the stores: by the places of their rows' bytes in the forks.
use Rattle.std.specs.Prelude.{◌≡◌, ℕ, ◌-◌, ◌≤◌, false, List, [], ◌∷◌, length, map, slice_get, unwrap_or, IfSome, IsTrue}
use Rattle.std.specs.List.{list_any, AllByRecursion}
use Rattle.std.specs.Option.{option_map_or}
use Rattle.fork_bytes.specs.Fork.{max_rows}
use Rattle.fork_bytes.specs.Laws.{IsGrouped}
use Rattle.fork_bytes.specs.declared.place.Place.{Place}
use Rattle.res_table.specs.declared.row.Row.{Row}
use Rattle.res_table.specs.declared.chain.ResourceTable.{ResourceTable}
use Rattle.res_table.specs.declared.chain.OpenFile.{OpenFile}
use Rattle.res_table.specs.OpenFiles.{OpenFiles, is_numbered, is_open, table_of}
use Rattle.res_table.specs.Saved.{bare}
use Rattle.res_update.specs.Changes.{Files}
use Rattle.res_update.specs.Placed.{table_on, AreNear, Holds}

-- the fork of a number, where these are the forks in the order of numbers
abbrev pub fork_at : List (List ℕ) → ℕ → List ℕ
fork_at forks number = unwrap_or (slice_get forks (number - 1)) []

-- an open file with the bytes at the places of its rows
abbrev pub file_on : List (List ℕ) → OpenFile Place → OpenFile (List ℕ)
file_on forks file = record { number = file.number; table = table_on (fork_at forks file.number) file.table }

-- the open files with the bytes at the places of their rows
abbrev pub files_on : List (List ℕ) → OpenFiles Place → Files
files_on forks chain = record { files = map (file_on forks) chain.files; current = chain.current }

-- rows that a fork may have: not too many, those of each type together, and no place ends past the longest fork
pub record AreSmall (rows : List (Row Place)) : Type 0 where
  pub few : length rows ≤ max_rows
  pub grouped : IsGrouped (bare rows)
  pub near : AreNear rows

-- a file is on the store of its number
pub record StandsOn {S : Type 0} (fork : S → List ℕ) (is_ready is_honest : S → Type 0) (stores : List S) (file : OpenFile Place) : Type 0 where
  pub from_one : 1 ≤ file.number
  pub to_count : file.number ≤ length stores
  pub small : AreSmall file.table.rows
  pub held : IfSome (slice_get stores (file.number - 1)) (Holds fork is_ready is_honest file.table.rows)

-- no two files have the same number
abbrev pub AreApart : List (OpenFile Place) → Type 0
AreApart [] = Unit {0}
AreApart (file ∷ files) = (list_any (is_numbered file.number) files ≡ false) × AreApart files

-- there are at most this many files, open or not
abbrev pub most_files : ℕ
most_files = 255

-- the open files are on at most so many stores, each on its own, and the current file is one of them
pub record StandOn {S : Type 0} (fork : S → List ℕ) (is_ready is_honest : S → Type 0) (stores : List S) (chain : OpenFiles Place) : Type 0 where
  pub few : length stores ≤ most_files
  pub each : AllByRecursion (StandsOn fork is_ready is_honest stores) chain.files
  pub apart : AreApart chain.files
  pub current : IfSome chain.current (λ k. IsTrue (is_open k chain))

-- the rows of the file of a number, and none where it isn't open
abbrev pub placed_rows_of : ℕ → OpenFiles Place → List (Row Place)
placed_rows_of k chain = option_map_or (λ (table : ResourceTable Place). table.rows) (table_of k chain) []

-- the rows of the current file, and none where no file is open
abbrev pub placed_rows : OpenFiles Place → List (Row Place)
placed_rows chain = option_map_or (λ k. placed_rows_of k chain) chain.current []
