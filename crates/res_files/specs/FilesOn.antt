-- The open files with the bytes of their rows, and the stores of all files.
use Rattle.std.specs.Prelude.{◌≡◌, ℕ, ◌-◌, ◌<◌, Bool, List, [], length, map, slice_get, IfSome}
use Rattle.std.specs.Option.{option_map_or}
use Rattle.fork_disk.specs.Disk.{Rose}
use Rattle.fork_bytes.specs.declared.place.Place.{Place}
use Rattle.res_table.specs.declared.row.Row.{Row}
use Rattle.res_update.specs.Changes.{Files, FileRow}

-- the open files with the bytes that their rows have on the disk, whether calls load what they get, and the stores in
-- the order of numbers
pub record FilesOn (S : Type 0) : Type 0 where
  pub files : Files
  pub loads : Bool
  pub stores : List S

-- the fork of the file of a number, where this gives that of a store
abbrev pub fork_of : {S : Type 0} → (S → List ℕ) → ℕ → List S → List ℕ
fork_of fork number stores = option_map_or fork (slice_get stores (number - 1)) []

-- no store has failed, where this counts a store's failures
abbrev pub NoneFailed : {S : Type 0} → (S → ℕ) → List S → List S → Type 0
NoneFailed failures before now = map failures now ≡ map failures before

-- how often the store at a place has failed
abbrev pub failures_at : {S : Type 0} → (S → ℕ) → ℕ → List S → ℕ
failures_at failures at stores = option_map_or failures (slice_get stores at) 0

-- some store has failed: its count of failures rose
abbrev pub SomeFailed : {S : Type 0} → (S → ℕ) → List S → List S → Type 0
SomeFailed failures before now = (at : ℕ) × (at < length before) × Rose (failures_at failures at before) (failures_at failures at now)

-- the store of the file of a number has failed: its count of failures rose
abbrev pub FailedAt : {S : Type 0} → (S → ℕ) → ℕ → List S → List S → Type 0
FailedAt failures number before now = (number - 1 < length before)
    × Rose (failures_at failures (number - 1) before) (failures_at failures (number - 1) now)

-- the device of the store of the file of a number is honest, where there is that file
abbrev pub HonestAt : {S : Type 0} → (S → Type 0) → List S → ℕ → Type 0
HonestAt is_honest stores number = IfSome (slice_get stores (number - 1)) is_honest

-- each device that is honest was so before
abbrev pub WereHonest : {S : Type 0} → (S → Type 0) → List S → List S → Type 0
WereHonest is_honest old new = (k : ℕ) → HonestAt is_honest new k → HonestAt is_honest old k

-- The row of an open file is this, but for its bytes, and its place has as many as these.
pub record Shows (row : Row Place) (shown : FileRow) : Type 0 where
  pub kind : row.resource.kind ≡ shown.resource.kind
  pub id : row.resource.id ≡ shown.resource.id
  pub name : row.resource.name ≡ shown.resource.name
  pub attributes : row.resource.attributes ≡ shown.resource.attributes
  pub handle : row.handle ≡ shown.handle
  pub size : row.resource.datum.length ≡ length shown.resource.datum
