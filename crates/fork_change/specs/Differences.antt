-- What differs between two tables.
use Rattle.std.specs.Prelude.{◌==◌, ◌&&◌, ◌≡◌, ℕ, zero, suc, Bool, true, false, if◌then◌else◌, List, [], ◌∷◌, ◌++◌, length, slice_get, bytes_eq, Option, None, Some, option_copied}
use Rattle.std.specs.List.{filter}
use Rattle.fork_bytes.specs.Rows.{Row}
use Rattle.fork_change.specs.declared.comparing.Difference as found
use Rattle.fork_change.specs.declared.comparing.Differences.{Differences}
use Rattle.fork_change.specs.declared.row.ResourceId.{ResourceId}
use Rattle.fork_change.specs.Rows.{added, id_of, is_at}

-- the rows of a type and id, in their order: the first is found, and hides the others
abbrev pub rows_at : ResourceId → List Row → List Row
rows_at what rows = filter (is_at what) rows

-- how many there are
abbrev pub count_at : ResourceId → List Row → ℕ
count_at what rows = length (rows_at what rows)

-- the n-th of them, from 0 on, if there is one
abbrev pub nth_at : ResourceId → ℕ → List Row → Option Row
nth_at what n rows = slice_get (rows_at what rows) n

-- what differs of the n-th rows of a type and id: those that two tables have, if they have one
pub record Entry : Type 0 where
  pub nth : ℕ
  pub old : Option Row
  pub new : Option Row

-- the same, of what code has
abbrev pub shown : found.Difference → Entry
shown difference = record { nth = difference.nth; old = option_copied difference.old; new = option_copied difference.new }

-- whether names are the same, or there are none
abbrev pub same_name : Option (List ℕ) → Option (List ℕ) → Bool
same_name None None = true
same_name None (Some other) = false
same_name (Some name) None = false
same_name (Some name) (Some other) = bytes_eq name other

-- whether rows of one type and id have the same name, attributes and bytes
abbrev pub is_same : Row → Row → Bool
is_same row other = same_name row.name other.name && (row.attributes.0 == other.attributes.0 && bytes_eq row.datum other.datum)

-- what differs of a row, the n-th of its type and id, where the other table has this one
abbrev pub against : ℕ → Row → Option Row → List Entry
against n row None = record { nth = n; old = Some row; new = None } ∷ []
against n row (Some other) = if is_same row other then [] else record { nth = n; old = Some row; new = Some other } ∷ []

-- what differs of the first table's rows that come after these
abbrev pub changed_in : List Row → List Row → List Row → List Entry
changed_in second before [] = []
changed_in second before (row ∷ rows) =
    against (count_at (id_of row) before) row (nth_at (id_of row) (count_at (id_of row) before) second) ++ changed_in second (before ++ row ∷ []) rows

-- a row, the n-th of its type and id, that the first table hasn't
abbrev pub only_new : ℕ → Row → Option Row → List Entry
only_new n row None = record { nth = n; old = None; new = Some row } ∷ []
only_new n row (Some other) = []

-- those of the second table's rows, after these, that the first hasn't
abbrev pub added_in : List Row → List Row → List Row → List Entry
added_in first before [] = []
added_in first before (row ∷ rows) =
    only_new (count_at (id_of row) before) row (nth_at (id_of row) (count_at (id_of row) before) first) ++ added_in first (before ++ row ∷ []) rows

-- what differs between the rows of two tables
abbrev pub diff : List Row → List Row → List Entry
diff first second = changed_in second [] first ++ added_in first [] second

-- the rows with this one in the place of the n-th that passes a test
abbrev pub nth_to : (Row → Bool) → ℕ → Row → List Row → List Row
nth_to test n new [] = []
nth_to test zero new (row ∷ rows) = if test row then new ∷ rows else row ∷ nth_to test zero new rows
nth_to test (suc n) new (row ∷ rows) = if test row then row ∷ nth_to test n new rows else row ∷ nth_to test (suc n) new rows

-- the rows of which n that pass a test stay, and all others
abbrev pub cut : (Row → Bool) → ℕ → List Row → List Row
cut test n [] = []
cut test zero (row ∷ rows) = if test row then cut test zero rows else row ∷ cut test zero rows
cut test (suc n) (row ∷ rows) = if test row then row ∷ cut test n rows else row ∷ cut test (suc n) rows

-- the rows after a difference is applied: a row is replaced, those from it on go, or it is added
abbrev pub changed_by : ℕ → Option Row → Option Row → List Row → List Row
changed_by n None None rows = rows
changed_by n (Some old) None rows = cut (is_at (id_of old)) n rows
changed_by n None (Some new) rows = added new rows
changed_by n (Some old) (Some new) rows = nth_to (is_at (id_of old)) n new rows

-- the rows after all are
abbrev pub applied : List Entry → List Row → List Row
applied [] rows = rows
applied (entry ∷ entries) rows = applied entries (changed_by entry.nth entry.old entry.new rows)

-- the attributes of two maps, where they aren't the same
abbrev pub attributes_diff : ℕ → ℕ → Option (ℕ × ℕ)
attributes_diff old new = if old == new then None else Some (old, new)

-- nothing differs: no row, nor the order of rows, the map's attributes or the extra bytes
pub record IsEmpty (differences : Differences) : Type 0 where
  pub rows : differences.rows.items ≡ []
  pub order : differences.is_reordered ≡ false
  pub attributes : differences.map_attributes ≡ None
  pub extra : differences.extra ≡ None
