-- Lists of rows: look-ups, which give the first match, and changes.
use Rattle.std.specs.Prelude.{ℕ, zero, suc, ◌+◌, ◌<◌, ◌≤◌, ◌==◌, ◌≡◌, ℤ, pos, Bool, true, false, not, ◌&&◌, if◌then◌else◌, List, [], ◌∷◌, length, map, filter, remove, set, slice_get, Option, None, bytes_eq}
use Rattle.std.specs.List.{list_any, sum_by}
use Rattle.std.specs.Option.{option_map_or}
use Rattle.std.specs.Ordering.{int_eq}
use Rattle.fork_bytes.specs.Written.{name_text}
use Rattle.mac_base.specs.HandleTable.{HandleTable, bytes_of}
use Rattle.mac_base.specs.declared.resource.ResAttrs.{ResAttrs}
use Rattle.mac_base.specs.declared.resource.Resource.{Resource}
use Rattle.res_table.specs.declared.row.Row.{Row}
use Rattle.res_table.specs.Attributes.{is_marked, unmarked}
pub use Rattle.res_table.specs.Kinds.{ith}

-- whether a row has the handle
abbrev pub has_handle : {D : Type 0} → ℕ → Row D → Bool
has_handle h r = option_map_or (λ g. g == h) r.handle false

-- whether a row is of the type
abbrev pub is_of_type : {D : Type 0} → List ℕ → Row D → Bool
is_of_type kind r = bytes_eq r.resource.kind kind

-- whether a row has the type and the id
abbrev pub is_resource : {D : Type 0} → List ℕ → ℤ → Row D → Bool
is_resource kind id r = is_of_type kind r && int_eq r.resource.id id

-- whether a row is changed: its contents aren't those of the file
abbrev pub is_changed : {D : Type 0} → Row D → Bool
is_changed r = is_marked r.resource.attributes

-- the handle of a changed row, if it has one: an update takes its bytes
abbrev pub changed_handle : {D : Type 0} → Row D → Option ℕ
changed_handle r = if is_changed r then r.handle else None

-- whether a changed row has the handle
abbrev pub has_changed : {D : Type 0} → ℕ → List (Row D) → Bool
has_changed h rows = list_any (λ r. is_changed r && has_handle h r) rows

-- the contents of a row: the bytes of its handle, and none where it has no handle or an empty one
abbrev pub contents : {D : Type 0} → HandleTable → Row D → List ℕ
contents t r = option_map_or (bytes_of t) r.handle []

-- how many bytes the name of a row takes in a fork, with its byte of length; none where it has no name
abbrev pub name_size : {D : Type 0} → Row D → ℕ
name_size r = length (name_text r.resource.name)

-- how many bytes the names of rows take
abbrev pub names_size : {D : Type 0} → List (Row D) → ℕ
names_size rows = sum_by name_size rows

-- the row with this handle, or with none
abbrev pub with_handle : {D : Type 0} → Option ℕ → Row D → Row D
with_handle h r = record r { handle = h }

-- the row with these attributes
abbrev pub with_attributes : {D : Type 0} → ResAttrs → Row D → Row D
with_attributes attributes r = record r { resource = record (r.resource) { attributes = attributes } }

-- the row with this datum
abbrev pub with_datum : {D : Type 0} → D → Row D → Row D
with_datum datum r = record r { resource = record (r.resource) { datum = datum } }

-- the row of a resource that was read: it has no handle and is not changed
abbrev pub opened_row : {D : Type 0} → Resource D → Row D
opened_row r = record { resource = record r { attributes = unmarked r.attributes }; handle = None }

-- the rows with one of them changed so
abbrev pub changed_at : {D : Type 0} → ℕ → (Row D → Row D) → List (Row D) → List (Row D)
changed_at at change rows = option_map_or (λ r. set rows at (change r)) (slice_get rows at) rows

-- the rows without the one at an index
abbrev pub removed_at : {D : Type 0} → ℕ → List (Row D) → List (Row D)
removed_at at rows = remove rows at

-- the rows with a new one, after the last of its type, or last
abbrev pub added : {D : Type 0} → Row D → List (Row D) → List (Row D)
added new [] = new ∷ []
added new (r ∷ rows) = if is_of_type new.resource.kind r && not (list_any (is_of_type new.resource.kind) rows) then r ∷ new ∷ rows else r ∷ added new rows

-- the row without the handle, if it has it
abbrev pub forgetting : {D : Type 0} → ℕ → Row D → Row D
forgetting h r = if has_handle h r then with_handle None r else r

-- the rows, of which none has the handle
abbrev pub forgotten : {D : Type 0} → ℕ → List (Row D) → List (Row D)
forgotten h rows = map (forgetting h) rows

-- the indexes of the rows that pass a test, where the first row has this index
abbrev pub indexes_from : {D : Type 0} → ℕ → (Row D → Bool) → List (Row D) → List ℕ
indexes_from at test [] = []
indexes_from at test (r ∷ rows) = if test r then at ∷ indexes_from (at + 1) test rows else indexes_from (at + 1) test rows

-- the index of the i-th row of a type, counted from 1
abbrev pub index_of_ith : {D : Type 0} → List ℕ → ℕ → List (Row D) → Option ℕ
index_of_ith kind i rows = ith i (indexes_from 0 (is_of_type kind) rows)

-- how many rows a type has
abbrev pub count_of_type : {D : Type 0} → List ℕ → List (Row D) → ℕ
count_of_type kind rows = length (filter (is_of_type kind) rows)

-- the least id from this one on that no row of the type has, where at most so many are taken
abbrev pub free_id_from : {D : Type 0} → ℕ → ℕ → List ℕ → List (Row D) → ℕ
free_id_from zero id kind rows = id
free_id_from (suc n) id kind rows = if list_any (is_resource kind (pos id)) rows then free_id_from n (id + 1) kind rows else id

-- the least id from 128 on that no row of the type has
abbrev pub unique_id : {D : Type 0} → List ℕ → List (Row D) → ℕ
unique_id kind rows = free_id_from (length rows) 128 kind rows

-- the largest id
abbrev pub largest_id : ℕ
largest_id = 32767

-- each id of a type from one on, up to another, is that of a row
abbrev pub AreTaken : {D : Type 0} → List ℕ → ℕ → ℕ → List (Row D) → Type 0
AreTaken kind from to rows = (id : ℕ) → from ≤ id → id < to → list_any (is_resource kind (pos id)) rows ≡ true

-- no row has the type and the id
abbrev pub IsFree : {D : Type 0} → List ℕ → ℕ → List (Row D) → Type 0
IsFree kind id rows = list_any (is_resource kind (pos id)) rows ≡ false
