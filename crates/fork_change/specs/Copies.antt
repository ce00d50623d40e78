-- Rows that are copied to others.
use Rattle.std.specs.Prelude.{ℕ, ℤ, pos, zero, suc, ◌+◌, nat_lt, Bool, false, true, not, if◌then◌else◌, List, [], ◌∷◌, ◌++◌, bytes_eq, length, Option, None, Some}
use Rattle.std.specs.List.{count_by, list_any}
use Rattle.std.specs.Option.{option_and_then}
use Rattle.fork_bytes.specs.Rows.{Row}
use Rattle.fork_change.specs.declared.copying.Choice.{Choice}
use Rattle.fork_change.specs.declared.copying.Choice.TheVariants.{All, Kind, One}
use Rattle.fork_change.specs.declared.copying.Collision.{Collision}
use Rattle.fork_change.specs.declared.copying.Collision.TheVariants.{Refuse, Replace, Skip, Renumber}
use Rattle.fork_change.specs.Rows.{added, first_to, id_of, is_at, is_there}

-- whether a choice means a row
abbrev pub is_meant : Choice → Row → Bool
is_meant All row = true
is_meant (Kind kind) row = bytes_eq row.kind kind
is_meant (One what) row = is_at what row

-- whether one of these choices does
abbrev pub is_chosen : List Choice → Row → Bool
is_chosen choices row = list_any (λ choice. is_meant choice row) choices

-- whether a choice, but that of all, means none of these rows
abbrev pub is_unmet : List Row → Choice → Bool
is_unmet rows All = false
is_unmet rows choice = not (list_any (is_meant choice) rows)

-- the first of these rows that has the type and the id of one before it, if there is one
abbrev pub second_of : List Row → List Row → Option Row
second_of before [] = None
second_of before (row ∷ rows) = if is_there (id_of row) before then Some row else second_of (before ++ row ∷ []) rows

-- the least id from this on that no row of a type has, if it is among so many
abbrev pub least_free : List ℕ → List Row → ℕ → ℕ → Option ℤ
least_free kind rows zero id = None
least_free kind rows (suc n) id =
    if nat_lt 32767 id then None else if is_there (record { kind = kind; id = pos id }) rows then least_free kind rows n (id + 1) else Some (pos id)

-- the least from 128 on: of one more than there are rows, one is free
abbrev pub free_id : List ℕ → List Row → Option ℤ
free_id kind rows = least_free kind rows (length rows + 1) 128

-- the rows with one more that has this id, if there is one
abbrev pub renumbered : Row → List Row → Option ℤ → Option (List Row)
renumbered row rows None = None
renumbered row rows (Some id) = Some (added (record { kind = row.kind; id = id; name = row.name; attributes = row.attributes; datum = row.datum }) rows)

-- the rows after one is copied to them whose type and id one has already; none where that is refused
abbrev pub collided : Collision → Row → List Row → Option (List Row)
collided Refuse row rows = None
collided Replace row rows = Some (first_to (is_at (id_of row)) (row ∷ []) rows)
collided Skip row rows = Some rows
collided Renumber row rows = renumbered row rows (free_id row.kind rows)

-- the rows after one is copied to them
abbrev pub copied_one : Collision → Row → List Row → Option (List Row)
copied_one how row rows = if is_there (id_of row) rows then collided how row rows else Some (added row rows)

-- the rows after these are copied to them, one after the other
abbrev pub copied : Collision → List Row → List Row → Option (List Row)
copied how [] rows = Some rows
copied how (row ∷ others) rows = option_and_then (copied how others) (copied_one how row rows)

-- how many of these rows have a type and an id that no row of others has
abbrev pub lacking : List Row → List Row → ℕ
lacking others rows = count_by (λ row. not (is_there (id_of row) others)) rows
