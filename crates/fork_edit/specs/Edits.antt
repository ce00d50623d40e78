-- What the changes of the commands make of the rows of a table, or why there are none.
use Rattle.std.specs.Prelude.{◌≡◌, ℕ, ◌&&◌, ◌⊎◌, Bool, if◌then◌else◌, List, [], ◌∷◌, Option, None, Some, Result, Ok, Err}
use Rattle.std.specs.List.{filter, find}
use Rattle.fork_bytes.specs.Rows.{Row}
use Rattle.fork_bytes.specs.declared.table.Table.{Table}
use Rattle.fork_change.specs.Rows.{changed_to, is_at, is_refused, is_there, put, removed, row_as, row_to_put, with_rows}
use Rattle.fork_change.specs.Copies.{copied, is_chosen}
use Rattle.fork_change.specs.declared.row.Change.{Change}
use Rattle.fork_change.specs.declared.row.ResourceId.{ResourceId}
use Rattle.fork_change.specs.declared.copying.Collision.{Collision}
use Rattle.fork_change.specs.declared.copying.Collision.TheVariants.{Renumber}
use Rattle.fork_change.specs.declared.refusal.Refusal.{Refusal}
use Rattle.fork_change.specs.declared.refusal.Refusal.TheVariants as why
use Rattle.fork_edit.specs.declared.edit.Edit.{Edit}
use Rattle.fork_edit.specs.declared.edit.Edit.TheVariants.{Put, Remove, Set, Copy}

-- a resource with these bytes is put; one that is there may be refused
abbrev pub put_in : Change → List ℕ → Bool → List Row → Result (List Row) Refusal
put_in change bytes is_new rows = if is_new && is_there change.to rows then Err why.Taken else Ok (put (row_to_put change bytes (find (is_at change.to) rows)) rows)

-- these are removed, one after the other
abbrev pub removed_from : List ResourceId → List Row → Result (List Row) Refusal
removed_from [] rows = Ok rows
removed_from (what ∷ whats) rows = if is_there what rows then removed_from whats (removed what rows) else Err (why.Missing what)

-- the resource that was found becomes another
abbrev pub set_in : ResourceId → Change → Option Row → List Row → Result (List Row) Refusal
set_in what change None rows = Err (why.Missing what)
set_in what change (Some old) rows = if is_refused what change.to rows then Err why.Taken else Ok (changed_to what (row_as change old) rows)

-- rows are copied; where they can't be, a row is there already, or no id is free
abbrev pub copied_to : Collision → Option (List Row) → Result (List Row) Refusal
copied_to how (Some rows) = Ok rows
copied_to Renumber None = Err why.NoFreeId
copied_to how None = Err why.Taken

-- the rows after a change to which rows are copied from these
abbrev pub edited : Edit → List Row → List Row → Result (List Row) Refusal
edited (Put change bytes is_new) from rows = put_in change bytes.now is_new rows
edited (Remove whats) from rows = removed_from whats.now rows
edited (Set what change) from rows = set_in what change (find (is_at what) rows) rows
edited (Copy chosen how) from rows = copied_to how (copied how (filter (is_chosen chosen.now) from) rows)

-- a table gets these rows, and all else of it stays; or it is refused as they are, unless the host has no memory
abbrev pub Becomes : Table → Result (List Row) Refusal → Result Table Refusal → Type 0
Becomes table rows (Ok new) = (rows ≡ Ok new.rows) × (new ≡ with_rows table new.rows)
Becomes table rows (Err fault) = (fault ≡ why.HostFull) ⊎ (rows ≡ Err fault)
