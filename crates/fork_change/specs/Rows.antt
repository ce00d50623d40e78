-- Changes of the rows of a table.
use Rattle.std.specs.Prelude.{ℕ, ◌&&◌, Bool, not, if◌then◌else◌, List, [], ◌∷◌, ◌++◌, bytes_eq, Option, None, Some}
use Rattle.std.specs.List.{list_any}
use Rattle.std.specs.Ordering.{int_eq}
use Rattle.std.specs.Int.{w8, bit_not}
use Rattle.std.specs.Int.RustNames.{bit_and, bit_or}
use Rattle.mac_base.specs.declared.resource.ResAttrs.{ResAttrs}
use Rattle.fork_bytes.specs.Rows.{Row}
use Rattle.fork_bytes.specs.declared.table.Table.{Table}
use Rattle.fork_change.specs.declared.row.AttributeChange.{AttributeChange}
use Rattle.fork_change.specs.declared.row.Change.{Change}
use Rattle.fork_change.specs.declared.row.NameChange.{NameChange}
use Rattle.fork_change.specs.declared.row.NameChange.TheVariants.{Keep, Clear, To}
use Rattle.fork_change.specs.declared.row.ResourceId.{ResourceId}

-- the type and the id of a row
abbrev pub id_of : Row → ResourceId
id_of row = record { kind = row.kind; id = row.id }

-- whether a row has this type and id
abbrev pub is_at : ResourceId → Row → Bool
is_at what row = bytes_eq row.kind what.kind && int_eq row.id what.id

-- whether some row has them
abbrev pub is_there : ResourceId → List Row → Bool
is_there what rows = list_any (is_at what) rows

-- whether some row has this type
abbrev pub has_kind : List ℕ → List Row → Bool
has_kind kind rows = list_any (λ row. bytes_eq row.kind kind) rows

-- the rows with these in the place of the first that passes a test
abbrev pub first_to : (Row → Bool) → List Row → List Row → List Row
first_to test these [] = []
first_to test these (row ∷ rows) = if test row then these ++ rows else row ∷ first_to test these rows

-- the rows with one more: as the last of its type, or as the last of all where there is none of it
abbrev pub added : Row → List Row → List Row
added new [] = new ∷ []
added new (row ∷ rows) = if bytes_eq row.kind new.kind && not (has_kind new.kind rows) then row ∷ new ∷ rows else row ∷ added new rows

-- the rows with this one in the place of the first with its type and id; one more where there is none
abbrev pub put : Row → List Row → List Row
put new rows = if is_there (id_of new) rows then first_to (is_at (id_of new)) (new ∷ []) rows else added new rows

-- the rows without the first of a type and id
abbrev pub removed : ResourceId → List Row → List Row
removed what rows = first_to (is_at what) [] rows

-- the rows where the first of a type and id becomes this one: in its place, or, where its type is another, as the last
-- of that
abbrev pub changed_to : ResourceId → Row → List Row → List Row
changed_to what new rows = if bytes_eq new.kind what.kind then first_to (is_at what) (new ∷ []) rows else added new (removed what rows)

-- whether a type and id aren't those that a row has, and another has them already
abbrev pub is_refused : ResourceId → ResourceId → List Row → Bool
is_refused what to rows = not (bytes_eq to.kind what.kind && int_eq to.id what.id) && is_there to rows

-- the table with other rows
abbrev pub with_rows : Table → List Row → Table
with_rows table rows = record { rows = rows; extra = table.extra; map_attributes = table.map_attributes }

-- what a name becomes
abbrev pub name_after : NameChange → Option (List ℕ) → Option (List ℕ)
name_after Keep name = name
name_after Clear name = None
name_after (To other) name = Some other

-- what attributes become: bits are taken away, and then others added
abbrev pub attributes_after : AttributeChange → ResAttrs → ResAttrs
attributes_after change attributes = record { 0 = bit_or (bit_and attributes.0 (bit_not w8 change.take.0)) change.add.0 }

-- the row with these bytes, where one with this name and these attributes is changed
abbrev pub row_with : Change → Option (List ℕ) → ResAttrs → List ℕ → Row
row_with change name attributes bytes = record {
  kind = change.to.kind;
  id = change.to.id;
  name = name_after change.name name;
  attributes = attributes_after change.attributes attributes;
  datum = bytes;
}

-- the row that a row becomes
abbrev pub row_as : Change → Row → Row
row_as change row = row_with change row.name row.attributes row.datum

-- the row with these bytes, where one is changed that was found, or a new one
abbrev pub row_to_put : Change → List ℕ → Option Row → Row
row_to_put change bytes None = row_with change None (record { 0 = 0 }) bytes
row_to_put change bytes (Some row) = row_with change row.name row.attributes bytes
