-- What is read of a fork that isn't damaged.
use Rattle.std.specs.Prelude.{◌≡◌, ℕ, List, map, Option, None, Some}
use Rattle.fork_bytes.specs.Rows.{Row}
use Rattle.fork_bytes.specs.Fork.{IsForkWithin, table_of, format_limits}
use Rattle.fork_salvage.specs.declared.reference.FoundName.{FoundName}
use Rattle.fork_salvage.specs.declared.reference.FoundName.TheVariants.{Unnamed, Named, Outside}
use Rattle.fork_salvage.specs.declared.found.FoundRow.{FoundRow}
use Rattle.fork_salvage.specs.declared.salvage.Item.{Item}
use Rattle.fork_salvage.specs.declared.salvage.Item.TheVariants as item
use Rattle.fork_salvage.specs.Salvage.{name_part, part, items}

-- the bytes of a name that was found
abbrev pub name_shown : List ℕ → FoundName → Option (List ℕ)
name_shown fork Unnamed = None
name_shown fork (Named span) = Some (name_part fork span)
name_shown fork (Outside place) = None

-- the row of a resource that can be read
abbrev pub row_of : List ℕ → FoundRow → Row
row_of fork found = record {
  kind = found.kind;
  id = found.id;
  name = name_shown fork found.name;
  attributes = found.attributes;
  datum = part fork found.bytes;
}

-- the row that an item shows, if it is one
abbrev pub row_shown : List ℕ → Item → Option Row
row_shown fork (item.Row found) = Some (row_of fork found)
row_shown fork (item.Lost lost) = None
row_shown fork item.More = None
row_shown fork (item.Run span) = None

-- of a fork that is read, the items are the rows of its table, each once
abbrev pub ShowsTable : Type 0
ShowsTable = (fork : List ℕ) → IsForkWithin format_limits fork → map (row_shown fork) (items fork) ≡ map Some (table_of fork).rows
