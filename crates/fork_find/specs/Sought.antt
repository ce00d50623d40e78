-- Which resources are sought.
use Rattle.std.specs.Prelude.{ℕ, ℤ, ◌&&◌, Bool, true, false, List, [], ◌∷◌, length, Option, None, Some, is_some, Vec, if◌then◌else◌}
use Rattle.std.specs.Global.{Global}
use Rattle.std.specs.List.{flat_map}
use Rattle.std.specs.Ordering.{int_eq}
use Rattle.memchr.specs.Find.{first_of, matches}
use Rattle.fork_bytes.specs.Rows.{Row}
use Rattle.fork_list.specs.Compressed.{unpacked_length}
use Rattle.fork_list.specs.Listing.{is_chosen, listing}
use Rattle.fork_list.specs.declared.letters.Letters.TheVariants.{Roman}
use Rattle.fork_find.specs.declared.Sought.{Sought}

-- there is a place at which these bytes are in others
abbrev pub has_bytes : List ℕ → List ℕ → Bool
has_bytes all part = is_some (first_of (matches all part 0))

-- the same of bytes that are sought, if some are
abbrev pub has_all : List ℕ → Option (Vec ℕ Global) → Bool
has_all all None = true
has_all all (Some part) = has_bytes all part.items

-- the letters that are sought are in the name, if some are
abbrev pub has_letters : Option (List ℕ) → Option (Vec ℕ Global) → Bool
has_letters name None = true
has_letters None (Some letters) = false
has_letters (Some name) (Some letters) = has_bytes name letters.items

-- the id is the one that is sought, if one is
abbrev pub has_id : ℤ → Option ℤ → Bool
has_id id None = true
has_id id (Some sought) = int_eq id sought

-- a resource is sought: its type, its id, letters of its name and bytes of its own are
abbrev pub is_sought : Sought → Row → Bool
is_sought sought row = is_chosen sought.kinds.items row.kind && (has_id row.id sought.id && (has_letters row.name sought.name && has_all row.datum sought.bytes))

-- the line of a list that shows a resource, if it is sought
unfoldable pub found_line : Sought → Row → List ℕ
found_line sought row = if is_sought sought row then listing length unpacked_length Roman [] (row ∷ []) else []

-- a line for each resource that is sought
abbrev pub found_lines : Sought → List Row → List ℕ
found_lines sought rows = flat_map (found_line sought) rows
